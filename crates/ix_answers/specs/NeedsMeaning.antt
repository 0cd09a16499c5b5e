-- Which records each query needs, in a user's words.
use Rattle.std.specs.Prelude.{ℕ, ◌<◌, Bool, List}
use Rattle.ix_model.specs.Rows.{rows}
use Rattle.ix_model.specs.Units.{Units}
use Rattle.ix_answers.specs.declared.walks.Walk.{Walk}
use Rattle.ix_answers.specs.declared.walks.Walk.TheVariants.{Incoming, Outgoing, Supertypes, Subtypes}
use Rattle.ix_record.specs.declared.value.Symbol.{Symbol}
use Rattle.ix_answers.specs.Pattern.{folded}
use Rattle.ix_answers.specs.Meanings.{IsProvider, IsRelated, IsNamed, IsCoded, IsSymbol, HasText}
use Rattle.ix_answers.specs.Paths.{IsPath}

-- the record holds a symbol of a USR that the name has
pub record IsNeededByName (units : Units) (name record_name : List ℕ) : Type 0 where
  pub usr : List ℕ
  pub has_usr : IsNamed units name usr
  pub provides : IsProvider units usr record_name

-- the same for a code generation name
pub record IsNeededByCodegen (units : Units) (codegen record_name : List ℕ) : Type 0 where
  pub usr : List ℕ
  pub has_usr : IsCoded units codegen usr
  pub provides : IsProvider units usr record_name

-- the same for the names that match a pattern
pub record IsNeededByPattern (units : Units) (text : List ℕ) (start end fold : Bool) (record_name : List ℕ) : Type 0 where
  pub symbol : Symbol
  pub is_symbol : IsSymbol units symbol
  pub has_text : HasText (folded fold text) start end (folded fold symbol.name)
  pub provides : IsProvider units symbol.usr record_name

-- the record may have an edge from the USR: callers and subtypes stand where the symbol does, callees and bases where a relation to it does
abbrev pub MayHaveEdges : Walk → Units → List ℕ → List ℕ → Type 0
MayHaveEdges Incoming units usr record_name = IsProvider units usr record_name
MayHaveEdges Outgoing units usr record_name = IsRelated units usr record_name
MayHaveEdges Supertypes units usr record_name = IsRelated units usr record_name
MayHaveEdges Subtypes units usr record_name = IsProvider units usr record_name

-- the record may have an edge from a USR to which a path leads that is shorter than the depth, and no shorter one
pub record IsNeededByWalk (walk : Walk) (units : Units) (start : List ℕ) (depth : ℕ) (record_name : List ℕ) : Type 0 where
  pub level : ℕ
  pub within : level < depth
  pub usr : List ℕ
  pub path : IsPath walk (rows units) start level usr
  pub shortest : (m : ℕ) → m < level → IsPath walk (rows units) start m usr → ⊥
  pub may_have : MayHaveEdges walk units usr record_name
