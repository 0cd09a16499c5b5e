-- Looking for a USR among those of some symbols.
use Rattle.std.specs.Prelude.{◌≡◌, ◌<◌, ℕ, List, length, slice_get, ◌++◌, ◌∷◌, [], Bool, false, ◌||◌, Option, None, Some, Vec}
use Rattle.std.specs.declared.alloc.Global.{Global}
use Rattle.std.specs.List.{list_any}
use Rattle.std.specs.Str.{bytes_eq}
use Rattle.std.specs.Ordering.{nat_cmp}
use Rattle.std.specs.BTreeMap.{BTreeMap, get}
use Rattle.std.specs.Hash.FoldHasher.{write, finish, initial}
use Rattle.ix_plan.specs.declared.plan.SymbolPlan.{SymbolPlan}
use Rattle.ix_plan.specs.Plans.{is_usr_of}

-- the number by which a USR is looked for
unfoldable pub digest_of : List ℕ → ℕ
digest_of usr = finish (write initial usr)

-- whether some key is the USR
abbrev pub has_key : List (Vec ℕ Global) → List ℕ → Bool
has_key keys usr = list_any (λ key. bytes_eq usr key.items) keys

-- whether the symbol has the USR
abbrev pub is_usr : Option SymbolPlan → List ℕ → Bool
is_usr None usr = false
is_usr (Some symbol) usr = bytes_eq usr symbol.usr

-- whether the symbol of a place has the USR
abbrev pub is_at_place : List SymbolPlan → Option ℕ → List ℕ → Bool
is_at_place symbols None usr = false
is_at_place symbols (Some place) usr = is_usr (slice_get symbols place) usr

-- whether the first symbol of the USR's digest has it, or it is among the others
abbrev pub is_kept : BTreeMap ℕ ℕ → List (Vec ℕ Global) → List SymbolPlan → List ℕ → Bool
is_kept firsts others symbols usr = is_at_place symbols (get nat_cmp firsts (digest_of usr)) usr || has_key others usr

-- places of these symbols by their digests, and the other USRs, find the USRs of the symbols
pub record Keeps (firsts : BTreeMap ℕ ℕ) (others : List (Vec ℕ Global)) (symbols : List SymbolPlan) : Type 0 where
  pub places : (digest place : ℕ) → get nat_cmp firsts digest ≡ Some place → place < length symbols
  pub usrs : (usr : List ℕ) → is_kept firsts others symbols usr ≡ is_usr_of symbols usr

-- the same of these symbols and one more, which has that USR
abbrev pub KeepsNext : BTreeMap ℕ ℕ → List (Vec ℕ Global) → List SymbolPlan → List ℕ → Type 0
KeepsNext firsts others symbols usr = (symbol : SymbolPlan) → symbol.usr ≡ usr → Keeps firsts others (symbols ++ symbol ∷ [])
