-- An ask that is open: the question's place, or the walk's, is right over some units and loaded records.
use Rattle.std.specs.Prelude.{◌≡◌, true, false}
use Rattle.ix_types.specs.declared.row.Query.{Query}
use Rattle.ix_model.specs.Units.{Units}
use Rattle.ix_answers.specs.Needs.{need_of}
use Rattle.ix_lookups.specs.Loaded.{Loaded}
use Rattle.ix_needs.specs.Premises.{is_plain}
use Rattle.ix_query.specs.Asked as plain
use Rattle.ix_query.specs.Asked.{Asked}
use Rattle.ix_levels.specs.Trail as walk
use Rattle.ix_levels.specs.Trail.{IsDone}
use Rattle.ix_asking.specs.declared.open_ask.OpenAsk.{OpenAsk}
use Rattle.ix_asking.specs.declared.open_ask.OpenAsk.TheVariants.{Plain, Walk}

-- the question is that of the query, which is no walk, and what it has passed is loaded
pub record IsOpenQuestion (query : Query) (units : Units) (bodies : Loaded) (asked : Asked) : Type 0 where
  pub is_plain : is_plain query ≡ true
  pub needs : asked.needed ≡ need_of query units
  pub passed : plain.IsOpenOver asked bodies

-- the ask is that of the query over the units, and what it has passed is loaded
abbrev pub IsOpen : Query → Units → Loaded → OpenAsk → Type 0
IsOpen query units bodies (Plain asked) = IsOpenQuestion query units bodies asked
IsOpen query units bodies (Walk trail) = walk.IsOpenOver query units bodies trail

-- a walk goes no further; a question needs nothing more for it
abbrev pub IsAnswered : OpenAsk → Type 0
IsAnswered (Plain asked) = Unit {0}
IsAnswered (Walk trail) = IsDone trail

-- whatever the units: the question is one of a query that is no walk, and has passed nothing but what is loaded; a walk is one of a query that is one
abbrev pub IsSafe : Query → Loaded → OpenAsk → Type 0
IsSafe query bodies (Plain asked) = (is_plain query ≡ true) × plain.IsOpenOver asked bodies
IsSafe query bodies (Walk trail) = is_plain query ≡ false
