-- A lane in its seat: how far it is, the version that it holds, and its open ask.
use Rattle.std.specs.Prelude.{◌≡◌, List, [], ◌∷◌, Option, Some, None, IfSome}
use Rattle.ix_types.specs.declared.row.Query.{Query}
use Rattle.ix_tables.specs.declared.tables.Version.{Version}
use Rattle.ix_lookups.specs.Loaded.{Loaded}
use Rattle.ix_asking.specs.Open.{IsSafe}
use Rattle.ix_asking.specs.declared.open_ask.OpenAsk.{OpenAsk}
use Rattle.ix_lanes.specs.Progress.{Progress}
use Rattle.ix_lanes.specs.Tasks.{Task, Build, Remove, Poll, Refresh, Ask, Release, Collect}
use Rattle.ix_lanes.specs.Views.{Under}

pub record Seated : Type 0 where
  pub lane : Under
  pub version : Option Version
  pub ask : Option OpenAsk

-- the query of the first task, where it is an ask
abbrev pub asked_by : List Task → Option Query
asked_by [] = None
asked_by (Build job ∷ tasks) = None
asked_by (Remove output ∷ tasks) = None
asked_by (Poll ∷ tasks) = None
asked_by (Refresh ∷ tasks) = None
asked_by (Ask query ∷ tasks) = Some query
asked_by (Release ∷ tasks) = None
asked_by (Collect ∷ tasks) = None

-- the query of the ask under way
abbrev pub asked : Progress → Option Query
asked p = asked_by p.tasks

-- an ask that is open is that of the query under way, and may be gone on with
abbrev pub HasAsk : Progress → Loaded → Option OpenAsk → Type 0
HasAsk p bodies ask = IfSome ask (λ opened. (query : Query) × (asked p ≡ Some query) × IsSafe query bodies opened)
