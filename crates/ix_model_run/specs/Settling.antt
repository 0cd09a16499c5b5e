-- The ask under way of a lane: how it ends, and which record an event gives it.
use Rattle.std.specs.Prelude.{ℕ, if◌then◌else◌, List, [], ◌∷◌, Option, Some, None, option_and_then}
use Rattle.ix_types.specs.declared.row.Query.{Query}
use Rattle.ix_model.specs.Units.{Units}
use Rattle.ix_machine.specs.declared.event.Event.{Event}
use Rattle.ix_lanes.specs.Calls as turn
use Rattle.ix_lanes.specs.Calls.{Turn}
use Rattle.ix_lanes.specs.declared.answered.AskResult.{AskResult}
use Rattle.ix_lanes.specs.Progress.{Progress, ended_at, is_asking, loaded_by}
use Rattle.ix_machine.specs.Outcomes.{is_done}
use Rattle.ix_lanes.specs.Tasks.{Task, Build, Remove, Poll, Refresh, Ask, Release, Collect}

-- the query of a turn that is an ask
abbrev pub query_of : Turn → Option Query
query_of (turn.Lease names) = None
query_of (turn.Put body) = None
query_of (turn.Stage unit) = None
query_of turn.Publish = None
query_of (turn.Remove output) = None
query_of turn.Scan = None
query_of turn.Import = None
query_of turn.Adopt = None
query_of turn.Release = None
query_of turn.Collect = None
query_of (turn.Ask query) = Some query

-- the query of the first task, where it is an ask
abbrev pub asked_by : List Task → Option Query
asked_by [] = None
asked_by (Build job ∷ tasks) = None
asked_by (Remove output ∷ tasks) = None
asked_by (Poll ∷ tasks) = None
asked_by (Refresh ∷ tasks) = None
asked_by (Ask query ∷ tasks) = Some query
asked_by (Release ∷ tasks) = None
asked_by (Collect ∷ tasks) = None

abbrev pub asked : Progress → Option Query
asked p = asked_by p.tasks

-- how the ask under way ends without a further load; None where a record is lacking, or where no ask is under way
abbrev pub ends : (ℕ → Units) → Progress → Option AskResult
ends seen p = option_and_then (λ query. ended_at seen query p.held p.loaded) (asked p)

-- the record that an event gives the ask under way
abbrev pub given_by : Event → Progress → Option (List ℕ)
given_by event p = if is_asking p then (if is_done event.outcome then loaded_by event.call else None) else None
