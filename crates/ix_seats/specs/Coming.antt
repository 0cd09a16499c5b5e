-- What an ask under way comes to: the record that it lacks, or its result.
use Rattle.std.specs.Prelude.{◌≡◌, ℕ, List, Option, Some, None, IfSome}
use Rattle.ix_types.specs.declared.row.Query.{Query}
use Rattle.ix_model.specs.Units.{Units}
use Rattle.ix_held.specs.declared.asks.Next.{Next}
use Rattle.ix_held.specs.declared.asks.Next.TheVariants.{Lacks, Rows}
use Rattle.ix_asking.specs.Open.{IsOpen}
use Rattle.ix_asking.specs.declared.open_ask.OpenAsk.{OpenAsk}
use Rattle.ix_lanes.specs.Calls as turn
use Rattle.ix_lanes.specs.Calls.{Turn}
use Rattle.ix_lanes.specs.declared.answered.AskResult.TheVariants as result
use Rattle.ix_lanes.specs.Progress.{Progress, answered}
use Rattle.ix_lanes.specs.Views.{Under}
use Rattle.ix_seats.specs.Seated.{Seated, asked, HasAsk}
use Rattle.ix_seats.specs.Seats.{lacks, ends}

-- the query of a turn that is an ask
abbrev pub query_of : Turn → Option Query
query_of (turn.Lease names) = None
query_of (turn.Put body) = None
query_of (turn.Stage unit) = None
query_of turn.Publish = None
query_of (turn.Remove output) = None
query_of turn.Scan = None
query_of turn.Import = None
query_of turn.Adopt = None
query_of turn.Release = None
query_of turn.Collect = None
query_of (turn.Ask query) = Some query

-- the ask is one over the units at the mark that is held
abbrev pub IsOpenAt : (ℕ → Units) → Under → OpenAsk → Type 0
IsOpenAt seen lane opened = IfSome lane.progress.held (λ mark. IfSome (asked lane.progress) (λ query. IsOpen query (seen mark) lane.bodies opened))

-- it lacks the record, and may not end without it; or it ends so
abbrev pub IsComing : (ℕ → Units) → Under → Option Next → Type 0
IsComing seen lane None = ends seen lane.progress ≡ Some result.NoneHeld
IsComing seen lane (Some (Lacks name opened)) = (lacks seen lane.progress ≡ Some name) × (ends seen lane.progress ≡ None) × IsOpenAt seen lane opened
IsComing seen lane (Some (Rows rows)) = ends seen lane.progress ≡ Some (result.Rows rows)

-- an ask that stays open may be gone on with
abbrev pub IsSafeComing : Under → Option Next → Type 0
IsSafeComing lane None = Unit {0}
IsSafeComing lane (Some (Lacks name opened)) = HasAsk lane.progress lane.bodies (Some opened)
IsSafeComing lane (Some (Rows rows)) = Unit {0}

-- the record that is lacking
abbrev pub lacking_in : Option Next → Option (List ℕ)
lacking_in None = None
lacking_in (Some (Lacks name opened)) = Some name
lacking_in (Some (Rows rows)) = None

-- the ask that stays open
abbrev pub open_in : Option Next → Option OpenAsk
open_in None = None
open_in (Some (Lacks name opened)) = Some opened
open_in (Some (Rows rows)) = None

-- how far the lane is then
abbrev pub progress_in : Option Next → Progress → Progress
progress_in None p = answered result.NoneHeld p
progress_in (Some (Lacks name opened)) p = p
progress_in (Some (Rows rows)) p = answered (result.Rows rows) p

-- the seat then
abbrev pub followed : Option Next → Seated → Seated
followed next seat = record {
  lane = record { progress = progress_in next seat.lane.progress; bodies = seat.lane.bodies };
  version = seat.version;
  ask = open_in next;
}
