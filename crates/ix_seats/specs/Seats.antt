-- A lane in its seat, over the units that are seen at each mark.
use Rattle.std.specs.Prelude.{◌≡◌, ◌<◌, ℕ, List, drop, length, Option, Some, None, option_and_then, IfSome}
use Rattle.ix_model.specs.Units.{Units, NamesRise}
use Rattle.ix_answers.specs.Needs.{next_need}
use Rattle.ix_needs.specs.Premises.{Holds}
use Rattle.ix_outline.specs.Known.{AreTables}
use Rattle.ix_tables.specs.declared.tables.Version.{Version}
use Rattle.ix_asking.specs.Open.{IsOpen}
use Rattle.ix_lanes.specs.declared.answered.AskResult.{AskResult}
use Rattle.ix_lanes.specs.Progress.{Progress, ended_at, settled}
use Rattle.ix_lanes.specs.Tasks.{Task}
use Rattle.ix_seats.specs.Seated.{Seated, asked}

-- the version is that of the units at the mark, which stand in the order of their names
pub record IsVersionAt (seen : ℕ → Units) (mark : ℕ) (version : Version) : Type 0 where
  pub number : version.number ≡ mark
  pub rises : NamesRise (seen mark)
  pub tables : AreTables (seen mark) version.tables

-- there is a version exactly where a mark is held, and it is that of the mark
abbrev pub HasVersion : (ℕ → Units) → Option ℕ → Option Version → Type 0
HasVersion seen None None = Unit {0}
HasVersion seen None (Some version) = ⊥
HasVersion seen (Some mark) None = ⊥
HasVersion seen (Some mark) (Some version) = IsVersionAt seen mark version

-- the version is that of the mark which the lane holds, the loaded bodies are the values of the units there, and an ask that is open is one over these units
pub record IsSeat (seen : ℕ → Units) (seat : Seated) : Type 0 where
  pub version : HasVersion seen seat.lane.progress.held seat.version
  pub bodies : IfSome seat.lane.progress.held (λ mark. Holds (seen mark) seat.lane.bodies)
  pub asks : IfSome seat.ask (λ opened. IfSome seat.lane.progress.held (λ mark. IfSome (asked seat.lane.progress) (λ query. IsOpen query (seen mark) seat.lane.bodies opened)))

-- the record that the ask under way lacks
abbrev pub lacks : (ℕ → Units) → Progress → Option (List ℕ)
lacks seen p = option_and_then (λ query. option_and_then (λ mark. next_need query (seen mark) p.loaded) p.held) (asked p)

-- how the ask under way ends without a further load; None where a record is lacking
abbrev pub ends : (ℕ → Units) → Progress → Option AskResult
ends seen p = option_and_then (λ query. ended_at seen query p.held p.loaded) (asked p)

-- the ask under way lacks the record, and isn't answered without it
pub record IsLacking (seen : ℕ → Units) (p : Progress) (name : List ℕ) : Type 0 where
  pub lacks : lacks seen p ≡ Some name
  pub waits : settled seen p ≡ p

-- an ask fewer is left, or a record is lacking and the lane is where it was
abbrev pub GoesOn : Progress → Progress → Option (List ℕ) → Type 0
GoesOn before after None = length after.tasks < length before.tasks
GoesOn before after (Some name) = after ≡ before

-- of the tasks so many in front are over, and all others are left
pub record AreLeft (before after : List Task) : Type 0 where
  pub gone : ℕ
  pub is : after ≡ drop gone before
