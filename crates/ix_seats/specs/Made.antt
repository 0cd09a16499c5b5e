-- What a lane's call gave it, and how that takes the lane on.
use Rattle.std.specs.Prelude.{◌≡◌, ℕ, true, Some, None, IfSome}
use Rattle.ix_record.specs.declared.value.RecordValue.{RecordValue}
use Rattle.ix_unit.specs.declared.value.RecordDep.{RecordDep}
use Rattle.ix_model.specs.Units.{Units}
use Rattle.ix_answers.specs.Meanings.{IsRecord}
use Rattle.ix_lanes.specs.Progress.{Progress, told, with_loaded, is_asking}
use Rattle.ix_seats.specs.declared.made.Made.{Made}
use Rattle.ix_seats.specs.declared.made.Made.TheVariants.{Ended, Loaded, TakenUp, LetGo}
use Rattle.ix_seats.specs.Seats.{IsVersionAt}

-- how far the lane is after its call
abbrev pub after : Made → Progress → Progress
after (Ended outcome) p = told outcome p
after (Loaded name body) p = with_loaded name p
after (TakenUp outcome version) p = told outcome p
after (LetGo outcome) p = told outcome p

-- what the call gave fits what the lane holds after it: nothing but a version taken up or let go changes what is held; a record that was loaded for the ask is the value
-- that each record of its name has in the units at the mark; a version that was taken up is that of the mark which the lane then holds
abbrev pub IsGiven : (ℕ → Units) → Progress → Made → Type 0
IsGiven seen p (Ended outcome) = (told outcome p).held ≡ p.held
IsGiven seen p (Loaded name body) = (is_asking p ≡ true) × IfSome p.held (λ mark. (dep : RecordDep) (other : RecordValue) → IsRecord (seen mark) dep other → dep.name ≡ name → other ≡ body.value)
IsGiven seen p (TakenUp outcome version) = (mark : ℕ) × ((told outcome p).held ≡ Some mark) × IsVersionAt seen mark version.value
IsGiven seen p (LetGo outcome) = (told outcome p).held ≡ None
