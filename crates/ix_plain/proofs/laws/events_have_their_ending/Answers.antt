use Rattle.std.proofs.Common.{◌≡◌, List, refl, sym, ap, ◌∙◌, Bool, true, false, if◌then◌else◌}
use Rattle.std.specs.List.{list_any}
use Rattle.ix_machine.specs.declared.event.Event.{Event}
use Rattle.ix_turns.specs.Ended.{is_missed}
use Rattle.ix_counts.specs.Counting.{is_failure}
use Rattle.ix_plain.specs.declared.ending.Ending.{Ending}
use Rattle.ix_plain.specs.declared.ending.Ending.TheVariants.{Done, BadScript, DirFault, WriteFault, Memory, TooLarge, OpenFault, StoreDamaged}
use Rattle.ix_plain.proofs.laws.events_have_their_ending.Goals as goal

abbrev ending_by : Bool → Bool → Ending
ending_by missed failed = if missed then StoreDamaged else if failed then DirFault else Done

abbrev missed_of : Ending → Bool
missed_of Done = false
missed_of (BadScript refusal) = false
missed_of DirFault = false
missed_of WriteFault = false
missed_of Memory = false
missed_of TooLarge = false
missed_of OpenFault = false
missed_of StoreDamaged = true

abbrev failed_of : Bool → Ending → Bool
failed_of other Done = false
failed_of other (BadScript refusal) = other
failed_of other DirFault = true
failed_of other WriteFault = other
failed_of other Memory = other
failed_of other TooLarge = other
failed_of other OpenFault = other
failed_of other StoreDamaged = other

by_missed : (missed failed : Bool) → missed_of (ending_by missed failed) ≡ missed
by_missed true failed = refl
by_missed false true = refl
by_missed false false = refl

by_failed : (missed failed : Bool) → failed_of failed (ending_by missed failed) ≡ failed
by_failed true failed = refl
by_failed false true = refl
by_failed false false = refl

abbrev missed_in : List Event → Bool
missed_in events = list_any (λ (event : Event). is_missed event.outcome) events

abbrev failed_in : List Event → Bool
failed_in events = list_any (λ (event : Event). is_failure event.outcome) events

pub returns-clause-done : goal.returns-clause-done
returns-clause-done c events is = (sym (by_missed (missed_in events) (failed_in events)) ∙ ap missed_of is, sym (by_failed (missed_in events) (failed_in events)) ∙ ap (failed_of (failed_in events)) is)

pub returns-clause-fault : goal.returns-clause-fault
returns-clause-fault c events is = (sym (by_missed (missed_in events) (failed_in events)) ∙ ap missed_of is, sym (by_failed (missed_in events) (failed_in events)) ∙ ap (failed_of (failed_in events)) is)

pub returns-clause-damaged : goal.returns-clause-damaged
returns-clause-damaged c events is = sym (by_missed (missed_in events) (failed_in events)) ∙ ap missed_of is
