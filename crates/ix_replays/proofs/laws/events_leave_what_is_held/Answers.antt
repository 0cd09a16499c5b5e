use Rattle.std.proofs.Common.{◌≡◌, Option, IfSome, length, subst}
use Rattle.ix_machine.specs.Step.{Stepped}
use Rattle.ix_replays.proofs.Together.{event_held, step_length}
use Rattle.ix_replays.proofs.laws.events_leave_what_is_held.Goals as goal

pub returns-clause-event : goal.returns-clause-event
returns-clause-event c seen p event = event_held seen p event

pub returns-clause-lanes : goal.returns-clause-lanes
returns-clause-lanes c name_of s lane given flag stepped is = subst (λ (o : Option Stepped). IfSome o (λ st. length st.state.held ≡ length s.held)) is (step_length name_of s lane given flag)
