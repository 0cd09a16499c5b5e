use Rattle.std.proofs.Common.{◌≡◌, Option, IfSome, subst}
use Rattle.ix_machine.specs.Given.{Given}
use Rattle.ix_machine.specs.State.{held_by}
use Rattle.ix_machine.specs.Step.{Stepped, step}
use Rattle.ix_lanes.specs.Progress.{told}
use Rattle.ix_replays.proofs.Holds.{next_along}
use Rattle.ix_replays.proofs.laws.calls_hold_what_lanes_hold.Goals as goal

pub returns : goal.returns
returns c name_of seen s lane current p given flag stepped here agree calls is =
    subst (λ (o : Option Stepped). IfSome o (λ st. held_by st.state lane ≡ (told st.outcome p).held)) is
    (subst (λ (o : Option Given). IfSome o (λ g. IfSome (step name_of s lane g flag) (λ st. held_by st.state lane ≡ (told st.outcome p).held))) calls
    (next_along name_of seen s lane here current p.tasks p.doing p.held p.loaded p.answers flag agree))
