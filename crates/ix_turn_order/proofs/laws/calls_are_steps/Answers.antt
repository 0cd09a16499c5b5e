use Rattle.std.proofs.Common.{refl}
use Rattle.ix_replays.specs.Run.{call_of, with_event}
use Rattle.ix_turn_order.proofs.Marks.{own_event}
use Rattle.ix_turn_order.proofs.Calls.{absent_has_none, ended_has_none, made_goes_on}
use Rattle.ix_turn_order.proofs.laws.calls_are_steps.Goals as goal

pub returns-clause-made : goal.returns-clause-made
returns-clause-made c name_of lanes run lane tasks given flag stepped there call taken = (flag, made_goes_on name_of lanes run lane tasks given flag stepped there call taken)

pub returns-clause-ended : goal.returns-clause-ended
returns-clause-ended c name_of lanes run lane tasks there none = (refl, ended_has_none name_of lanes run lane tasks there none)

pub returns-clause-absent : goal.returns-clause-absent
returns-clause-absent c name_of lanes run lane none = (refl, absent_has_none name_of lanes run lane none)

pub returns-clause-own : goal.returns-clause-own
returns-clause-own c name_of lanes run lane tasks given flag stepped fits there call taken =
    own_event run (with_event name_of run lane given stepped) lane tasks (record { lane = lane; call = call_of name_of run.state lane given; outcome = stepped.outcome }) refl
    (c.an_event_takes_its_own_lane_on.ensures.own name_of lanes run (with_event name_of run lane given stepped) lane flag tasks fits (made_goes_on name_of lanes run lane tasks given flag stepped there call taken))
