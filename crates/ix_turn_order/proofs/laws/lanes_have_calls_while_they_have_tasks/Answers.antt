use Rattle.ix_turn_order.proofs.Calls.{call_is_task}
use Rattle.ix_turn_order.proofs.laws.lanes_have_calls_while_they_have_tasks.Goals as goal

pub returns : goal.returns
returns c name_of lanes run lane tasks there = call_is_task name_of lanes run lane tasks there
