use Rattle.ix_allowed.proofs.May.{next_may, call_may}
use Rattle.ix_allowed.proofs.laws.each_call_may_be_made.Goals as goal

pub returns-clause-of_a_lane : goal.returns-clause-of_a_lane
returns-clause-of_a_lane c name_of poller s lane p given all agrees e =
    next_may c.what_is_loaded_is_needed.ensures.asked c.what_is_loaded_is_needed.ensures.imported name_of poller s lane p given all agrees e

pub returns-clause-of_a_run : goal.returns-clause-of_a_run
returns-clause-of_a_run c name_of poller lanes run lane given ready agrees e =
    call_may c.what_is_loaded_is_needed.ensures.asked c.what_is_loaded_is_needed.ensures.imported name_of poller lanes run lane given ready agrees e
