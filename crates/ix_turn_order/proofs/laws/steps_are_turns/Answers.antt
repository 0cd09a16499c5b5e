use Rattle.ix_turn_order.proofs.Turns.{begins, first, ordered}
use Rattle.ix_turn_order.proofs.laws.steps_are_turns.Goals as goal

pub returns-clause-begins : goal.returns-clause-begins
returns-clause-begins c name_of lanes run order fits = begins name_of lanes run order fits

pub returns-clause-ordered : goal.returns-clause-ordered
returns-clause-ordered c name_of lanes start run next order rest lane made comes goes =
    ordered name_of lanes (c.runs_keep_their_marks.ensures.kept name_of lanes) start run next order rest lane made comes goes

pub returns-clause-first : goal.returns-clause-first
returns-clause-first c name_of lanes start run next order lane made within comes ended goes =
    first name_of lanes (c.runs_keep_their_marks.ensures.kept name_of lanes) start run next order lane made within comes ended goes
