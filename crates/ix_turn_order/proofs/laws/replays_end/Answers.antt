use Rattle.ix_turn_order.proofs.Turns.{shown}
use Rattle.ix_turn_order.proofs.laws.replays_end.Goals as goal

pub returns : goal.returns
returns c name_of script opening run comes ended =
    shown name_of script opening (c.runs_show_their_order_and_flags.ensures.flags name_of script opening) run comes ended
