use Rattle.ix_turn_order.proofs.Marks.{earlier_mark, held_mark}
use Rattle.ix_turn_order.proofs.laws.earlier_marks_stay.Goals as goal

pub returns-clause-marks : goal.returns-clause-marks
returns-clause-marks c name_of lanes run longer lane flag mark fits e within =
    earlier_mark c.the_latest_publication_stands.ensures.prefix run longer (c.runs_keep_their_marks.ensures.falls name_of lanes run longer lane flag fits e) mark within

pub returns-clause-held : goal.returns-clause-held
returns-clause-held c name_of lanes run longer lane other flag tasks fits holds e there =
    held_mark c.the_latest_publication_stands.ensures.prefix run longer (c.runs_keep_their_marks.ensures.falls name_of lanes run longer lane flag fits e) lanes other tasks fits holds there
