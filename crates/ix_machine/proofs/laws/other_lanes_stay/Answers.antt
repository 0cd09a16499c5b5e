use Rattle.ix_machine.proofs.Frames.{other_lane_stays}
use Rattle.ix_machine.proofs.laws.other_lanes_stay.Goals as goal

pub returns-clause-keeps : goal.returns-clause-keeps
returns-clause-keeps c = λ name_of s lane given flag stepped other e apart. other_lane_stays s lane other apart name_of given flag stepped e

pub returns-clause-lease : goal.returns-clause-lease
returns-clause-lease c = λ name_of s lane given flag stepped other e apart. (other_lane_stays s lane other apart name_of given flag stepped e).lease

pub returns-clause-hold : goal.returns-clause-hold
returns-clause-hold c = λ name_of s lane given flag stepped other e apart. (other_lane_stays s lane other apart name_of given flag stepped e).hold
