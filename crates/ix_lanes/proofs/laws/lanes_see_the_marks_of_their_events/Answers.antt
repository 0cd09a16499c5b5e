use Rattle.ix_lanes.specs.Tasks.{kind_of}
use Rattle.ix_lanes.proofs.Held.{held_after, same_progress}
use Rattle.ix_lanes.proofs.laws.lanes_see_the_marks_of_their_events.Goals as goal

pub returns-clause-held : goal.returns-clause-held
returns-clause-held c outcome p = held_after (kind_of p.tasks) outcome p

pub returns-clause-same : goal.returns-clause-same
returns-clause-same c seen other tasks events agree = same_progress seen other tasks events agree
