use Rattle.std.proofs.Common.{◌≡◌, map, take}
use Rattle.ix_lanes.specs.Progress.{begun}
use Rattle.ix_lanes.specs.Tasks.{tasks_of}
use Rattle.ix_replay.proofs.replaying.lanes_of.Given as goal

-- the lanes so far are begun
abbrev pub invariant-loop-steps : goal.invariant-loop-steps
invariant-loop-steps g l = map (λ lane. lane.progress) l.lanes.items ≡ map begun (map (tasks_of g.N.Naming.name_of) (take l.steps-index l.script.lanes))
