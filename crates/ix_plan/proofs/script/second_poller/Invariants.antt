use Rattle.std.proofs.Common.{◌≡◌, drop, cond}
use Rattle.ix_plan.specs.Reading.{first_poller, second_poller}
use Rattle.ix_plan.proofs.script.second_poller.Given as goal

abbrev pub invariant-loop-index : goal.invariant-loop-index
invariant-loop-index l =
    second_poller 0 l.lanes
    ≡ cond l.one_polls (first_poller l.index (drop l.index l.lanes)) (second_poller l.index (drop l.index l.lanes))
