use Rattle.std.proofs.Common.{subst}
use Rattle.ix_lanes.specs.Views.{Under}
use Rattle.ix_lanes.specs.Tasks.{kind_of}
use Rattle.ix_lanes.specs.Rules.{CountsOn}
use Rattle.ix_lanes.proofs.Counting.{counts_by}
use Rattle.ix_lanes.proofs.lane.Lane.counts_on.Goals as goal

pub returns : goal.returns
returns c can outcome =
    let counts = subst (λ (u : Under). CountsOn u.progress.doing) c.self.view_is (c.can_count.ensures can) in
    counts_by (kind_of c.args.self.now.progress.tasks) outcome c.args.self.now.progress counts
