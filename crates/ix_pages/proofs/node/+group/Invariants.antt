use Rattle.std.proofs.Common.{length}
use Rattle.ix_pages.proofs.node.+group.Given as goal

abbrev pub decreases-group : goal.decreases-group
decreases-group g l = length l.children.now
