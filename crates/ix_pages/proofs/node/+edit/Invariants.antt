use Rattle.std.proofs.Common.{length}
use Rattle.ix_pages.proofs.node.+edit.Given as goal

abbrev pub decreases-edit : goal.decreases-edit
decreases-edit g l = length l.children.now
