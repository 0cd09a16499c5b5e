use Rattle.std.proofs.Common.{length}
use Rattle.ix_pages.proofs.node.+pages_in_all.Given as goal

abbrev pub decreases-pages_in_all : goal.decreases-pages_in_all
decreases-pages_in_all g l = length l.children.now
