use Rattle.std.proofs.Common.{length}
use Rattle.ix_pages.proofs.node.+page_in.Given as goal

abbrev pub decreases-page_in : goal.decreases-page_in
decreases-page_in g l = length l.children.now
