use Rattle.std.proofs.Common.{length}
use Rattle.ix_pages.proofs.node.+entry_in.Given as goal

abbrev pub decreases-entry_in : goal.decreases-entry_in
decreases-entry_in g l = length l.children.now
