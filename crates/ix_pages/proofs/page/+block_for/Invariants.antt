use Rattle.std.proofs.Common.{length}
use Rattle.ix_pages.proofs.page.+block_for.Given as goal

abbrev pub decreases-block_for : goal.decreases-block_for
decreases-block_for g l = length l.entries.now
