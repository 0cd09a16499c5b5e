use Rattle.std.proofs.Common.{length}
use Rattle.ix_pages.proofs.bulk.+built.Given as goal

abbrev pub decreases-built : goal.decreases-built
decreases-built g l = length l.entries.now
