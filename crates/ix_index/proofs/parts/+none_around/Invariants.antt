use Rattle.std.proofs.Common.{length}
use Rattle.ix_index.proofs.parts.+none_around.Given as goal

abbrev pub decreases-none_around : goal.decreases-none_around
decreases-none_around g l = length l.keys.now
