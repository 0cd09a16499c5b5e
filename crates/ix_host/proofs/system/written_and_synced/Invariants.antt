use Rattle.std.proofs.Common.{length}
use Rattle.ix_host.proofs.system.written_and_synced.Given as goal

abbrev pub decreases-loop-rest : goal.decreases-loop-rest
decreases-loop-rest g l = length l.rest
