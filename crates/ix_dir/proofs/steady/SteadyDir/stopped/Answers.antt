use Rattle.std.proofs.Common.{subst}
use Rattle.ix_dir.specs.Crash.{standing}
use Rattle.ix_dir.specs.Images.{IsImage}
use Rattle.ix_dir.proofs.steady.SteadyDir.stopped.Goals as goal

pub returns-clause-possible : goal.returns-clause-possible
returns-clause-possible c = subst (λ d. IsImage d.moves (standing c.in_ok-inner.inner.moves)) c.self.view_is c.in_ok-inner.ensures.possible
