use Rattle.std.proofs.Common.{ap}
use Rattle.ix_lanes.specs.Progress.{Progress, told}
use Rattle.ix_seats.proofs.Marks.{told-loaded, noted-failed, noted-other}
use Rattle.ix_seats.proofs.laws.calls_take_lanes_on.Goals as goal

pub returns-clause-loaded : goal.returns-clause-loaded
returns-clause-loaded c lane name p asks = told-loaded lane name p asks

pub returns-clause-failed : goal.returns-clause-failed
returns-clause-failed c event p failed = ap (λ (q : Progress). told event.outcome q) (noted-failed event p failed)

pub returns-clause-others : goal.returns-clause-others
returns-clause-others c event p other = ap (λ (q : Progress). told event.outcome q) (noted-other event p other)
