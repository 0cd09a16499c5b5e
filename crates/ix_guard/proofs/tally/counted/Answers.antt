use Rattle.std.proofs.Common.{None, Some}
use Rattle.ix_guard.proofs.Tallying.{count_found}
use Rattle.ix_guard.proofs.tally.counted.Goals as goal

pub returns-in-None : goal.returns-in-None
returns-in-None c = count_found c.args.tally.now.entries c.args.name.now None c.in-None.ensures.value

pub returns-in-Some : goal.returns-in-Some
returns-in-Some c = count_found c.args.tally.now.entries c.args.name.now (Some c.in-Some.count.now) c.in-Some.ensures.value
