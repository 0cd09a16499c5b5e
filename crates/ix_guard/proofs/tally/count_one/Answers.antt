use Rattle.std.proofs.Common.{rules, ◌≡◌, ◌+◌, ℕ, List, arith}
use Rattle.ix_guard.specs.Counts.{count_at}
use Rattle.ix_guard.proofs.Tallying.{counted_once, needed_once}
use Rattle.ix_guard.proofs.tally.count_one.Goals as goal

pub returns-clause-needed : goal.returns-clause-needed
returns-clause-needed c =
    let more : c.in_ok-more.more ≡ count_at c.args.tally.now.entries c.args.name + 1 = search rules in
    needed_once c.args.tally.now.entries c.set_count.new.tally.entries c.args.name c.in_ok-more.more c.in_ok-set_count.ensures (omega (arith, more)) c.requires

pub returns-clause-each : goal.returns-clause-each
returns-clause-each c =
    let more : c.in_ok-more.more ≡ count_at c.args.tally.now.entries c.args.name + 1 = search rules in
    counted_once c.args.tally.now.entries c.set_count.new.tally.entries c.args.name c.in_ok-more.more c.in_ok-set_count.ensures more
