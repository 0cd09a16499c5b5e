use Rattle.std.proofs.Common.{ap}
use Rattle.ix_ledger.specs.Books.{Books}
use Rattle.ix_library.proofs.Installing.{install_takes}
use Rattle.ix_library.proofs.library.Library.install.Goals as goal

pub returns-clause-step : goal.returns-clause-step
returns-clause-step g c s stands =
    install_takes c.given.ensures c.each_step_is_the_machines.ensures.installs g.N.Naming.name_of s c.args.lane c.args.self.now.ledger.kept c.install.new.self.kept c.args.self.now.known c.install_stamps.new.known c.args.self.now.shelf (g.D.Dir.state c.args.self.now.dir) c.in_ok-mark.mark
    stands c.requires.own (ap (λ (b : Books). b.kept) c.in_ok-mark.ensures.installed) c.in_ok-mark.ensures.mark c.install_stamps.ensures
