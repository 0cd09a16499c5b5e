use Rattle.std.proofs.Common.{ap}
use Rattle.ix_looks.proofs.Led.{scan_leads, scan_stamps}
use Rattle.ix_looks.proofs.looks.scan.Goals as goal

pub returns-clause-leads : goal.returns-clause-leads
returns-clause-leads g c s shelf before holds are =
    scan_leads c.given.ensures g.N.Naming.name_of s shelf before c.args.known.now (g.D.Dir.state c.args.dir.now).moves c.scan.result holds are c.scan.ensures.changed c.scan.ensures.gone c.scan.ensures.stamps c.scan.ensures.fresh c.scan.ensures.at

pub returns-clause-stamps : goal.returns-clause-stamps
returns-clause-stamps g c s shelf holds =
    scan_stamps c.given.ensures g.N.Naming.name_of s shelf (g.D.Dir.state c.args.dir.now).moves (g.D.Dir.state c.scan.new.dir).moves c.scan.result holds (ap (λ d. d.moves) c.scan.ensures.state) c.scan.ensures.stamps
