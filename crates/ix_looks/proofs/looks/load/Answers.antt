use Rattle.ix_looks.proofs.Needed.{load_value}
use Rattle.ix_looks.proofs.looks.load.Goals as goal

pub returns-clause-needed : goal.returns-clause-needed
returns-clause-needed g c s on_shelf units holds stand needed =
    load_value c.given.ensures g.N.Naming.name_of s on_shelf units c.args.name stand needed (g.D.Dir.state c.args.dir.now).moves c.load.result holds c.load.ensures.value
