use Rattle.std.proofs.Common.{Ok, ap, ◌∙◌}
use Rattle.ix_dir.specs.State.{DirState}
use Rattle.ix_library.specs.LookEndings.{load_knows, load_leaves}
use Rattle.ix_turns.proofs.Staying.{stays}
use Rattle.ix_turns.proofs.looks.load.Goals as goal

pub returns-in-Ok-clause-stays : goal.returns-in-Ok-clause-stays
returns-in-Ok-clause-stays g c s stands =
    let old = c.args.library.now in
    let new = c.load.new.self in
    stays g.N.Naming.name_of s old.ledger.kept new.ledger.kept old.shelf new.shelf old.known new.known (g.D.Dir.state old.dir) (g.D.Dir.state new.dir)
    (c.load.ensures.kept ∙ ap (λ r. load_leaves c.args.purpose r old.ledger.kept) {y = Ok c.in-Ok.body} c.in-Ok.is) c.load.ensures.shelf (c.load.ensures.known ∙ ap (λ r. load_knows c.args.purpose r old.known) {y = Ok c.in-Ok.body} c.in-Ok.is)
    (ap (λ (d : DirState). d.moves) c.load.ensures.dir) (ap (λ (d : DirState). d.slots) c.load.ensures.dir) stands
