use Rattle.std.proofs.Common.{ap, subst}
use Rattle.std.proofs.Common.{IfOk, ◌≡◌}
use Rattle.ix_dir.specs.Files.{listed_of}
use Rattle.ix_dir.specs.Moves.{area_after}
use Rattle.ix_dir.specs.Stamps.{HasFreshStamps}
use Rattle.ix_dir.proofs.StampsApart.{numbered_apart}
use Rattle.ix_dir.proofs.ListIsWhatStands.{listed_ok}
use Rattle.ix_dir.proofs.memory.MemoryDir.names_of.Goals as goal

pub returns-clause-listed : goal.returns-clause-listed
returns-clause-listed c =
    let d = c.self.inside in
    let listed = listed_ok c.list.result d.moves.items d.index c.args.area c.self.invariant.indexes c.self.invariant.numbered c.list.ensures.listed in
    subst (λ moves. IfOk c.list.result (λ l. l.items ≡ listed_of (area_after moves c.args.area))) (ap (λ d. d.moves) c.self.view_is) listed

pub returns-clause-fresh : goal.returns-clause-fresh
returns-clause-fresh c = subst HasFreshStamps (ap (λ d. d.moves) c.self.view_is) (numbered_apart c.self.inside.moves.items c.self.invariant.numbered)
