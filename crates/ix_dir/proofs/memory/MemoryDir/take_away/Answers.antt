use Rattle.std.proofs.Common.{ap, subst, sym, arith, ◌<◌}
use Rattle.ix_dir.proofs.IndexStaysRight.{kept_with, indexes_removed}
use Rattle.ix_dir.proofs.memory.MemoryDir.take_away.Goals as goal

pub invariant_of-self : goal.invariant_of-self
invariant_of-self c =
    let d = c.self.inside in
    let some : 0 < d.spare = subst (λ n. 0 < n) (ap (λ d. d.spare) (sym c.self.view_is)) c.requires in
    kept_with d.moves c.keep.new.moves d.index c.remove.new.self d.spare _ c.self.invariant some c.keep.ensures.items c.keep.ensures.capacity (omega (arith, c.remove.ensures.room))
    (indexes_removed d.moves.items d.index c.remove.new.self c.args.area c.args.name c.self.invariant.indexes c.remove.ensures.numbers) tt
