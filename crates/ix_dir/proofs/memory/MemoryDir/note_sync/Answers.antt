use Rattle.std.proofs.Common.{ap, subst, sym, arith, ◌<◌}
use Rattle.ix_dir.proofs.IndexStaysRight.{kept_with, indexes_synced}
use Rattle.ix_dir.proofs.memory.MemoryDir.note_sync.Goals as goal

pub invariant_of-self : goal.invariant_of-self
invariant_of-self c =
    let d = c.self.inside in
    let some : 0 < d.spare = subst (λ n. 0 < n) (ap (λ d. d.spare) (sym c.self.view_is)) c.requires in
    kept_with d.moves c.keep.new.moves d.index d.index d.spare _ c.self.invariant some
    c.keep.ensures.items c.keep.ensures.capacity (omega arith) (indexes_synced d.moves.items d.index c.args.area c.self.invariant.indexes) tt
