use Rattle.ix_dir.proofs.memory.MemoryDirDir.reserve.Goals as goal

pub invariant_of-self : goal.invariant_of-self
invariant_of-self c = c.widen.ensures.kept _ c.self.invariant
