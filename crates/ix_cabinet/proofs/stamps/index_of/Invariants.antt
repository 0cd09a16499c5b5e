use Rattle.std.proofs.Common.{◌≡◌, take}
use Rattle.ix_dir.specs.Files.{rows_of}
use Rattle.ix_cabinet.proofs.stamps.index_of.Given as goal

abbrev pub invariant-loop-one : goal.invariant-loop-one
invariant-loop-one l = l.index.entries ≡ rows_of (take l.one-index l.listed)
