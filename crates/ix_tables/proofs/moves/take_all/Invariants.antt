use Rattle.std.proofs.Common.{◌≡◌, fold, take}
use Rattle.ix_outline.specs.Moving.{moved_out}
use Rattle.ix_tables.proofs.moves.take_all.Given as goal

abbrev pub invariant-loop-name : goal.invariant-loop-name
invariant-loop-name l = l.mover ≡ fold moved_out l.initial.mover (take l.name-index l.gone)
