use Rattle.std.proofs.Common.{◌≡◌, fold, take}
use Rattle.ix_outline.specs.Moving.{settled, lists_name}
use Rattle.ix_tables.proofs.moves.settle_all.Given as goal

abbrev pub invariant-loop-name : goal.invariant-loop-name
invariant-loop-name l = l.mover ≡ fold (settled (lists_name l.units) l.bodies) l.initial.mover (take l.name-index l.names)
