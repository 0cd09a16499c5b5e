use Rattle.std.proofs.Common.{◌≡◌, fold, take}
use Rattle.ix_outline.specs.Moving.{with_put}
use Rattle.ix_tables.proofs.moves.put_all.Given as goal

abbrev pub invariant-loop-put : goal.invariant-loop-put
invariant-loop-put l = l.mover ≡ fold with_put l.initial.mover (take l.put-index l.puts)
