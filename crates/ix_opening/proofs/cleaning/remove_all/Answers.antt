use Rattle.std.proofs.Common.{rules, arith, ap}
use Rattle.ix_opening.proofs.Cleaned.{removed_more}
use Rattle.ix_opening.proofs.cleaning.remove_all.Goals as goal

pub loop-one-preserved : goal.loop-one-preserved
loop-one-preserved g c =
    let before = c.loop-one.invariant in
    let done = c.in_ok-remove.ensures.removed in
    let spare = ap (λ d. d.spare) done in
    record {
      removed = removed_more c.args.refused.now c.loop-one.one-index c.one-item.result (g.D.Dir.state c.args.dir.now).moves (g.D.Dir.state c.loop-one.dir).moves (g.D.Dir.state c.remove.new.self).moves
          (omega arith) c.one-item.is before.removed (ap (λ d. d.moves) done);
      room = omega (arith, spare, before.room);
      state = search rules;
    }
