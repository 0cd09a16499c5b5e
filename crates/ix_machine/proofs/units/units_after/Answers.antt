use Rattle.std.proofs.Common.{ap, sym, ◌∙◌, arith}
use Rattle.ix_machine.proofs.Seen.{map_after, map_at, take-all}
use Rattle.ix_machine.proofs.units.units_after.Goals as goal

pub returns : goal.returns
returns c =
    c.loop-change.invariant
    ∙ (ap map_after (take-all c.loop-change.change-index c.front-change-items.result.now (omega arith))
    ∙ (ap map_after c.front-change-items.ensures
    ∙ sym (map_at c.args.changes.now c.args.mark)))
