use Rattle.std.proofs.Common.{ap, rules, All, arith}
use Rattle.ix_dir.specs.declared.area.Area.TheVariants.{Units}
use Rattle.ix_dir.specs.Moves.{area_after}
use Rattle.ix_cabinet.specs.Scan.{IsUnitAt}
use Rattle.ix_cabinet.proofs.OneUnitMore.{names_more, applied}
use Rattle.ix_cabinet.proofs.scanning.changed_units.Goals as goal

pub loop-one-preserved : goal.loop-one-preserved
loop-one-preserved g c =
    let before = c.loop-one.invariant in
    let done = c.in_ok-note_changed.ensures in
    record {
      names = names_more c.args.known.now c.args.listed.now c.loop-one.one-index c.one-item.result _ _ (omega arith) c.one-item.is before.names done.names;
      at = applied _ _ (λ m. All (IsUnitAt (area_after m Units)) c.loop-one.puts.items) (λ m. All (IsUnitAt (area_after m Units)) c.note_changed.new.puts.items) (ap (λ d. d.moves) before.state) done.at before.at;
      units = done.units before.units;
      state = search rules;
    }
