use Rattle.std.proofs.Common.{◌++◌, append-nil, ap, sym, ◌∙◌}
use Rattle.std.specs.Slice.Iter.{iter_rest}
use Rattle.std.proofs.lemmas.Slice.Zip.{either_empty_from_Zip}
use Rattle.ix_model.proofs.ZippedRows.{no_more_rows}
use Rattle.ix_model.proofs.from_units.append_records.Goals as goal

pub returns : goal.returns
returns c =
    let ended = either_empty_from_Zip c.loop-dep.dep-iterator c.next.new.self c.next.result c.in-None.is c.next.ensures.steps in
    sym (append-nil c.loop-dep.out.items)
    ∙ (ap (λ rows. c.loop-dep.out.items ++ rows) (sym (no_more_rows (iter_rest c.loop-dep.dep-iterator.a) (iter_rest c.loop-dep.dep-iterator.b) ended))
    ∙ c.loop-dep.invariant)
