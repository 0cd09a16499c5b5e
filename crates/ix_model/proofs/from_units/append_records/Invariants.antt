use Rattle.std.proofs.Common.{◌≡◌, ◌++◌}
use Rattle.std.specs.Slice.Iter.{iter_rest}
use Rattle.ix_model.specs.Rows.{rows_of_records}
use Rattle.ix_model.proofs.from_units.append_records.Given as goal

-- the rows so far, and those of the records to come
abbrev pub invariant-loop-dep : goal.invariant-loop-dep
invariant-loop-dep l = l.out.items ++ rows_of_records (iter_rest l.dep-iterator.a) (iter_rest l.dep-iterator.b) ≡ l.initial.out.items ++ rows_of_records l.deps l.values
