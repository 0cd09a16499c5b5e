use Rattle.std.proofs.Common.{◌≡◌}
use Rattle.std.specs.List.{flat_map}
use Rattle.ix_model.specs.Rows.{rows_of_unit}
use Rattle.ix_model.proofs.from_units.rows.Given as goal

-- the rows of the units so far
abbrev pub invariant-loop-stored : goal.invariant-loop-stored
invariant-loop-stored l = l.all.items ≡ flat_map (λ stored. rows_of_unit stored.now) l.yielded
