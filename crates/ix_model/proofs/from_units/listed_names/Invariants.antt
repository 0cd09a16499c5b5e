use Rattle.std.proofs.Common.{◌≡◌, map}
use Rattle.std.specs.List.{flat_map}
use Rattle.ix_model.proofs.from_units.listed_names.Given as goal

-- the names of the records of the units so far
abbrev pub invariant-loop-stored : goal.invariant-loop-stored
invariant-loop-stored l = l.names.items ≡ flat_map (λ stored. map (λ dep. dep.name) stored.now.unit.records) l.yielded
