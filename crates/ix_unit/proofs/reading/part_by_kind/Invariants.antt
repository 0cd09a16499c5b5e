use Rattle.std.proofs.Common.{◌≡◌}
use Rattle.std.specs.List.{filter_map}
use Rattle.ix_unit.specs.ByKind.{as_unit, as_record, as_file}
use Rattle.ix_unit.proofs.reading.part_by_kind.Given as goal

abbrev pub invariant-loop-dependency : goal.invariant-loop-dependency
invariant-loop-dependency l =
    (l.units.items ≡ filter_map as_unit l.yielded) × (l.records.items ≡ filter_map as_record l.yielded) × (l.files.items ≡ filter_map as_file l.yielded)
