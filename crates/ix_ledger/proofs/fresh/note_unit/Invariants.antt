use Rattle.std.proofs.Common.{◌≡◌, take, map, filter}
use Rattle.std.specs.Map.{keys_of}
use Rattle.ix_unit.specs.declared.value.RecordDep.{RecordDep}
use Rattle.ix_ledger.specs.Fresh.{lacks, with_names}
use Rattle.ix_ledger.proofs.fresh.note_unit.Given as goal

-- those of the record dependencies so far
abbrev pub invariant-loop-dep : goal.invariant-loop-dep
invariant-loop-dep l = keys_of l.names.entries ≡ with_names (keys_of l.initial.names.entries) (filter (lacks l.needs) (map (λ (dep : RecordDep). dep.name) (take l.dep-index l.dep-items)))
