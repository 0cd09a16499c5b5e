use Rattle.std.proofs.Common.{◌≡◌, true, take}
use Rattle.std.specs.List.{AllByRecursion}
use Rattle.ix_unit.specs.declared.value.RecordDep.{RecordDep}
use Rattle.ix_guard.specs.Protection.{was_put}
use Rattle.ix_calls.proofs.tested.has_put_all.Given as goal

-- each record so far was put
abbrev pub invariant-loop-dep : goal.invariant-loop-dep
invariant-loop-dep g l = AllByRecursion (λ (dep : RecordDep). was_put l.library.ledger.kept.guard l.number dep.name ≡ true) (take l.dep-index l.records)
