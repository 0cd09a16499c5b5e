-- What a step wants of what is kept.
use Rattle.std.specs.Prelude.{Bool, List, Option}
use Rattle.std.specs.List.{list_all}
use Rattle.ix_unit.specs.declared.value.RecordDep.{RecordDep}
use Rattle.ix_machine.specs.Needs.{option_any}
use Rattle.ix_guard.specs.Guarding.{Lease}
use Rattle.ix_guard.specs.Protection.{has_put}

-- whether there is a lease, under which each of these records was put
abbrev pub has_put_each : List RecordDep → Option Lease → Bool
has_put_each deps lease = option_any (λ l. list_all (λ dep. has_put dep.name l) deps) lease
