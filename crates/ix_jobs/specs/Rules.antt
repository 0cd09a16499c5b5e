-- How long the lists of a plan may be: a file counts them, and a symbol's index, in 32 bits.
use Rattle.std.specs.Prelude.{◌<◌, ◌+◌, ◌^◌, length}
use Rattle.std.specs.List.{AllByRecursion}
use Rattle.ix_plan.specs.declared.plan.OccurrencePlan.{OccurrencePlan}
use Rattle.ix_plan.specs.declared.plan.RecordPlan.{RecordPlan}
use Rattle.ix_plan.specs.declared.plan.UnitPlan.{UnitPlan}

abbrev pub HasCountedRelations : OccurrencePlan → Type 0
HasCountedRelations plan = length plan.relations < 2 ^ 32

pub record RecordHasRoom (plan : RecordPlan) : Type 0 where
  pub symbols : length plan.symbols < 2 ^ 32
  pub occurrences : length plan.occurrences < 2 ^ 32
  pub relations : AllByRecursion HasCountedRelations plan.occurrences

-- the dependencies of a unit are counted together
pub record HasRoom (plan : UnitPlan) : Type 0 where
  pub dependencies : length plan.units + length plan.records + length plan.files < 2 ^ 32
  pub includes : length plan.includes < 2 ^ 32
  pub each_record : AllByRecursion RecordHasRoom plan.records
