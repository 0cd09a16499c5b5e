use Rattle.std.proofs.Common.{List, sym, subst, rules}
use Rattle.std.specs.List.{AllByRecursion}
use Rattle.ix_record.specs.Whole.{IsWhole}
use Rattle.ix_unit.specs.Value.{IsValidUnit}
use Rattle.ix_types.specs.Name.{IsFileName}
use Rattle.ix_plan.specs.declared.plan.RecordPlan.{RecordPlan}
use Rattle.ix_jobs.specs.Laws.{IsWrittenIn}
use Rattle.ix_jobs.specs.Made.{Made, bytes_of}
use Rattle.ix_jobs.proofs.Valid.{valid_unit}
use Rattle.ix_jobs.proofs.Written.{whole_bodies, deps_written}
use Rattle.ix_jobs.proofs.job.JobPlan.make.Goals as goal

pub returns-clause-made : goal.returns-clause-made
returns-clause-made g c = search rules

pub returns-clause-valid : goal.returns-clause-valid
returns-clause-valid g c =
    subst (λ (m : Made). IsValidUnit m.unit) (sym (returns-clause-made g c))
    (valid_unit g.N.Naming.name_of c.args.plan.now c.requires.rules c.requires.room
    (subst (λ (plans : List RecordPlan). AllByRecursion (λ plan. IsFileName (g.N.Naming.name_of (bytes_of plan))) plans) c.as_slice.ensures c.in_ok-written.ensures.named))

pub returns-clause-whole : goal.returns-clause-whole
returns-clause-whole g c =
    subst (λ (m : Made). AllByRecursion (IsWhole g.N.Naming.name_of) m.bodies) (sym (returns-clause-made g c))
    (whole_bodies g.N.Naming.name_of c.args.plan.now.records c.requires.rules.records c.requires.room.each_record)

pub returns-clause-written : goal.returns-clause-written
returns-clause-written g c =
    subst (λ (m : Made). AllByRecursion (IsWrittenIn m.bodies) m.unit.records) (sym (returns-clause-made g c))
    (deps_written g.N.Naming.name_of c.args.plan.now.records)
