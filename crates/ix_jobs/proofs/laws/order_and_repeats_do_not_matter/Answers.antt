use Rattle.ix_record.specs.Order.{relation_cmp, occurrence_cmp}
use Rattle.ix_jobs.specs.Made.{relation_of, occurrence_of}
use Rattle.ix_jobs.proofs.Orders.{relation_total, relation_exact, occurrence_total, occurrence_exact}
use Rattle.ix_jobs.proofs.Planned.{same_made, same_job}
use Rattle.ix_jobs.proofs.laws.order_and_repeats_do_not_matter.Goals as goal

pub returns-clause-occurrences : goal.returns-clause-occurrences
returns-clause-occurrences c format symbols first second same =
    let occurrences = same_made (occurrence_of symbols) occurrence_cmp occurrence_total occurrence_exact first second same in
    λ i. record { format = format; symbols = symbols; occurrences = occurrences i }

pub returns-clause-relations : goal.returns-clause-relations
returns-clause-relations c symbols plan relations same = same_made (relation_of symbols) relation_cmp relation_total relation_exact plan.relations relations same

pub returns-clause-records : goal.returns-clause-records
returns-clause-records c name_of plan records same = same_job name_of plan records same
