use Rattle.ix_record.specs.Order.{symbol_cmp, relation_cmp, occurrence_cmp}
use Rattle.ix_jobs.specs.Made.{record_of, symbol_of, symbols_of, relation_of, occurrence_of}
use Rattle.ix_jobs.proofs.Orders.{relation_total, relation_exact, occurrence_total, occurrence_exact}
use Rattle.ix_jobs.proofs.Planned.{in_mapped_set, in_exact_set, index_leads}
use Rattle.ix_jobs.proofs.Sorting.{planned_symbols}
use Rattle.ix_jobs.proofs.laws.records_have_what_is_planned.Goals as goal

pub returns-clause-symbols : goal.returns-clause-symbols
unfolding record_of
returns-clause-symbols c plan symbol rules = in_mapped_set symbol_of symbol_cmp plan.symbols (planned_symbols plan.symbols rules.own_usrs) symbol

pub returns-clause-occurrences : goal.returns-clause-occurrences
unfolding record_of
returns-clause-occurrences c plan occurrence = in_exact_set (occurrence_of (symbols_of plan.symbols)) occurrence_cmp occurrence_total occurrence_exact plan.occurrences occurrence

pub returns-clause-relations : goal.returns-clause-relations
returns-clause-relations c symbols plan relation = in_exact_set (relation_of symbols) relation_cmp relation_total relation_exact plan.relations relation

pub returns-clause-index : goal.returns-clause-index
unfolding record_of
returns-clause-index c plan usr rules known = index_leads plan usr rules known
