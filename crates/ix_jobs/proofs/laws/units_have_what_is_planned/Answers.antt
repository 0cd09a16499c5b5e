use Rattle.ix_types.specs.Row.{text_cmp}
use Rattle.ix_unit.specs.Order.{record_dep_cmp, file_dep_cmp, include_cmp}
use Rattle.ix_model.proofs.Door.{is_sorted_set}
use Rattle.std.proofs.Common.{map}
use Rattle.ix_jobs.specs.Made.{dep_of, file_of, include_of, body_of, body_cmp}
use Rattle.ix_jobs.proofs.Orders.{text_total, text_exact, record_dep_total, record_dep_exact, file_dep_total, file_dep_exact, include_total, include_exact, body_total, body_exact}
use Rattle.ix_jobs.proofs.Planned.{in_exact_set, names_hold, names_rise}
use Rattle.ix_jobs.proofs.laws.units_have_what_is_planned.Goals as goal

pub returns-clause-units : goal.returns-clause-units
returns-clause-units c name_of plan path = (is_sorted_set text_cmp text_total text_exact plan.units).same path

pub returns-clause-records : goal.returns-clause-records
returns-clause-records c name_of plan dep = in_exact_set (dep_of name_of) record_dep_cmp record_dep_total record_dep_exact plan.records dep

pub returns-clause-files : goal.returns-clause-files
returns-clause-files c name_of plan file = in_exact_set file_of file_dep_cmp file_dep_total file_dep_exact plan.files file

pub returns-clause-includes : goal.returns-clause-includes
returns-clause-includes c name_of plan include = in_exact_set include_of include_cmp include_total include_exact plan.includes include

pub returns-clause-bodies : goal.returns-clause-bodies
returns-clause-bodies c name_of plan body = in_exact_set (body_of name_of) body_cmp body_total body_exact plan.records body

pub returns-clause-names : goal.returns-clause-names
returns-clause-names c name_of plan name = names_hold name_of plan name

pub returns-clause-names_rise : goal.returns-clause-names_rise
returns-clause-names_rise c name_of plan = names_rise name_of plan

pub returns-clause-bodies_rise : goal.returns-clause-bodies_rise
returns-clause-bodies_rise c name_of plan = (is_sorted_set body_cmp body_total body_exact (map (body_of name_of) plan.records)).rises
