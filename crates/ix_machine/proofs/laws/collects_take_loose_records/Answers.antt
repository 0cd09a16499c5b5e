use Rattle.ix_machine.proofs.Collects.{removes_least, nothing_loose, removes_some, one_by_one, none_left}
use Rattle.ix_machine.proofs.laws.collects_take_loose_records.Goals as goal

pub returns-clause-removed : goal.returns-clause-removed
returns-clause-removed c = λ name_of s lane stepped name h e is. removes_least s name_of h stepped name e is

pub returns-clause-nothing : goal.returns-clause-nothing
returns-clause-nothing c = λ name_of s lane stepped name e is. nothing_loose s stepped name e is

pub returns-clause-removes : goal.returns-clause-removes
returns-clause-removes c = λ name_of s lane name lo. removes_some s name lo

pub returns-clause-one_by_one : goal.returns-clause-one_by_one
returns-clause-one_by_one c = one_by_one

pub returns-clause-all : goal.returns-clause-all
returns-clause-all c = none_left
