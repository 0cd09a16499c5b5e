use Rattle.std.proofs.Common.{length}
use Rattle.ix_machine.proofs.Named.{run-named, seen-named, answers_no_unit, none-under, takes_unit_away}
use Rattle.ix_machine.proofs.laws.removals_find_the_unit.Goals as goal

pub returns-clause-no_unit : goal.returns-clause-no_unit
returns-clause-no_unit c = λ name_of s lane output stepped e. answers_no_unit s output stepped e

pub returns-clause-named : goal.returns-clause-named
returns-clause-named c = λ name_of units records lanes turns s mark unit_files record_files leads. seen-named name_of s mark (run-named name_of units records lanes turns s unit_files record_files leads)

pub returns-clause-free : goal.returns-clause-free
returns-clause-free c = λ name_of units records lanes turns s output unit_files record_files leads only without.
    none-under name_of output only _ (seen-named name_of s (length s.publications) (run-named name_of units records lanes turns s unit_files record_files leads)) without

pub returns-clause-gone : goal.returns-clause-gone
returns-clause-gone c = λ name_of units records lanes turns s lane output stepped unit_files record_files leads e made.
    (takes_unit_away name_of s output stepped (run-named name_of units records lanes turns s unit_files record_files leads) e made).gone

pub returns-clause-others : goal.returns-clause-others
returns-clause-others c = λ name_of units records lanes turns s lane output stepped unit_files record_files leads e made.
    (takes_unit_away name_of s output stepped (run-named name_of units records lanes turns s unit_files record_files leads) e made).others
