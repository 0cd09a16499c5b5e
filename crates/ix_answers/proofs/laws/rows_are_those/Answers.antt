use Rattle.ix_answers.proofs.Answered.{defined-those, refs-those, occ-those, rel-those, callers-those, overrides-those, symbols-those, name-those, codegen-those, pattern-those}
use Rattle.ix_answers.proofs.laws.rows_are_those.Goals as goal

pub returns-clause-defined : goal.returns-clause-defined
returns-clause-defined c = defined-those c.answers_are_sorted_sets.ensures.rows c.definitions_are_those.ensures.selected

pub returns-clause-refs : goal.returns-clause-refs
returns-clause-refs c = refs-those c.answers_are_sorted_sets.ensures.rows

pub returns-clause-occ : goal.returns-clause-occ
returns-clause-occ c = occ-those c.answers_are_sorted_sets.ensures.rows c.a_common_bit_is_set.ensures.some

pub returns-clause-rel : goal.returns-clause-rel
returns-clause-rel c = rel-those c.answers_are_sorted_sets.ensures.rows c.a_common_bit_is_set.ensures.some

pub returns-clause-callers : goal.returns-clause-callers
returns-clause-callers c = callers-those c.answers_are_sorted_sets.ensures.rows

pub returns-clause-overrides : goal.returns-clause-overrides
returns-clause-overrides c = overrides-those c.answers_are_sorted_sets.ensures.rows

pub returns-clause-symbols : goal.returns-clause-symbols
returns-clause-symbols c = symbols-those c.answers_are_sorted_sets.ensures.rows

pub returns-clause-name : goal.returns-clause-name
returns-clause-name c = name-those c.answers_are_sorted_sets.ensures.rows c.definitions_are_those.ensures.selected

pub returns-clause-codegen : goal.returns-clause-codegen
returns-clause-codegen c = codegen-those c.answers_are_sorted_sets.ensures.rows c.definitions_are_those.ensures.selected

pub returns-clause-pattern : goal.returns-clause-pattern
returns-clause-pattern c = pattern-those c.answers_are_sorted_sets.ensures.rows c.definitions_are_those.ensures.selected
