use Rattle.std.proofs.Common.{refl}
use Rattle.ix_answers.specs.declared.walks.Walk.TheVariants.{Incoming, Outgoing, Supertypes, Subtypes}
use Rattle.ix_answers.proofs.NeededBy.{name-needs, codegen-needs, pattern-needs, walk-needs}
use Rattle.ix_answers.proofs.Selected.{providers-those, related-those, in_path-those}
use Rattle.ix_answers.proofs.laws.needs_are_those.Goals as goal

pub returns-clause-defined : goal.returns-clause-defined
returns-clause-defined c = λ usr name units. providers-those units usr name

pub returns-clause-refs : goal.returns-clause-refs
returns-clause-refs c = λ usr name units. providers-those units usr name

pub returns-clause-occ : goal.returns-clause-occ
returns-clause-occ c = λ usr roles name units. providers-those units usr name

pub returns-clause-rel : goal.returns-clause-rel
returns-clause-rel c = λ usr roles name units. related-those units usr name

pub returns-clause-callers : goal.returns-clause-callers
returns-clause-callers c = λ usr name units. providers-those units usr name

pub returns-clause-overrides : goal.returns-clause-overrides
returns-clause-overrides c = λ usr name units. related-those units usr name

pub returns-clause-symbols : goal.returns-clause-symbols
returns-clause-symbols c = λ path name units. in_path-those units path name

pub returns-clause-name : goal.returns-clause-name
returns-clause-name c = λ of name units. name-needs units of name

pub returns-clause-codegen : goal.returns-clause-codegen
returns-clause-codegen c = λ codegen name units. codegen-needs units codegen name

pub returns-clause-pattern : goal.returns-clause-pattern
returns-clause-pattern c = λ text start end fold name units. pattern-needs units text start end fold name

pub returns-clause-incoming : goal.returns-clause-incoming
returns-clause-incoming c = λ usr depth name units. walk-needs units Incoming usr depth name

pub returns-clause-outgoing : goal.returns-clause-outgoing
returns-clause-outgoing c = λ usr depth name units. walk-needs units Outgoing usr depth name

pub returns-clause-supertypes : goal.returns-clause-supertypes
returns-clause-supertypes c = λ usr depth name units. walk-needs units Supertypes usr depth name

pub returns-clause-subtypes : goal.returns-clause-subtypes
returns-clause-subtypes c = λ usr depth name units. walk-needs units Subtypes usr depth name

pub returns-clause-mains : goal.returns-clause-mains
returns-clause-mains c = λ path units. refl

pub returns-clause-units : goal.returns-clause-units
returns-clause-units c = λ path units. refl

pub returns-clause-includes : goal.returns-clause-includes
returns-clause-includes c = λ path units. refl

pub returns-clause-includers : goal.returns-clause-includers
returns-clause-includers c = λ path units. refl
