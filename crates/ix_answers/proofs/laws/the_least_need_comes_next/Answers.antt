use Rattle.ix_answers.specs.Answers.{matched}
use Rattle.ix_answers.specs.Lookups.{providers, related, in_path, named, coded}
use Rattle.ix_answers.proofs.NextNeed.{next-is-least, next-of-holders}
use Rattle.ix_answers.proofs.Rising.{providers-rise, related-rise, in_path-rise}
use Rattle.ix_answers.proofs.laws.the_least_need_comes_next.Goals as goal

pub returns-clause-defined : goal.returns-clause-defined
returns-clause-defined c = λ usr units loaded name. next-is-least loaded (providers usr units) (providers-rise units usr) name

pub returns-clause-refs : goal.returns-clause-refs
returns-clause-refs c = λ usr units loaded name. next-is-least loaded (providers usr units) (providers-rise units usr) name

pub returns-clause-occ : goal.returns-clause-occ
returns-clause-occ c = λ usr roles units loaded name. next-is-least loaded (providers usr units) (providers-rise units usr) name

pub returns-clause-rel : goal.returns-clause-rel
returns-clause-rel c = λ usr roles units loaded name. next-is-least loaded (related usr units) (related-rise units usr) name

pub returns-clause-callers : goal.returns-clause-callers
returns-clause-callers c = λ usr units loaded name. next-is-least loaded (providers usr units) (providers-rise units usr) name

pub returns-clause-overrides : goal.returns-clause-overrides
returns-clause-overrides c = λ usr units loaded name. next-is-least loaded (related usr units) (related-rise units usr) name

pub returns-clause-symbols : goal.returns-clause-symbols
returns-clause-symbols c = λ path units loaded name. next-is-least loaded (in_path path units) (in_path-rise units path) name

pub returns-clause-name : goal.returns-clause-name
returns-clause-name c = λ of units loaded name. next-of-holders (named of units) units loaded name

pub returns-clause-codegen : goal.returns-clause-codegen
returns-clause-codegen c = λ codegen units loaded name. next-of-holders (coded codegen units) units loaded name

pub returns-clause-pattern : goal.returns-clause-pattern
returns-clause-pattern c = λ text start end fold units loaded name. next-of-holders (matched text start end fold units) units loaded name
