use Rattle.std.proofs.Common.{refl}
use Rattle.ix_answers.proofs.Texts.{has_text-in, has_text-out, folded-letter, folded-other}
use Rattle.ix_answers.proofs.Selected.{no_codegen}
use Rattle.ix_answers.proofs.laws.patterns_are_those.Goals as goal

pub returns-clause-stands : goal.returns-clause-stands
returns-clause-stands c = λ start end text name. (has_text-out start end text name, has_text-in start end text name)

pub returns-clause-letters : goal.returns-clause-letters
returns-clause-letters c = folded-letter

pub returns-clause-others : goal.returns-clause-others
returns-clause-others c = folded-other

pub returns-clause-whole : goal.returns-clause-whole
returns-clause-whole c = λ text units. refl

pub returns-clause-codegen : goal.returns-clause-codegen
returns-clause-codegen c = no_codegen
