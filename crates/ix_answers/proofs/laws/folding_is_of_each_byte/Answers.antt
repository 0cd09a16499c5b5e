use Rattle.std.proofs.Common.{refl}
use Rattle.ix_answers.proofs.Folding.{folded-length, folded-each}
use Rattle.ix_answers.proofs.laws.folding_is_of_each_byte.Goals as goal

pub returns-clause-length : goal.returns-clause-length
returns-clause-length c = folded-length

pub returns-clause-each : goal.returns-clause-each
returns-clause-each c = folded-each

pub returns-clause-plain : goal.returns-clause-plain
returns-clause-plain c = λ text. refl
