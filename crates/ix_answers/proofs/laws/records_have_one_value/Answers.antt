use Rattle.ix_answers.proofs.Agreement.{parts-agree, values-by-name, unit-alone}
use Rattle.ix_answers.proofs.laws.records_have_one_value.Goals as goal

pub returns-clause-parts : goal.returns-clause-parts
returns-clause-parts c = parts-agree

pub returns-clause-by_name : goal.returns-clause-by_name
returns-clause-by_name c = values-by-name

pub returns-clause-alone : goal.returns-clause-alone
returns-clause-alone c = unit-alone
