use Rattle.std.proofs.Common.{cond}
use Rattle.ix_types.specs.Row.{text_cmp}
use Rattle.ix_outline.specs.Balance.{is_given}
use Rattle.ix_outline.specs.Facts.{Fact}
use Rattle.ix_outline.proofs.Balancing.{units-move, outlines-move, balance_of_facts}
use Rattle.ix_outline.proofs.laws.what_moves_balances.Goals as goal

pub returns-clause-facts : goal.returns-clause-facts
returns-clause-facts c = λ gives before after gained lost key value is.
    (balance_of_facts gives before after gained lost is).each (λ (fact : Fact). cond (is_given text_cmp text_cmp key value fact) 1 0)

pub returns-clause-units : goal.returns-clause-units
returns-clause-units c = λ puts gone units rises. (units-move puts gone units rises).balances

pub returns-clause-unit_names : goal.returns-clause-unit_names
returns-clause-unit_names c = λ puts gone units rises. (units-move puts gone units rises).rises

pub returns-clause-outlines : goal.returns-clause-outlines
returns-clause-outlines c = λ listed bodies settled outlines rises. (outlines-move listed bodies settled outlines rises).balances

pub returns-clause-outline_names : goal.returns-clause-outline_names
returns-clause-outline_names c = λ listed bodies settled outlines rises. (outlines-move listed bodies settled outlines rises).rises
