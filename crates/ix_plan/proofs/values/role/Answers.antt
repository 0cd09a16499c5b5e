use Rattle.std.proofs.Common.{sym}
use Rattle.ix_plan.proofs.Rows.{role_below}
use Rattle.ix_plan.proofs.values.role.Goals as goal

pub returns-in-Some-clause-range : goal.returns-in-Some-clause-range
returns-in-Some-clause-range c = role_below c.in_ok-string.field-0.now c.in-Some.bit (sym c.in-Some.ensures)
