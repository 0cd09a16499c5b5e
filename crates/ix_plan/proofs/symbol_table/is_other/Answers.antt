use Rattle.std.proofs.Common.{◌∙◌}
use Rattle.ix_plan.proofs.Keys.{contains_key}
use Rattle.ix_plan.proofs.symbol_table.is_other.Goals as goal

pub returns : goal.returns
returns c = c.contains.ensures ∙ contains_key c.args.others.now.keys c.args.usr.now
