use Rattle.std.proofs.Common.{rules}
use Rattle.ix_check.proofs.Whole.{whole_text}
use Rattle.ix_check.proofs.texts.text_of.Goals as goal

pub returns : goal.returns
returns c =
    whole_text c.args.found.now.units c.args.found.now.refused c.new-out.result.items c.append_units.new.out.items c.append_all_refused.new.out.items c.append_checked.new.out.items
    (search rules) (search rules) (search rules) (search rules)
