use Rattle.std.proofs.Common.{◌∙◌}
use Rattle.ix_hierarchy.proofs.Among.{contains-among}
use Rattle.ix_hierarchy.proofs.seen.is_in.Goals as goal

pub returns : goal.returns
returns c = c.contains.ensures ∙ contains-among c.args.usr.now c.args.set.now.keys
