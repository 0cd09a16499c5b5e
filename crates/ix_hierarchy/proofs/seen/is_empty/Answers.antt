use Rattle.ix_hierarchy.proofs.Among.{no_items}
use Rattle.ix_hierarchy.proofs.seen.is_empty.Goals as goal

pub returns : goal.returns
returns c t = no_items c.args.set.now.keys (c.is_empty.ensures.0 t)
