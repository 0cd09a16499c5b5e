use Rattle.std.proofs.Common.{◌∙◌}
use Rattle.indexmap.proofs.CallerLemmas.{insert_entry-new}
use Rattle.ix_dir.specs.Moves.{same_name}
use Rattle.ix_cabinet.proofs.stamps.add.Goals as goal

pub returns : goal.returns
returns c = c.in_ok-insert.ensures.entries ∙ insert_entry-new same_name c.args.index.now c.args.one.now.name c.args.one.now.stamp c.requires
