use Rattle.std.proofs.Common.{◌∙◌, sym}
use Rattle.ix_pages.proofs.Parts.{from_key_parted}
use Rattle.ix_pages.proofs.page.entries_from.Goals as goal

pub returns : goal.returns
returns g c = c.part.ensures.from ∙ sym (from_key_parted g.K.Ord.cmp c.args.key.now _ _ _ _ c.part.ensures.parted)
