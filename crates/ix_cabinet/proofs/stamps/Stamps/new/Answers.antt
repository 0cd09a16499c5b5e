use Rattle.std.proofs.Common.{ap, ◌∙◌}
use Rattle.std.specs.FinMap.{from_sorted}
use Rattle.ix_types.specs.Row.{text_cmp}
use Rattle.ix_cabinet.proofs.StampsByName.{from_none}
use Rattle.ix_cabinet.proofs.stamps.Stamps.new.Goals as goal

pub returns : goal.returns
returns c = ap (from_sorted {R = text_cmp}) c.new.ensures.empty ∙ from_none
