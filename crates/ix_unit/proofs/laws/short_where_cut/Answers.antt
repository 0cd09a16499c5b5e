use Rattle.ix_unit.proofs.Fronts.{short_where_cut}
use Rattle.ix_unit.proofs.laws.short_where_cut.Goals as goal

pub returns : goal.returns
returns c = short_where_cut
