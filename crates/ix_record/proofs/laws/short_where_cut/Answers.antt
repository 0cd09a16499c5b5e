use Rattle.ix_record.proofs.Fronts.{short_where_cut}
use Rattle.ix_record.proofs.laws.short_where_cut.Goals as goal

pub returns : goal.returns
returns c = short_where_cut
