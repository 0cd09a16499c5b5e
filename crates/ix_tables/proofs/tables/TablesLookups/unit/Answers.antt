use Rattle.std.proofs.Common.{◌∙◌}
use Rattle.ix_tables.proofs.Looked.{looked_up}
use Rattle.ix_tables.proofs.tables.TablesLookups.unit.Goals as goal

pub returns : goal.returns
returns c = c.unit_named.ensures ∙ looked_up c.args.self.now.units c.args.name.now
