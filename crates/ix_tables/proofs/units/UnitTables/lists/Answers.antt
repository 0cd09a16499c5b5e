use Rattle.std.proofs.Common.{◌∙◌, rules}
use Rattle.ix_tables.proofs.Found.{lists-by}
use Rattle.ix_tables.proofs.units.UnitTables.lists.Goals as goal

pub returns : goal.returns
returns c =
    lists-by _ _ _ c.paths.ensures (search rules)
    ∙ c.what_is_given_is_what_look_ups_find.ensures.listed c.args.self.now c.args.name.now
