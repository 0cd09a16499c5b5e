use Rattle.std.proofs.Common.{◌∙◌}
use Rattle.ix_types.proofs.TableRows.{has_code_found}
use Rattle.ix_types.proofs.code_table.CodeTable.has_code.Goals as goal

pub returns : goal.returns
returns g c =
    c.is_some.ensures ∙ has_code_found c.as_slice.result.now c.self.inside.rows.items c.args.self.now c.args.code c.row_of_code.result c.as_slice.ensures.value c.self.view_is c.row_of_code.ensures
