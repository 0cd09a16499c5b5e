use Rattle.std.proofs.Common.{Some, None}
use Rattle.ix_types.proofs.TableRows.{code_of_found}
use Rattle.ix_types.proofs.code_table.CodeTable.code_of.Goals as goal

pub returns-in-Some-clause-value : goal.returns-in-Some-clause-value
returns-in-Some-clause-value g c =
    code_of_found c.as_slice.result.now c.self.inside.rows.items c.args.self.now c.args.text.now (Some c.in-Some.row) c.as_slice.ensures.value c.self.view_is c.in-Some.ensures

pub returns-in-None-clause-value : goal.returns-in-None-clause-value
returns-in-None-clause-value g c =
    code_of_found c.as_slice.result.now c.self.inside.rows.items c.args.self.now c.args.text.now None c.as_slice.ensures.value c.self.view_is c.in-None.ensures
