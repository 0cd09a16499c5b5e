use Rattle.std.proofs.Common.{Some, None, refl}
use Rattle.ix_types.specs.CodeRows.{seen}
use Rattle.ix_types.proofs.TableRows.{name_of_found}
use Rattle.ix_types.proofs.code_table.name_among.Goals as goal

pub returns-in-Some : goal.returns-in-Some
returns-in-Some c =
    name_of_found c.args.rows.now c.args.rows.now (seen c.args.rows.now) c.args.code (Some c.in-Some.row) refl refl c.in-Some.ensures

pub returns-in-None : goal.returns-in-None
returns-in-None c =
    name_of_found c.args.rows.now c.args.rows.now (seen c.args.rows.now) c.args.code None refl refl c.in-None.ensures
