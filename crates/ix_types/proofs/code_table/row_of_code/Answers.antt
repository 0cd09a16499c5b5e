use Rattle.std.proofs.Common.{◌==◌, rules, tests}
use Rattle.std.proofs.lemmas.Iterator.{YieldsList-from_slice}
use Rattle.std.proofs.lemmas.Iterator.Search.{find_from_yields_List}
use Rattle.ix_types.proofs.code_table.row_of_code.Goals as goal

pub returns : goal.returns
returns c =
    let found = find_from_yields_List (λ row. row.code == c.args.code) _ _ c.find.result c.find.ensures.ran (YieldsList-from_slice c.args.rows.now cc) (λ x b q k. search (rules, tests)) in
    cc
