use Rattle.std.proofs.Common.{◌≡◌, Some}
use Rattle.ix_lookups.specs.Loaded.{body_named}
use Rattle.ix_query.proofs.Grown.{no_rows}
use Rattle.ix_query.proofs.rows.append_named.Goals as goal

pub returns-else-has_row : goal.returns-else-has_row
returns-else-has_row g c =
    let is : body_named c.args.name.now c.args.bodies.now ≡ Some c.deref.result.now = let got = c.in-Some.ensures in let same = c.deref.ensures in cc in
    no_rows (g.C.Choice.passes c.args.key.now c.args.mask) ((g.L.Lookups.found c.args.lookups.now).paths c.args.name.now) c.deref.result.now
    (body_named c.args.name.now c.args.bodies.now) c.args.out.now.items is (c.has_row.ensures c.if-has_row.false)
