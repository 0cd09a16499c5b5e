use Rattle.std.proofs.Common.{sym, ap, subst, ◌∙◌}
use Rattle.ix_types.specs.Row.{text_cmp}
use Rattle.ix_pages.specs.Pairs.{IsRising}
use Rattle.ix_outline.specs.Known.{Known, AreTables}
use Rattle.ix_tables.proofs.tables.Tables.apply.Goals as goal

pub returns-clause-follows : goal.returns-clause-follows
returns-clause-follows c = λ units later are follows.
    subst (λ (k : Known). AreTables later k) (sym c.in_ok-after.ensures)
    (c.tables_follow_a_batch.ensures.follow c.args.batch.now.puts c.args.batch.now.gone c.args.bodies.now units later c.args.self.now are follows
    (subst (λ es. IsRising text_cmp es) (c.map-units.ensures ∙ ap (λ (k : Known). k.units) c.self.view_is) c.len-unit_names.ensures.rises)
    (subst (λ es. IsRising text_cmp es) (c.map-outlines.ensures ∙ ap (λ (k : Known). k.outlines) c.self.view_is) c.len-outline_names.ensures.rises))
