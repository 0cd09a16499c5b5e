use Rattle.std.proofs.Common.{sym, subst, ◌∙◌}
use Rattle.ix_types.specs.Row.{text_cmp}
use Rattle.ix_pages.specs.Pairs.{IsRising}
use Rattle.ix_outline.specs.Known.{Known, AreTables}
use Rattle.ix_tables.proofs.tables.Tables.related.Goals as goal

pub returns : goal.returns
returns c = λ units are.
    c.related.ensures ∙ c.what_is_given_is_what_look_ups_find.ensures.related units (record { units = c.self.inside.units; outlines = c.self.inside.records }) c.args.usr.now
    (subst (λ (k : Known). AreTables units k) (sym c.self.view_is) are)
    (subst (λ es. IsRising text_cmp es) c.map-outlines.ensures c.len-rising.ensures.rises)
