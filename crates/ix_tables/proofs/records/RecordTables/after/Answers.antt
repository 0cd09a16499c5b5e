use Rattle.std.proofs.Common.{◌≡◌, sym, subst, ◌∙◌}
use Rattle.std.specs.List.{flat_map}
use Rattle.ix_types.specs.Row.{text_cmp}
use Rattle.ix_pages.specs.Pairs.{IsRising}
use Rattle.ix_outline.specs.Balance.{Balances}
use Rattle.ix_outline.specs.Facts.{provided, relating, naming, coding}
use Rattle.ix_tables.specs.Steps.{IsIndexOf}
use Rattle.ix_tables.proofs.records.RecordTables.after.Goals as goal

pub invariant_of-result : goal.invariant_of-result
invariant_of-result c =
    let is : c.in_ok-map.map ≡ c.args.mover.now.entries = c.in_ok-map.ensures ∙ c.map-current.ensures in
    let balance : Balances c.self.inside.map c.args.mover.now.entries c.args.mover.now.gained c.args.mover.now.lost =
    subst (λ es. Balances es c.args.mover.now.entries c.args.mover.now.gained c.args.mover.now.lost) (sym c.self.view_is) c.requires in
    record {
      rise = subst (λ es. IsRising text_cmp es) (sym c.in_ok-map.ensures) c.len-rising.ensures.rises;
      provides = subst (λ es. IsIndexOf text_cmp text_cmp c.in_ok-providers.providers (flat_map provided es)) (sym is) (c.in_ok-providers.ensures c.self.inside.map balance c.self.invariant.provides);
      relates = subst (λ es. IsIndexOf text_cmp text_cmp c.in_ok-related.related (flat_map relating es)) (sym is) (c.in_ok-related.ensures c.self.inside.map balance c.self.invariant.relates);
      names = subst (λ es. IsIndexOf text_cmp text_cmp c.in_ok-named.named (flat_map naming es)) (sym is) (c.in_ok-named.ensures c.self.inside.map balance c.self.invariant.names);
      codes = subst (λ es. IsIndexOf text_cmp text_cmp c.in_ok-coded.coded (flat_map coding es)) (sym is) (c.in_ok-coded.ensures c.self.inside.map balance c.self.invariant.codes);
    }
