use Rattle.std.proofs.Common.{◌≡◌, sym, subst, ◌∙◌}
use Rattle.std.specs.List.{flat_map}
use Rattle.ix_types.specs.Row.{text_cmp}
use Rattle.ix_pages.specs.Pairs.{IsRising}
use Rattle.ix_outline.specs.Balance.{Balances}
use Rattle.ix_outline.specs.Facts.{placing, pathing, listing_facts}
use Rattle.ix_tables.specs.Steps.{IsIndexOf}
use Rattle.ix_tables.proofs.units.UnitTables.after.Goals as goal

pub invariant_of-result : goal.invariant_of-result
invariant_of-result c =
    let is : c.in_ok-map.map ≡ c.args.mover.now.entries = c.in_ok-map.ensures ∙ c.map-current.ensures in
    let balance : Balances c.self.inside.map c.args.mover.now.entries c.args.mover.now.gained c.args.mover.now.lost =
    subst (λ es. Balances es c.args.mover.now.entries c.args.mover.now.gained c.args.mover.now.lost) (sym c.self.view_is) c.requires in
    record {
      rise = subst (λ es. IsRising text_cmp es) (sym c.in_ok-map.ensures) c.len-rising.ensures.rises;
      places = subst (λ es. IsIndexOf text_cmp text_cmp c.in_ok-in_path.in_path (flat_map placing es)) (sym is) (c.in_ok-in_path.ensures c.self.inside.map balance c.self.invariant.places);
      listed = subst (λ es. IsIndexOf text_cmp text_cmp c.in_ok-paths.paths (flat_map pathing es)) (sym is) (c.in_ok-paths.ensures c.self.inside.map balance c.self.invariant.listed);
      lists = subst (λ es. IsIndexOf text_cmp text_cmp c.in_ok-listing.listing (flat_map listing_facts es)) (sym is) (c.in_ok-listing.ensures c.self.inside.map balance c.self.invariant.lists);
    }
