use Rattle.std.proofs.Common.{rules, sym, ap, ◌∙◌, None, Some}
use Rattle.ix_guard.specs.Listing.{need_list_of}
use Rattle.ix_ledger.specs.Kept.{Named, as_units}
use Rattle.ix_ledger.proofs.Maps.{bare, bare_at, bare_with}
use Rattle.ix_ledger.proofs.change.Change.with_replaced.Goals as goal

pub invariant_of-result : goal.invariant_of-result
invariant_of-result c =
    c.in_ok-needs.ensures (as_units c.args.units.now) c.args.name (bare c.args.old.now.value) (bare c.args.unit.now.value) (search rules) (search rules) c.names_rise.ensures
    (bare_at c.args.name c.args.units.now (Some c.args.old.now.value) c.requires.old) c.requires.needs
    ∙ (ap need_list_of (bare_with c.args.name c.args.unit.now.value c.args.units.now) ∙ ap (λ (us : Named). need_list_of (as_units us)) (sym c.in_ok-units.ensures))
