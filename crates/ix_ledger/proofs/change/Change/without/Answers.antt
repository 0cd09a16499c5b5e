use Rattle.std.proofs.Common.{rules, sym, ap, ◌∙◌, None, Some}
use Rattle.ix_guard.specs.Listing.{need_list_of}
use Rattle.ix_ledger.specs.Kept.{Named, as_units}
use Rattle.ix_ledger.proofs.Maps.{bare, bare_at, bare_without}
use Rattle.ix_ledger.proofs.change.Change.without.Goals as goal

pub invariant_of-result : goal.invariant_of-result
invariant_of-result c =
    c.in_ok-needs.ensures.follows (as_units c.args.units.now) c.args.name (bare c.args.old.now.value) (search rules) (bare_at c.args.name c.args.units.now (Some c.args.old.now.value) c.requires.old) c.requires.needs
    ∙ (ap need_list_of (bare_without c.args.name c.args.units.now) ∙ ap (λ (us : Named). need_list_of (as_units us)) (sym c.in_ok-units.ensures))
