use Rattle.std.proofs.Common.{sym, ap, ◌∙◌}
use Rattle.ix_model.specs.Units.{Units}
use Rattle.ix_guard.specs.Listing.{need_list_of}
use Rattle.ix_ledger.specs.Kept.{Named, as_units}
use Rattle.ix_ledger.proofs.NeedLists.{puts_same}
use Rattle.ix_ledger.proofs.change.Change.of_found.Goals as goal

pub invariant_of-result : goal.invariant_of-result
invariant_of-result c =
    c.in_ok-needs.ensures
    ∙ (ap need_list_of (puts_same c.args.found.now)
    ∙ ap (λ (us : Named). need_list_of (as_units us)) (sym c.in_ok-units.ensures))
