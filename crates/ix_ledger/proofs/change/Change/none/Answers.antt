use Rattle.std.proofs.Common.{sym, ap, ◌∙◌}
use Rattle.ix_guard.specs.Listing.{need_list_of}
use Rattle.ix_ledger.specs.Kept.{Named, as_units}
use Rattle.ix_ledger.proofs.NeedLists.{nothing_needed}
use Rattle.ix_ledger.proofs.change.Change.none.Goals as goal

pub invariant_of-result : goal.invariant_of-result
invariant_of-result c = c.empty-needs.ensures ∙ (nothing_needed ∙ ap (λ (us : Named). need_list_of (as_units us)) (sym c.empty-units.ensures))
