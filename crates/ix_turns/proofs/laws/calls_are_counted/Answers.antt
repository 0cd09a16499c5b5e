use Rattle.std.proofs.Common.{◌≡◌, ℕ, List, [], ◌∷◌, ◌++◌, Option, Some, None, false, sym, subst}
use Rattle.ix_dir.specs.State.{DirState, counted_where}
use Rattle.ix_counts.specs.Counting.{AreCounted, Counts, RoseWhere, counts_of, is_failure, is_loaded, is_scanned, says_loaded, says_scanned}
use Rattle.ix_machine.specs.declared.event.Call.{Call}
use Rattle.ix_machine.specs.declared.event.Event.{Event}
use Rattle.ix_machine.specs.declared.event.Outcome.{Outcome}
use Rattle.ix_ledger.specs.Books.{event}
use Rattle.ix_library.specs.Endings.{with_event}
use Rattle.ix_turns.specs.Ended.{call_failed}
use Rattle.ix_turns.proofs.laws.calls_are_counted.Goals as goal

-- with its event, or with none where memory was wanting
ends : (one : (earlier : List Event) (happened : Event) (before after : Counts) → after.faults ≡ counted_where (is_failure happened.outcome) before.faults
    → RoseWhere (is_loaded happened.call happened.outcome) before.finds after.finds → RoseWhere (is_scanned happened.call happened.outcome) before.listings after.listings
    → AreCounted earlier before (earlier ++ happened ∷ []) after)
    → (none : (events : List Event) (before after : Counts) → after.faults ≡ before.faults → RoseWhere false before.finds after.finds → RoseWhere false before.listings after.listings → AreCounted events before events after)
    → (earlier : List Event) (lane : ℕ) (call : Call) (how : Option Outcome) (before after : DirState) → after.faults ≡ counted_where (call_failed how) before.faults
    → RoseWhere (says_loaded call how) before.finds after.finds → RoseWhere (says_scanned call how) before.listings after.listings → AreCounted earlier (counts_of before) (with_event earlier lane call how) (counts_of after)
ends one none earlier lane call None before after faults finds listings = none earlier (counts_of before) (counts_of after) faults finds listings
ends one none earlier lane call (Some outcome) before after faults finds listings = one earlier (event lane call outcome) (counts_of before) (counts_of after) faults finds listings

pub returns : goal.returns
returns c earlier events lane call how before after is faults finds listings =
    subst (λ (es : List Event). AreCounted earlier (counts_of before) es (counts_of after)) (sym is)
    (ends c.events_are_counted.ensures.one c.events_are_counted.ensures.none earlier lane call how before after faults finds listings)
