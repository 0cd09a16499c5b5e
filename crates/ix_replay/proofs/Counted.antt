-- What a run's counts are since before its opening.
use Rattle.std.proofs.Common.{◌≡◌, ℕ, ◌+◌, ◌-◌, ◌^◌, ◌≤◌, min, List, [], ◌++◌, sym, ap, ◌∙◌, subst, arith}
use Rattle.ix_types.specs.Count.{counted}
use Rattle.ix_machine.specs.declared.event.Event.{Event}
use Rattle.ix_counts.specs.Counting.{AreCounted, Counts, RoseBy, failures, loads, scans}
use Rattle.ix_opening.specs.Fault.{HasNotFallen}

since_same : (times before mid after : ℕ) → mid ≡ before → RoseBy times mid after → RoseBy times before after
since_same times before mid after same rose = omega (arith, same, rose)

since_more : (times before mid after : ℕ) → HasNotFallen before mid → RoseBy times mid after → RoseBy times before after
since_more times before mid after stays rose =
    let low : min before (2 ^ 64 - 1) ≤ mid = stays (min before (2 ^ 64 - 1)) (omega arith) (omega arith) in
    omega (arith, low, rose)

since_one : (times before mid after : ℕ) → mid ≡ counted before → RoseBy times mid after → RoseBy (1 + times) before after
since_one times before mid after one rose = omega (arith, one, rose)

module _ (earlier events : List Event) (mid after : Counts) (before : ℕ) (none : earlier ≡ []) (run : AreCounted earlier mid events after) where
  all_are : events ≡ run.more
  all_are = run.added ∙ ap (λ (es : List Event). es ++ run.more) none

  pub faults_since : mid.faults ≡ before → RoseBy (failures events) before after.faults
  faults_since same =
      subst (λ (es : List Event). RoseBy (failures es) before after.faults) (sym all_are) (since_same (failures run.more) before mid.faults after.faults same run.rose)

  pub finds_since : HasNotFallen before mid.finds → RoseBy (loads events) before after.finds
  finds_since stays = subst (λ (es : List Event). RoseBy (loads es) before after.finds) (sym all_are) (since_more (loads run.more) before mid.finds after.finds stays run.found)

  pub listings_since : mid.listings ≡ counted before → RoseBy (1 + scans events) before after.listings
  listings_since one =
      subst (λ (es : List Event). RoseBy (1 + scans es) before after.listings) (sym all_are) (since_one (scans run.more) before mid.listings after.listings one run.listed)
