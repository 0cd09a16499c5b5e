-- The least new name that wasn't taken is the first of those that rise.
use Rattle.std.proofs.Common.{◌≡◌, ◌≢◌, ◌↔◌, ℕ, List, Option, Some, None, Contains, IfSome, refl, sym, ap, ◌∙◌}
use Rattle.std.specs.Ordering.{is_eq, ordering_reverse}
use Rattle.std.specs.List.Sorted.{IsStrictlySortedBy}
use Rattle.std.specs.declared.cmp.Ordering.TheVariants.{Less, Equal, Greater}
use Rattle.std.proofs.lemmas.Cmp.{nat_list_cmp_total}
use Rattle.ix_types.specs.Row.{text_cmp}
use Rattle.ix_pages.specs.Pairs.{look_up}
use Rattle.ix_outline.specs.declared.outline.Outline.{Outline}
use Rattle.ix_outline.specs.Moving.{Named}
use Rattle.ix_outline.proofs.Door.{tied}
use Rattle.ix_import.specs.Importing.{Opened, next_in, next_under}
use Rattle.ix_import.proofs.Nexts.{next_there, next_least, next_none}

-- a new name that wasn't taken, while each lesser one was
abbrev pub IsLeast : List (List ℕ) → Named Outline → List ℕ → Type 0
IsLeast fresh taken name = Contains fresh name × (look_up text_cmp taken name ≡ None) × ((other : List ℕ) → Contains fresh other → text_cmp other name ≡ Less → look_up text_cmp taken other ≢ None)

module _ (fresh : List (List ℕ)) (taken : Named Outline) (name : List ℕ) (rise : IsStrictlySortedBy text_cmp fresh) where
  out : next_in fresh taken ≡ Some name → IsLeast fresh taken name
  out e = let there = next_there taken fresh name e in
      (there.0, there.1, λ other has less. next_least taken fresh name other has.0 rise e has.1 has.2 less)

  back : (found : Option (List ℕ)) → next_in fresh taken ≡ found → IsLeast fresh taken name → next_in fresh taken ≡ Some name
  back None e least = absurd (next_none taken fresh least.0.0 name e least.0.1 least.0.2 least.1)
  back (Some first) e least =
      let there = next_there taken fresh first e in
      (elim (text_cmp first name) as (λ o. text_cmp first name ≡ o → next_in fresh taken ≡ Some name) [
        | Less ↦ λ less. absurd (least.2 first there.0 less there.1)
        | Equal ↦ λ same. e ∙ ap (λ (n : List ℕ). Some n) (tied first name (ap is_eq same))
        | Greater ↦ λ more. absurd (next_least taken fresh first name least.0.0 rise e least.0.1 least.0.2 (turned first name more) least.1)
      ]) refl
    where
      turned : (a b : List ℕ) → text_cmp a b ≡ Greater → text_cmp b a ≡ Less
      turned a b more = nat_list_cmp_total.antisymm b a ∙ ap ordering_reverse more

  pub is_least : (next_in fresh taken ≡ Some name) ↔ IsLeast fresh taken name
  is_least = (out, back (next_in fresh taken) refl)

pub least_under : (import : Option Opened) (found : Option (List ℕ)) → found ≡ next_under import
    → IfSome import (λ opened. IsStrictlySortedBy text_cmp opened.fresh → (name : List ℕ) → (found ≡ Some name) ↔ IsLeast opened.fresh opened.taken name)
least_under None found is = record {}
least_under (Some opened) found is = λ rise name.
    let those = is_least opened.fresh opened.taken name rise in
    (λ e. those.0 (sym is ∙ e), λ least. is ∙ those.1 least)
