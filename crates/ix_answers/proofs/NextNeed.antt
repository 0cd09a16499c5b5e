-- The least that is lacking is the one that comes next, for each form of query.
use Rattle.std.proofs.Common.{◌≡◌, ◌↔◌, ℕ, ◌<◌, List, map, filter, Option, Some, None, refl, ap, ◌∙◌}
use Rattle.std.specs.declared.cmp.Ordering.{Ordering}
use Rattle.std.specs.declared.cmp.Ordering.TheVariants.{Less, Equal, Greater}
use Rattle.std.specs.Ordering.{ordering_reverse}
use Rattle.std.specs.List.Sorted.{IsStrictlySortedBy}
use Rattle.ix_types.specs.Row.{text_cmp}
use Rattle.ix_model.specs.Units.{Units}
use Rattle.ix_answers.specs.declared.walks.Walk.{Walk}
use Rattle.ix_answers.specs.Facts.{held}
use Rattle.ix_answers.specs.Lookups.{is_among, holders}
use Rattle.ix_answers.specs.Needs.{lacking_of, level_needs, walk_needs}
use Rattle.ix_answers.specs.Rising.{AreLoaded, IsLeastLacking}
use Rattle.ix_answers.proofs.Orders.{text_cmp_total, text_cmp-IsAntisymmetric}
use Rattle.ix_answers.proofs.Rising.{texts-rise, level-rises, none-lacking, least-lacking, first-level}

module _ (loaded names : List (List ℕ)) where
  -- one name is the least
  least_is_one : (first second : List ℕ) → IsLeastLacking loaded names first → IsLeastLacking loaded names second → first ≡ second
  least_is_one first second a b = by_order (text_cmp first second) refl
    where
      by_order : (o : Ordering) → text_cmp first second ≡ o → first ≡ second
      by_order Less e = absurd (a.is_lacking (b.is_least first a.is_needed e))
      by_order Equal e = text_cmp-IsAntisymmetric first second e
      by_order Greater e = absurd (b.is_lacking (a.is_least second b.is_needed (text_cmp_total.antisymm second first ∙ ap ordering_reverse e)))

  found_least : IsStrictlySortedBy text_cmp names → (name : List ℕ) → IsLeastLacking loaded names name → lacking_of loaded names ≡ Some name
  found_least rises name l = by_found (lacking_of loaded names) refl
    where
      by_found : (o : Option (List ℕ)) → lacking_of loaded names ≡ o → lacking_of loaded names ≡ Some name
      by_found None e = absurd (l.is_lacking ((none-lacking loaded names).0 e name l.is_needed))
      by_found (Some other) e = e ∙ ap Some (least_is_one other name (least-lacking loaded names rises other e) l)

  pub next-is-least : IsStrictlySortedBy text_cmp names → (name : List ℕ) → (lacking_of loaded names ≡ Some name) ↔ IsLeastLacking loaded names name
  next-is-least rises name = (λ e. least-lacking loaded names rises name e, λ l. found_least rises name l)

pub next-of-holders : (usrs : List (List ℕ)) (units : Units) (loaded : List (List ℕ)) (name : List ℕ) → (lacking_of loaded (holders usrs units) ≡ Some name) ↔ IsLeastLacking loaded (holders usrs units) name
next-of-holders usrs units loaded name =
    next-is-least loaded (holders usrs units) (texts-rise (map (λ symbol. symbol.holder) (filter (λ symbol. is_among usrs symbol.usr) (held units)))) name

pub next-of-level : (walk : Walk) (usr : List ℕ) (units : Units) (loaded : List (List ℕ)) (n depth : ℕ) (name : List ℕ) → n < depth → ((m : ℕ) → m < n → AreLoaded loaded (level_needs walk usr units m)) → IsLeastLacking loaded (level_needs walk usr units n) name → lacking_of loaded (walk_needs walk usr units depth) ≡ Some name
next-of-level walk usr units loaded n depth name below all l =
    first-level loaded walk usr units n depth below all name (found_least loaded (level_needs walk usr units n) (level-rises walk usr units n) name l)
