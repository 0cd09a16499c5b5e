-- Maps of units: the pairs of pages as entries, and what a change of one entry leaves in another view of the map.
use Rattle.std.proofs.Common.{◌≡◌, ℕ, zero, suc, ◌+◌, ◌<◌, Bool, true, false, cond, List, [], ◌∷◌, ◌++◌, map, take, length, get_or, replicate, Option, Some, None, option_map, refl, sym, ap, subst, ◌∙◌, arith}
use Rattle.std.specs.declared.cmp.Ordering.TheVariants.{Less, Equal, Greater}
use Rattle.std.specs.Ordering.{match_ordering, is_eq, ordering_reverse}
use Rattle.std.specs.FinMap.{IsAntisymmetric, nat_cmp-IsAntisymmetric, slice_cmp-IsAntisymmetric}
use Rattle.std.specs.List.{AllByRecursion}
use Rattle.std.specs.List.Sorted.{IsStrictlySortedBy}
use Rattle.std.specs.Map.{keys_of, lookup, remove_entry}
use Rattle.std.specs.BTreeMap.{insert_entry, is_at}
use Rattle.std.proofs.lemmas.Map.Made.{keys_of-map_values}
use Rattle.ix_types.specs.Row.{text_cmp}
use Rattle.ix_pages.specs.Pairs.{IsRising, look_up, with_pair, without_key}
use Rattle.ix_pages.specs.Paging.{pairs_of, pages_with, pages_without}
use Rattle.std.specs.declared.alloc.Global.{Global}
use Rattle.std.specs.declared.sync.Arc.{Arc}
use Rattle.std.proofs.lemmas.List.{map_more}
use Rattle.std.proofs.lemmas.Cmp.{nat_list_cmp_total}
use Rattle.ix_unit.specs.declared.value.UnitValue.{UnitValue}
use Rattle.ix_model.specs.declared.publication.Publication.TheVariants.{Put, Gone}
use Rattle.ix_model.specs.declared.publication.StoredUnit.{StoredUnit}
use Rattle.ix_model.specs.Units.{NamesRise, changed, unit_named}
use Rattle.ix_ledger.specs.Handles.{handed}
use Rattle.ix_ledger.specs.Kept.{Named, as_units, unit_at}

pub text_same : IsAntisymmetric text_cmp
text_same = slice_cmp-IsAntisymmetric nat_cmp-IsAntisymmetric

-- ---- the pairs of pages as entries

module _ {V : Type 0} where
  pub with_inserts : (es : List (List ℕ × V)) (k : List ℕ) (v : V) → with_pair text_cmp es (k, v) ≡ insert_entry text_cmp es k v
  with_inserts [] k v = refl
  with_inserts (e ∷ es) k v =
      (elim (text_cmp k e.0) as (λ r. text_cmp k e.0 ≡ r → match_ordering r ((k, v) ∷ e ∷ es) ((k, v) ∷ es) (e ∷ with_pair text_cmp es (k, v)) ≡ match_ordering r ((k, v) ∷ e ∷ es) ((e.0, v) ∷ es) (e ∷ insert_entry text_cmp es k v)) [
        | Less ↦ λ c. refl
        | Equal ↦ λ c. ap (λ (n : List ℕ). (n, v) ∷ es) (text_same k e.0 c)
        | Greater ↦ λ c. ap (λ (rest : List (List ℕ × V)). e ∷ rest) (with_inserts es k v)
      ]) refl

  pub looks : (es : List (List ℕ × V)) (k : List ℕ) → look_up text_cmp es k ≡ lookup (is_at (text_cmp k)) es
  looks [] k = refl
  looks (e ∷ es) k = ap (λ (o : Option V). cond (is_eq (text_cmp k e.0)) (Some e.1) o) (looks es k)

  pub takes : (es : List (List ℕ × V)) (k : List ℕ) → without_key text_cmp es k ≡ remove_entry (is_at (text_cmp k)) es
  takes [] k = refl
  takes (e ∷ es) k = ap (λ (rest : List (List ℕ × V)). cond (is_eq (text_cmp k e.0)) es (e ∷ rest)) (takes es k)

  all_keys : (k : List ℕ) (es : List (List ℕ × V)) → AllByRecursion (λ later. text_cmp k later.0 ≡ Less) es → AllByRecursion (λ y. text_cmp k y ≡ Less) (keys_of es)
  all_keys k [] a = tt
  all_keys k (e ∷ es) a = (a.0, all_keys k es a.1)

  pub keys_rise : (es : List (List ℕ × V)) → IsRising text_cmp es → IsStrictlySortedBy text_cmp (keys_of es)
  unfolding IsStrictlySortedBy
  keys_rise [] rises = tt
  keys_rise (e ∷ es) rises = (all_keys e.0 es rises.0, keys_rise es rises.1)

-- ---- the same map with other values

module _ {V W : Type 0} (f : V → W) where
  abbrev pub over : List (List ℕ × V) → List (List ℕ × W)
  over es = map (λ (e : List ℕ × V). (e.0, f e.1)) es

  pub over_insert : (es : List (List ℕ × V)) (k : List ℕ) (v : V) → over (insert_entry text_cmp es k v) ≡ insert_entry text_cmp (over es) k (f v)
  over_insert [] k v = refl
  over_insert (e ∷ es) k v =
      elim (text_cmp k e.0) as (λ r. over (match_ordering r ((k, v) ∷ e ∷ es) ((e.0, v) ∷ es) (e ∷ insert_entry text_cmp es k v)) ≡ match_ordering r ((k, f v) ∷ (e.0, f e.1) ∷ over es) ((e.0, f v) ∷ over es) ((e.0, f e.1) ∷ insert_entry text_cmp (over es) k (f v))) [
        | Less ↦ refl
        | Equal ↦ refl
        | Greater ↦ ap (λ (rest : List (List ℕ × W)). (e.0, f e.1) ∷ rest) (over_insert es k v)
      ]

  pub over_remove : (test : List ℕ → Bool) (es : List (List ℕ × V)) → over (remove_entry test es) ≡ remove_entry test (over es)
  over_remove test [] = refl
  over_remove test (e ∷ es) =
      elim (test e.0) as (λ b. over (cond b es (e ∷ remove_entry test es)) ≡ cond b (over es) ((e.0, f e.1) ∷ remove_entry test (over es))) [
        | true ↦ refl
        | false ↦ ap (λ (rest : List (List ℕ × W)). (e.0, f e.1) ∷ rest) (over_remove test es)
      ]

  pub over_lookup : (test : List ℕ → Bool) (es : List (List ℕ × V)) → lookup test (over es) ≡ option_map f (lookup test es)
  over_lookup test [] = refl
  over_lookup test (e ∷ es) =
      elim (test e.0) as (λ b. cond b (Some (f e.1)) (lookup test (over es)) ≡ option_map f (cond b (Some e.1) (lookup test es))) [
        | true ↦ refl
        | false ↦ over_lookup test es
      ]

  pub over_rises : (es : List (List ℕ × V)) → IsStrictlySortedBy text_cmp (keys_of es) → IsStrictlySortedBy text_cmp (keys_of (over es))
  over_rises es rises = subst (IsStrictlySortedBy text_cmp) (sym (keys_of-map_values f es)) rises

-- ---- units behind handles

abbrev pub led : Arc UnitValue Global → UnitValue
led handle = handle.value

abbrev pub bare : UnitValue → StoredUnit
bare unit = record { unit = unit; values = [] }

pub none_led : (n : ℕ) → map (option_map led) (replicate n None) ≡ replicate n None
none_led zero = refl
none_led (suc n) = ap (λ (os : List (Option UnitValue)). None ∷ os) (none_led n)

module _ (pages after : List (List (List ℕ × Arc UnitValue Global))) (us : Named) (seen : handed (pairs_of pages) ≡ us) where
  pub handed_at : (name : List ℕ) (o : Option (Arc UnitValue Global)) → o ≡ look_up text_cmp (pairs_of pages) name → option_map led o ≡ unit_at name us
  handed_at name o is =
      ap (option_map led) (is ∙ looks (pairs_of pages) name)
      ∙ (sym (over_lookup led (is_at (text_cmp name)) (pairs_of pages)) ∙ ap (unit_at name) seen)

  pub handed_rise : IsRising text_cmp (pairs_of pages) → NamesRise (as_units us)
  handed_rise rises = subst (λ (named : Named). NamesRise (as_units named)) seen (over_rises bare (handed (pairs_of pages)) (over_rises led (pairs_of pages) (keys_rise (pairs_of pages) rises)))

  pub handed_with : (name : List ℕ) (handle : Arc UnitValue Global) (unit : UnitValue) → after ≡ pages_with text_cmp 64 pages (name, handle)
      → pairs_of (pages_with text_cmp 64 pages (name, handle)) ≡ with_pair text_cmp (pairs_of pages) (name, handle) → handle.value ≡ unit
      → handed (pairs_of after) ≡ insert_entry text_cmp us name unit
  handed_with name handle unit is pairs leads =
      ap (λ (ps : List (List (List ℕ × Arc UnitValue Global))). handed (pairs_of ps)) is
      ∙ (ap handed (pairs ∙ with_inserts (pairs_of pages) name handle)
      ∙ (over_insert led (pairs_of pages) name handle
      ∙ (λ i. insert_entry text_cmp (seen i) name (leads i))))

  pub handed_without : (name : List ℕ) → after ≡ pages_without text_cmp pages name
      → pairs_of (pages_without text_cmp pages name) ≡ without_key text_cmp (pairs_of pages) name
      → handed (pairs_of after) ≡ remove_entry (is_at (text_cmp name)) us
  handed_without name is pairs =
      ap (λ (ps : List (List (List ℕ × Arc UnitValue Global))). handed (pairs_of ps)) is
      ∙ (ap handed (pairs ∙ takes (pairs_of pages) name)
      ∙ (over_remove led (is_at (text_cmp name)) (pairs_of pages)
      ∙ ap (remove_entry (is_at (text_cmp name))) seen))

-- ---- units with no values

pub bare_at : (name : List ℕ) (us : Named) (o : Option UnitValue) → unit_at name us ≡ o → unit_named name (as_units us) ≡ option_map bare o
bare_at name us o is = over_lookup bare (is_at (text_cmp name)) us ∙ ap (option_map bare) is

pub bare_with : (name : List ℕ) (unit : UnitValue) (us : Named) → changed (as_units us) (Put name (bare unit)) ≡ as_units (insert_entry text_cmp us name unit)
bare_with name unit us = sym (over_insert bare us name unit)

pub bare_without : (name : List ℕ) (us : Named) → changed (as_units us) (Gone name) ≡ as_units (remove_entry (is_at (text_cmp name)) us)
bare_without name us = sym (over_remove bare (is_at (text_cmp name)) us)
