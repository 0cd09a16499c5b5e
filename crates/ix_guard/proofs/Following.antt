-- The need list of units after one of them came, went or was replaced.
use Rattle.std.proofs.Common.{◌≡◌, ◌↔◌, ℕ, ◌+◌, true, false, cond, List, [], ◌∷◌, Some, None, refl, sym, ap, ◌∙◌, arith}
use Rattle.std.specs.declared.cmp.Ordering.TheVariants.{Less, Equal, Greater}
use Rattle.std.specs.Ordering.{match_ordering, is_eq}
use Rattle.std.specs.List.{AllByRecursion}
use Rattle.std.specs.List.Sorted.{IsStrictlySortedBy}
use Rattle.std.proofs.lemmas.Cmp.{nat_list_cmp_total}
use Rattle.std.specs.Map.{keys_of, remove_entry}
use Rattle.std.specs.BTreeMap.{insert_entry, is_at}
use Rattle.ix_types.specs.Row.{text_cmp}
use Rattle.ix_unit.specs.declared.value.UnitValue.{UnitValue}
use Rattle.ix_model.specs.declared.publication.StoredUnit.{StoredUnit}
use Rattle.ix_model.specs.declared.publication.Publication.TheVariants.{Put, Gone}
use Rattle.ix_model.specs.Units.{Units, changed, unit_named, NamesRise}
use Rattle.ix_guard.specs.Counts.{Counts, count_at, times, Gains, Loses}
use Rattle.ix_guard.specs.Listing.{names_in, names_in_all, need_list_of, IsNeedListOf}
use Rattle.ix_guard.proofs.Counting.{times-append}

uses_of_more : (name : List ℕ) (e : List ℕ × StoredUnit) (es : Units) → times name (names_in_all (e ∷ es)) ≡ times name (names_in e.1.unit) + times name (names_in_all es)
uses_of_more name e es = times-append name (names_in e.1.unit) (names_in_all es)

none≢some : {X : Type 0} {x : X} → None ≡ Some x → ⊥
none≢some e = cc

some_same : {X : Type 0} {x y : X} → Some x ≡ Some y → x ≡ y
some_same e = cc

module _ (record_name : List ℕ) (name : List ℕ) where
  -- a unit that comes
  came : (stored : StoredUnit) (es : Units) → unit_named name es ≡ None
      → times record_name (names_in_all (insert_entry text_cmp es name stored)) ≡ times record_name (names_in_all es) + times record_name (names_in stored.unit)
  came stored [] none =
      let e = uses_of_more record_name (name, stored) [] in
      omega (arith, e)
  came stored (e ∷ es) none =
      (elim (text_cmp name e.0) as (λ r. text_cmp name e.0 ≡ r → cond (is_eq r) (Some e.1) (unit_named name es) ≡ None → times record_name (names_in_all (match_ordering r ((name, stored) ∷ e ∷ es) ((e.0, stored) ∷ es) (e ∷ insert_entry text_cmp es name stored))) ≡ times record_name (names_in_all (e ∷ es)) + times record_name (names_in stored.unit)) [
        | Less ↦ λ c n. (let h = uses_of_more record_name (name, stored) (e ∷ es) in omega (arith, h))
        | Equal ↦ λ c n. absurd (none≢some (sym n))
        | Greater ↦ λ c n. (
            let h = uses_of_more record_name e (insert_entry text_cmp es name stored) in
            let i = uses_of_more record_name e es in
            let j = came stored es n in
            omega (arith, h, i, j))
      ]) refl none

  -- a unit that goes
  went : (stored : StoredUnit) (es : Units) → unit_named name es ≡ Some stored
      → times record_name (names_in_all es) ≡ times record_name (names_in_all (remove_entry (is_at (text_cmp name)) es)) + times record_name (names_in stored.unit)
  went stored [] some = absurd (none≢some some)
  went stored (e ∷ es) some =
      (elim (is_eq (text_cmp name e.0)) as (λ b. cond b (Some e.1) (unit_named name es) ≡ Some stored → times record_name (names_in_all (e ∷ es)) ≡ times record_name (names_in_all (cond b es (e ∷ remove_entry (is_at (text_cmp name)) es))) + times record_name (names_in stored.unit)) [
        | true ↦ λ s. (
            let h = uses_of_more record_name e es in
            let i = ap (λ (z : StoredUnit). times record_name (names_in z.unit)) (some_same s) in
            omega (arith, h, i))
        | false ↦ λ s. (
            let h = uses_of_more record_name e (remove_entry (is_at (text_cmp name)) es) in
            let i = uses_of_more record_name e es in
            let j = went stored es s in
            omega (arith, h, i, j))
      ]) some

  -- no unit has the name where all names are greater
  none_above : (es : Units) → AllByRecursion (λ y. text_cmp name y ≡ Less) (keys_of es) → unit_named name es ≡ None
  none_above [] a = refl
  none_above (e ∷ es) a = ap (λ b. cond b (Some e.1) (unit_named name es)) (ap is_eq a.0) ∙ none_above es a.1

  pub all_above : (y : List ℕ) (ys : List (List ℕ)) → text_cmp name y ≡ Less → AllByRecursion (λ z. text_cmp y z ≡ Less) ys → AllByRecursion (λ z. text_cmp name z ≡ Less) ys
  all_above y [] below a = tt
  all_above y (z ∷ zs) below a = (nat_list_cmp_total.trans name y z below a.0, all_above y zs below a.1)

  -- a unit that comes in the place of another
  replaced : (earlier later : StoredUnit) (es : Units) → NamesRise es → unit_named name es ≡ Some earlier
      → times record_name (names_in_all (insert_entry text_cmp es name later)) + times record_name (names_in earlier.unit) ≡ times record_name (names_in_all es) + times record_name (names_in later.unit)
  unfolding IsStrictlySortedBy
  replaced earlier later [] rise some = absurd (none≢some some)
  replaced earlier later (e ∷ es) rise some =
      (elim (text_cmp name e.0) as (λ r. text_cmp name e.0 ≡ r → cond (is_eq r) (Some e.1) (unit_named name es) ≡ Some earlier → times record_name (names_in_all (match_ordering r ((name, later) ∷ e ∷ es) ((e.0, later) ∷ es) (e ∷ insert_entry text_cmp es name later))) + times record_name (names_in earlier.unit) ≡ times record_name (names_in_all (e ∷ es)) + times record_name (names_in later.unit)) [
        | Less ↦ λ c s. absurd (none≢some (sym (none_above es (all_above e.0 (keys_of es) c rise.0)) ∙ s))
        | Equal ↦ λ c s. (
            let h = uses_of_more record_name e es in
            let g = uses_of_more record_name (e.0, later) es in
            let i = ap (λ (z : StoredUnit). times record_name (names_in z.unit)) (some_same s) in
            omega (arith, h, g, i))
        | Greater ↦ λ c s. (
            let h = uses_of_more record_name e (insert_entry text_cmp es name later) in
            let i = uses_of_more record_name e es in
            let j = replaced earlier later es rise.1 s in
            omega (arith, h, i, j))
      ]) refl some

-- ---- which changes of units a need list follows

-- from the need list of any units without this one to that of these with it
abbrev pub FollowsPut : UnitValue → Counts → Counts → Type 0
FollowsPut unit before after =
    (units : Units) (name : List ℕ) (stored : StoredUnit) → stored.unit ≡ unit → unit_named name units ≡ None
    → before ≡ need_list_of units → after ≡ need_list_of (changed units (Put name stored))

-- from the need list of any units with this one to that of these without it
abbrev pub FollowsGone : UnitValue → Counts → Counts → Type 0
FollowsGone unit before after =
    (units : Units) (name : List ℕ) (stored : StoredUnit) → stored.unit ≡ unit → unit_named name units ≡ Some stored
    → before ≡ need_list_of units → after ≡ need_list_of (changed units (Gone name))

-- from the need list of any units with the old one to that of these with the new one in its place
abbrev pub FollowsReplaced : UnitValue → UnitValue → Counts → Counts → Type 0
FollowsReplaced old new before after =
    (units : Units) (name : List ℕ) (earlier later : StoredUnit) → earlier.unit ≡ old → later.unit ≡ new → NamesRise units
    → unit_named name units ≡ Some earlier
    → before ≡ need_list_of units → after ≡ need_list_of (changed units (Put name later))

module _ (exactly : (counts : Counts) (units : Units) → IsNeedListOf counts units ↔ counts ≡ need_list_of units) where
  pub follows_put : (unit : UnitValue) (before after : Counts) → Gains (names_in unit) before after → FollowsPut unit before after
  follows_put unit before after gains units name stored is none listed = (exactly after (insert_entry text_cmp units name stored)).0 (record { sound = gains.sound; each = each })
    where
      each : (q : List ℕ) → count_at after q ≡ times q (names_in_all (insert_entry text_cmp units name stored))
      each q =
          let list : IsNeedListOf before units = (exactly before units).1 listed in
          let g = gains.each q in
          let l = list.each q in
          let c = came q name stored units none in
          let u = ap (λ (z : UnitValue). times q (names_in z)) is in
          omega (arith, g, l, c, u)

  pub follows_gone : (unit : UnitValue) (before after : Counts) → Loses (names_in unit) before after → FollowsGone unit before after
  follows_gone unit before after loses units name stored is some listed = (exactly after (remove_entry (is_at (text_cmp name)) units)).0 (record { sound = loses.sound; each = each })
    where
      each : (q : List ℕ) → count_at after q ≡ times q (names_in_all (remove_entry (is_at (text_cmp name)) units))
      each q =
          let list : IsNeedListOf before units = (exactly before units).1 listed in
          let g = loses.each q in
          let l = list.each q in
          let c = went q name stored units some in
          let u = ap (λ (z : UnitValue). times q (names_in z)) is in
          omega (arith, g, l, c, u)

  pub follows_replaced : (old new : UnitValue) (before rest after : Counts) → Loses (names_in old) before rest → Gains (names_in new) rest after → FollowsReplaced old new before after
  follows_replaced old new before rest after loses gains units name earlier later was is rise some listed = (exactly after (insert_entry text_cmp units name later)).0 (record { sound = gains.sound; each = each })
    where
      each : (q : List ℕ) → count_at after q ≡ times q (names_in_all (insert_entry text_cmp units name later))
      each q =
          let list : IsNeedListOf before units = (exactly before units).1 listed in
          let g = gains.each q in
          let h = loses.each q in
          let l = list.each q in
          let w = went q name earlier units some in
          let c = replaced q name earlier later units rise some in
          let u = ap (λ (z : UnitValue). times q (names_in z)) was in
          let v = ap (λ (z : UnitValue). times q (names_in z)) is in
          omega (arith, g, h, l, w, c, u, v)
