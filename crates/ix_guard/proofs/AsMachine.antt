-- The guard of a state of the machine needs, protects and guards what the machine does.
use Rattle.std.proofs.Common.{◌≡◌, ◌≢◌, ℕ, zero, suc, ◌+◌, Bool, true, false, not, cond, ◌||◌, ◌&&◌, List, [], ◌∷◌, ◌++◌, map, take, drop, filter, Option, Some, None, option_map, Contains, slice_get, slice_index_or, IfSome, refl, sym, ap, ◌∙◌, arith}
use Rattle.std.specs.declared.cmp.Ordering.TheVariants.{Less, Greater}
use Rattle.std.specs.Ordering.{ordering_reverse}
use Rattle.std.specs.List.{AllByRecursion, list_any}
use Rattle.std.specs.List.Sorted.{IsStrictlySortedBy}
use Rattle.std.specs.Str.{bytes_eq}
use Rattle.std.proofs.lemmas.Cmp.{nat_list_cmp_total}
use Rattle.std.proofs.lemmas.List.{map-append, take-map, drop-map}
use Rattle.std.proofs.lemmas.List.Folds.{list_any-append}
use Rattle.std.proofs.lemmas.Map.Made.{Contains-tail}
use Rattle.std.proofs.lemmas.Slice.Eq.{bytes_eq-Decides}
use Rattle.ix_types.specs.Row.{text_cmp}
use Rattle.ix_model.specs.SortedSet.{IsSortedSetOf, sorted_set}
use Rattle.ix_model.specs.Units.{Units, units_at, needs}
use Rattle.ix_machine.specs.Needs.{option_any, has_name, units_need, visible, seen_at}
use Rattle.ix_machine.specs.Needs as machine
use Rattle.ix_machine.specs.Sound.{IsLeaseSound}
use Rattle.ix_machine.specs.State.{State, Import, Files}
use Rattle.ix_machine.specs.State as state
use Rattle.ix_guard.specs.Guarding.{Guarding}
use Rattle.ix_guard.specs.Listing.{names_in, names_in_all, need_list_of}
use Rattle.ix_guard.specs.OfMachine.{lease_for, guarding_of}
use Rattle.ix_guard.specs.Protection.{list_needs, is_needed, leases_name, is_leased, has_put, is_guarded, is_protected, IsFirstLoose}
use Rattle.ix_guard.proofs.Listed.{names_of_list}
use Rattle.ix_guard.proofs.Leasing.{leases_key, keys_with, put_with}
use Rattle.ix_guard.proofs.Loose.{all_at}
use Rattle.ix_guard.proofs.Naming.{has_there, there_has}

-- ---- tests over lists and options

any_map : {X Y : Type 0} (f : X → Y) (p : Y → Bool) (xs : List X) → list_any p (map f xs) ≡ list_any (λ x. p (f x)) xs
any_map f p [] = refl
any_map f p (x ∷ xs) = ap (λ b. p (f x) || b) (any_map f p xs)

module _ {X Y : Type 0} (f : X → Y) (p : Y → Bool) (q : X → Bool) (same : (x : X) → p (f x) ≡ q x) where
  option_as : (o : Option X) → option_any p (option_map f o) ≡ option_any q o
  option_as None = refl
  option_as (Some x) = same x

  any_as : (xs : List X) → list_any p (map f xs) ≡ list_any q xs
  any_as [] = refl
  any_as (x ∷ xs) = λ i. (same x i || any_as xs i)

same_bool : (a b : Bool) → (a ≡ true → b ≡ true) → (b ≡ true → a ≡ true) → a ≡ b
same_bool true b f g = sym (f refl)
same_bool false true f g = g refl
same_bool false false f g = refl

-- ---- need lists

units_list : (name : List ℕ) (units : Units) → has_name name (names_in_all units) ≡ units_need name units
units_list name [] = refl
units_list name (e ∷ es) =
    list_any-append (λ other. bytes_eq other name) (names_in e.1.unit) (names_in_all es)
    ∙ (λ i. (any_map (λ dep. dep.name) (λ other. bytes_eq other name) e.1.unit.records i || units_list name es i))

module _ (sets : (texts : List (List ℕ)) → IsSortedSetOf text_cmp texts (sorted_set text_cmp texts)) (name : List ℕ) where
  list_as : (units : Units) → list_needs name (need_list_of units) ≡ units_need name units
  list_as units =
      ap (has_name name) (names_of_list units)
      ∙ (same_bool (has_name name (needs units)) (has_name name (names_in_all units))
      (λ e. there_has name (names_in_all units) (((sets (names_in_all units)).same name).0 (has_there name (needs units) e)))
      (λ e. there_has name (needs units) (((sets (names_in_all units)).same name).1 (has_there name (names_in_all units) e)))
      ∙ units_list name units)

  pub needed_as : (s : State) → is_needed (guarding_of s) name ≡ machine.is_needed s name
  unfolding machine.is_needed
  needed_as s = λ i. (
      list_as (visible s) i
      || option_as (λ mark. need_list_of (units_at s.publications mark)) (list_needs name) (λ mark. units_need name (units_at s.publications mark)) (λ mark. list_as (units_at s.publications mark)) s.pending i
      || option_as (λ (o : Import). need_list_of (seen_at s o.mark)) (list_needs name) (λ (o : Import). units_need name (seen_at s o.mark)) (λ (o : Import). list_as (seen_at s o.mark)) s.import i
      || list_as (seen_at s s.current) i
      || any_as (option_map (λ mark. need_list_of (seen_at s mark))) (option_any (list_needs name)) (option_any (λ mark. units_need name (seen_at s mark)))
      (option_as (λ mark. need_list_of (seen_at s mark)) (list_needs name) (λ mark. units_need name (seen_at s mark)) (λ mark. list_as (seen_at s mark))) s.held i)

-- ---- leases

module _ (sets : (texts : List (List ℕ)) → IsSortedSetOf text_cmp texts (sorted_set text_cmp texts)) where
  pub among_sorted : (name : List ℕ) (names : List (List ℕ)) → has_name name (sorted_set text_cmp names) ≡ has_name name names
  among_sorted name names = same_bool (has_name name (sorted_set text_cmp names)) (has_name name names)
      (λ e. there_has name names (((sets names).same name).0 (has_there name (sorted_set text_cmp names) e)))
      (λ e. there_has name (sorted_set text_cmp names) (((sets names).same name).1 (has_there name names e)))

  lease_as : (name : List ℕ) (l : state.Lease) → leases_name name (lease_for l) ≡ has_name name l.names
  lease_as name l =
      leases_key name (lease_for l)
      ∙ (ap (has_name name) (keys_with (λ n. has_name n l.put) (sorted_set text_cmp l.names))
      ∙ among_sorted name l.names)

  leased_as : (name : List ℕ) (leases : List (Option state.Lease)) → is_leased name (map (option_map lease_for) leases) ≡ machine.is_leased name leases
  leased_as name leases =
      any_as (option_map lease_for) (option_any (leases_name name)) (option_any (λ (l : state.Lease). has_name name l.names))
      (option_as lease_for (leases_name name) (λ (l : state.Lease). has_name name l.names) (lease_as name))
      leases

  others_as : (name : List ℕ) (leases : List (Option state.Lease)) (lane : ℕ)
      → is_leased name (take lane (map (option_map lease_for) leases) ++ drop (lane + 1) (map (option_map lease_for) leases)) ≡ machine.is_leased name (take lane leases ++ drop (lane + 1) leases)
  others_as name leases lane =
      (λ i. is_leased name (take-map (option_map lease_for) lane leases i ++ drop-map (option_map lease_for) (lane + 1) leases i))
      ∙ (ap (is_leased name) (sym (map-append (option_map lease_for) (take lane leases) (drop (lane + 1) leases)))
      ∙ leased_as name (take lane leases ++ drop (lane + 1) leases))

-- ---- what was put

leased_where_put : (name : List ℕ) (names put : List (List ℕ)) → AllByRecursion (λ n. has_name n names ≡ true) put → has_name name put ≡ true → has_name name names ≡ true
leased_where_put name names [] all e = absurd (cc)
leased_where_put name names (x ∷ xs) all e = go (bytes_eq x name) refl e (leased_where_put name names xs all.1)
  where
    go : (b : Bool) → bytes_eq x name ≡ b → (b || has_name name xs) ≡ true → (has_name name xs ≡ true → has_name name names ≡ true) → has_name name names ≡ true
    go true f e rest = ap (λ (n : List ℕ). has_name n names) (sym ((bytes_eq-Decides x name).0 f)) ∙ all.0
    go false f e rest = rest e

second_alone : (a b : Bool) → (b ≡ true → a ≡ true) → (a && b) ≡ b
second_alone true b e = refl
second_alone false true e = e refl
second_alone false false e = refl

put_as : (sets : (texts : List (List ℕ)) → IsSortedSetOf text_cmp texts (sorted_set text_cmp texts)) (name : List ℕ) (o : Option state.Lease)
    → IfSome o (λ (l : state.Lease). AllByRecursion (λ n. has_name n l.names ≡ true) l.put)
    → option_any (has_put name) (option_map lease_for o) ≡ option_any (λ (l : state.Lease). has_name name l.put) o
put_as sets name None sound = refl
put_as sets name (Some l) sound =
    put_with (λ n. has_name n l.put) name (sorted_set text_cmp l.names)
    ∙ (ap (λ b. b && has_name name l.put) (among_sorted sets name l.names)
    ∙ second_alone (has_name name l.names) (has_name name l.put) (leased_where_put name l.names l.put sound))

pub lease_at : (leases : List (Option state.Lease)) (lane : ℕ) → slice_index_or (map (option_map lease_for) leases) lane None ≡ option_map lease_for (slice_index_or leases lane None)
lease_at [] zero = refl
lease_at [] (suc lane) = refl
lease_at (o ∷ leases) zero = refl
lease_at (o ∷ leases) (suc lane) = lease_at leases lane

-- ---- protected, guarded

module _ (sets : (texts : List (List ℕ)) → IsSortedSetOf text_cmp texts (sorted_set text_cmp texts)) (s : State) where
  pub protected_as : (name : List ℕ) → is_protected (guarding_of s) name ≡ machine.is_protected s name
  protected_as name = λ i. (needed_as sets name s i || leased_as sets name s.leases i)

  pub guarded_as : (lane : ℕ) (name : List ℕ) → IfSome (slice_index_or s.leases lane None) (λ (l : state.Lease). AllByRecursion (λ n. has_name n l.names ≡ true) l.put)
      → is_guarded (guarding_of s) lane name ≡ machine.is_guarded s lane name
  guarded_as lane name sound = λ i. (
      needed_as sets name s i
      || others_as sets name s.leases lane i
      || (ap (option_any (has_put name)) (lease_at s.leases lane) ∙ put_as sets name (slice_index_or s.leases lane None) sound) i)

-- ---- the first loose one

differ : {b : Bool} → b ≡ true → b ≡ false → ⊥
differ e f = cc

module _ (p q : List ℕ → Bool) (same : (x : List ℕ) → p x ≡ q x) where
  none_first : (names : List (List ℕ)) → AllByRecursion (λ other. p other ≡ true) names → None ≡ slice_get (filter (λ n. not (q n)) names) 0
  none_first [] all = refl
  none_first (x ∷ xs) all = none_first xs all.1 ∙ ap (λ b. slice_get (cond (not b) (x ∷ filter (λ n. not (q n)) xs) (filter (λ n. not (q n)) xs)) 0) (sym all.0 ∙ same x)

  some_first : (names : List (List ℕ)) (name : List ℕ) → IsStrictlySortedBy text_cmp names → Contains names name → p name ≡ false
      → AllByRecursion (λ other. p other ≡ false → text_cmp name other ≢ Greater) names → Some name ≡ slice_get (filter (λ n. not (q n)) names) 0
  unfolding IsStrictlySortedBy
  some_first [] name rises c loose least = absurd (omega (arith, c.1))
  some_first (x ∷ xs) name rises c loose least =
      (elim (p x) as (λ b. p x ≡ b → Some name ≡ slice_get (filter (λ n. not (q n)) (x ∷ xs)) 0) [
        | true ↦ λ e.
            some_first xs name rises.1 (Contains-tail x xs name (λ f. differ (sym (ap p f) ∙ e) loose) c) loose least.1
            ∙ ap (λ b. slice_get (cond (not b) (x ∷ filter (λ n. not (q n)) xs) (filter (λ n. not (q n)) xs)) 0) (sym e ∙ same x)
        | false ↦ λ e.
            ap Some (sym (it e))
            ∙ ap (λ b. slice_get (cond (not b) (x ∷ filter (λ n. not (q n)) xs) (filter (λ n. not (q n)) xs)) 0) (sym e ∙ same x)
      ]) refl
    where
      above : Contains xs name → text_cmp name x ≡ Greater
      above later = nat_list_cmp_total.antisymm name x ∙ ap ordering_reverse (all_at (λ y. text_cmp x y ≡ Less) xs name later rises.0)

      go : (b : Bool) → bytes_eq x name ≡ b → p x ≡ false → x ≡ name
      go true f e = (bytes_eq-Decides x name).0 f
      go false f e = absurd (least.0 e (above (Contains-tail x xs name (λ z. differ ((bytes_eq-Decides x name).1 z) f) c)))

      it : p x ≡ false → x ≡ name
      it e = go (bytes_eq x name) refl e

pub first_as : (g : Guarding) (q : List ℕ → Bool) → ((x : List ℕ) → is_protected g x ≡ q x) → (names : List (List ℕ)) → IsStrictlySortedBy text_cmp names → (first : Option (List ℕ))
    → IsFirstLoose g names first → first ≡ slice_get (filter (λ n. not (q n)) names) 0
first_as g q same names rises None all = none_first (is_protected g) q same names all
first_as g q same names rises (Some name) least = some_first (is_protected g) q same names name rises least.listed least.loose least.least

pub leased_alone : (name_of : List ℕ → List ℕ) (records : Files) (o : Option state.Lease) → IfSome o (IsLeaseSound name_of records) → IfSome o (λ (l : state.Lease). AllByRecursion (λ n. has_name n l.names ≡ true) l.put)
leased_alone name_of records None sound = sound
leased_alone name_of records (Some l) sound = sound.leased
