-- What a change of a map leaves at each name, and that names keep rising.
use Rattle.std.proofs.Common.{◌≡◌, ◌≢◌, ℕ, zero, suc, ◌+◌, ◌≤◌, Bool, true, false, cond, List, [], ◌∷◌, ◌++◌, length, take, fold, Some, None, refl, sym, ap, ◌∙◌, arith}
use Rattle.std.specs.declared.cmp.Ordering.{Ordering}
use Rattle.std.specs.declared.cmp.Ordering.TheVariants.{Less, Equal, Greater}
use Rattle.std.specs.Ordering.{match_ordering, ordering_reverse, eq_by_cmp, is_eq}
use Rattle.std.specs.Cmp.{IsTotalOrder}
use Rattle.std.specs.FinMap.{IsAntisymmetric}
use Rattle.std.specs.List.{AllByRecursion}
use Rattle.std.specs.List.Sorted.{IsStrictlySortedBy}
use Rattle.std.specs.Map.{lookup, keys_of, remove_entry}
use Rattle.std.specs.BTreeMap.{insert_entry, is_at}
use Rattle.std.proofs.lemmas.Cmp.{eq_by_cmp_equiv}
use Rattle.std.proofs.lemmas.List.{take-append-le}
use Rattle.std.proofs.lemmas.List.Sums.{fold-append}
use Rattle.std.proofs.lemmas.Map.{lookup-remove_entry}
use Rattle.std.proofs.lemmas.Map.Entries.{lookup_head, lookup_tail}
use Rattle.std.proofs.lemmas.Map.Keys.{IsDistinct-from_sorted}
use Rattle.std.proofs.Math.Seq.{take-length}
use Rattle.ix_types.specs.Row.{text_cmp}
use Rattle.ix_model.specs.declared.publication.StoredUnit.{StoredUnit}
use Rattle.ix_model.specs.declared.publication.Publication.{Publication}
use Rattle.ix_model.specs.declared.publication.Publication.TheVariants.{Put, Gone}
use Rattle.ix_model.specs.Units.{Units, changed, changed_name, units_at, units_after, units_after_last, unit_named, KeepsOtherNames, NamesRise}
use Rattle.ix_model.proofs.Orders.{text_cmp_total, text_cmp-IsAntisymmetric}
use Rattle.ix_model.proofs.SortedSet.{All-mapped}

module _ {K : Type 0} (cmp : K → K → Ordering) (o : IsTotalOrder cmp) (same : IsAntisymmetric cmp) where
  ties_itself : (k : K) → is_at (cmp k) k ≡ true
  ties_itself k = (eq_by_cmp_equiv o).refl k

  apart : (k q : K) → k ≢ q → is_at (cmp q) k ≡ false
  apart k q ne = (elim (cmp q k) as (λ r. cmp q k ≡ r → is_eq r ≡ false) [
    | Less ↦ λ e. refl
    | Equal ↦ λ e. absurd (ne (sym (same q k e)))
    | Greater ↦ λ e. refl
  ]) refl

  module _ {X : Type 0} where
    inserted_here : (k : K) (v : X) (es : List (K × X)) → lookup (is_at (cmp k)) (insert_entry cmp es k v) ≡ Some v
    inserted_here k v [] = lookup_head (is_at (cmp k)) (k, v) [] (ties_itself k)
    inserted_here k v (e ∷ es) =
        (elim (cmp k e.0) as (λ r. cmp k e.0 ≡ r → lookup (is_at (cmp k)) (match_ordering r ((k, v) ∷ e ∷ es) ((e.0, v) ∷ es) (e ∷ insert_entry cmp es k v)) ≡ Some v) [
          | Less ↦ λ c. lookup_head (is_at (cmp k)) (k, v) (e ∷ es) (ties_itself k)
          | Equal ↦ λ c. lookup_head (is_at (cmp k)) (e.0, v) es (ap is_eq c)
          | Greater ↦ λ c. lookup_tail (is_at (cmp k)) e (insert_entry cmp es k v) (ap is_eq c) ∙ inserted_here k v es
        ]) refl

    inserted_apart : (k : K) (v : X) (q : K) → k ≢ q → (es : List (K × X)) → lookup (is_at (cmp q)) (insert_entry cmp es k v) ≡ lookup (is_at (cmp q)) es
    inserted_apart k v q ne [] = lookup_tail (is_at (cmp q)) (k, v) [] (apart k q ne)
    inserted_apart k v q ne (e ∷ es) =
        (elim (cmp k e.0) as (λ r. cmp k e.0 ≡ r → lookup (is_at (cmp q)) (match_ordering r ((k, v) ∷ e ∷ es) ((e.0, v) ∷ es) (e ∷ insert_entry cmp es k v)) ≡ lookup (is_at (cmp q)) (e ∷ es)) [
          | Less ↦ λ c. lookup_tail (is_at (cmp q)) (k, v) (e ∷ es) (apart k q ne)
          | Equal ↦ λ c.
              let f : is_at (cmp q) e.0 ≡ false = ap (λ (z : K). is_at (cmp q) z) (sym (same k e.0 c)) ∙ apart k q ne in
              lookup_tail (is_at (cmp q)) (e.0, v) es f ∙ sym (lookup_tail (is_at (cmp q)) e es f)
          | Greater ↦ λ c. ap (cond (is_at (cmp q) e.0) (Some e.1)) (inserted_apart k v q ne es)
        ]) refl

    removed : (k q : K) (es : List (K × X)) → IsStrictlySortedBy cmp (keys_of es) → lookup (is_at (cmp q)) (remove_entry (is_at (cmp k)) es) ≡ cond (is_at (cmp k) q) None (lookup (is_at (cmp q)) es)
    removed k q es s = lookup-remove_entry (eq_by_cmp_equiv o) (is_at (cmp k)) one q es (IsDistinct-from_sorted cmp (keys_of es) s)
      where
        equal : (x : K) → is_eq (cmp k x) ≡ true → k ≡ x
        equal x = (elim (cmp k x) as (λ r. cmp k x ≡ r → is_eq r ≡ true → k ≡ x) [
          | Less ↦ λ e f. absurd (cc)
          | Equal ↦ λ e f. same k x e
          | Greater ↦ λ e f. absurd (cc)
        ]) refl

        one : (x y : K) → is_at (cmp k) x ≡ true → is_at (cmp k) y ≡ eq_by_cmp cmp x y
        one x y t = ap (λ (z : K). is_eq (cmp z y)) (equal x t)

    removed_here : (k : K) (es : List (K × X)) → IsStrictlySortedBy cmp (keys_of es) → lookup (is_at (cmp k)) (remove_entry (is_at (cmp k)) es) ≡ None
    removed_here k es s = removed k k es s ∙ ap (λ b. cond b None (lookup (is_at (cmp k)) es)) (ties_itself k)

    removed_apart : (k q : K) → k ≢ q → (es : List (K × X)) → IsStrictlySortedBy cmp (keys_of es) → lookup (is_at (cmp q)) (remove_entry (is_at (cmp k)) es) ≡ lookup (is_at (cmp q)) es
    removed_apart k q ne es s = removed k q es s ∙ ap (λ b. cond b None (lookup (is_at (cmp q)) es)) (apart q k (λ e. ne (sym e)))

    -- what holds of the keys and of one more holds of all
    inserted-All : (P : K → Type 0) (k : K) (v : X) (es : List (K × X)) → P k → AllByRecursion P (keys_of es) → AllByRecursion P (keys_of (insert_entry cmp es k v))
    inserted-All P k v [] p a = (p, tt)
    inserted-All P k v (e ∷ es) p a =
        elim (cmp k e.0) as (λ r. AllByRecursion P (keys_of (match_ordering r ((k, v) ∷ e ∷ es) ((e.0, v) ∷ es) (e ∷ insert_entry cmp es k v)))) [
          | Less ↦ (p, a)
          | Equal ↦ a
          | Greater ↦ (a.0, inserted-All P k v es p a.1)
        ]

    inserted-sorted : (k : K) (v : X) (es : List (K × X)) → IsStrictlySortedBy cmp (keys_of es) → IsStrictlySortedBy cmp (keys_of (insert_entry cmp es k v))
    unfolding IsStrictlySortedBy
    inserted-sorted k v [] s = (tt, tt)
    inserted-sorted k v (e ∷ es) s =
        (elim (cmp k e.0) as (λ r. cmp k e.0 ≡ r → IsStrictlySortedBy cmp (keys_of (match_ordering r ((k, v) ∷ e ∷ es) ((e.0, v) ∷ es) (e ∷ insert_entry cmp es k v)))) [
          | Less ↦ λ c. ((c, All-mapped (λ z. cmp e.0 z ≡ Less) (λ z. cmp k z ≡ Less) (λ z l. o.trans k e.0 z c l) (keys_of es) s.0), s)
          | Equal ↦ λ c. s
          | Greater ↦ λ c. (inserted-All (λ z. cmp e.0 z ≡ Less) k v es (o.antisymm e.0 k ∙ ap ordering_reverse c) s.0, inserted-sorted k v es s.1)
        ]) refl

    removed-All : (P : K → Type 0) (test : K → Bool) (es : List (K × X)) → AllByRecursion P (keys_of es) → AllByRecursion P (keys_of (remove_entry test es))
    removed-All P test [] a = a
    removed-All P test (e ∷ es) a =
        elim (test e.0) as (λ b. AllByRecursion P (keys_of (cond b es (e ∷ remove_entry test es)))) [
          | true ↦ a.1
          | false ↦ (a.0, removed-All P test es a.1)
        ]

    removed-sorted : (test : K → Bool) (es : List (K × X)) → IsStrictlySortedBy cmp (keys_of es) → IsStrictlySortedBy cmp (keys_of (remove_entry test es))
    unfolding IsStrictlySortedBy
    removed-sorted test [] s = s
    removed-sorted test (e ∷ es) s =
        elim (test e.0) as (λ b. IsStrictlySortedBy cmp (keys_of (cond b es (e ∷ remove_entry test es)))) [
          | true ↦ s.1
          | false ↦ (removed-All (λ z. cmp e.0 z ≡ Less) test es s.0, removed-sorted test es s.1)
        ]

changed-rises : (units : Units) (p : Publication) → NamesRise units → NamesRise (changed units p)
changed-rises units (Put name unit) s = inserted-sorted text_cmp text_cmp_total text_cmp-IsAntisymmetric name unit units s
changed-rises units (Gone name) s = removed-sorted text_cmp text_cmp_total text_cmp-IsAntisymmetric (is_at (text_cmp name)) units s

folded-rises : (ps : List Publication) (units : Units) → NamesRise units → NamesRise (fold changed units ps)
folded-rises [] units s = s
folded-rises (p ∷ ps) units s = folded-rises ps (changed units p) (changed-rises units p s)

none_rise : NamesRise []
unfolding IsStrictlySortedBy
none_rise = tt

pub units_at-rise : (ps : List Publication) (n : ℕ) → NamesRise (units_at ps n)
units_at-rise ps n = folded-rises (take n ps) [] none_rise

take_past : {A : Type 0} (n : ℕ) (xs : List A) → length xs ≤ n → take n xs ≡ xs
take_past zero [] h = refl
take_past zero (x ∷ xs) h = absurd (omega arith)
take_past (suc n) [] h = refl
take_past (suc n) (x ∷ xs) h = ap (λ rest. x ∷ rest) (take_past n xs (omega arith))

pub units_at-past : (ps : List Publication) (n : ℕ) → length ps ≤ n → units_at ps n ≡ units_after ps
units_at-past ps n past = ap (fold changed []) (take_past n ps past ∙ sym (take-length ps))

pub units_at-prefix : (ps more : List Publication) (n : ℕ) → n ≤ length ps → units_at (ps ++ more) n ≡ units_at ps n
units_at-prefix ps more n below = ap (fold changed []) (take-append-le n ps more below)

length-push : {A : Type 0} (xs : List A) (x : A) → length (xs ++ x ∷ []) ≡ length xs + 1
length-push [] x = omega arith
length-push (y ∷ xs) x = let e = length-push xs x in omega (arith, e)

all_units : (ps : List Publication) → units_after ps ≡ fold changed [] ps
all_units ps = ap (fold changed []) (take-length ps)

-- the last publication changes the units that stood before it
last_changes : (ps : List Publication) (p : Publication) → units_after_last ps p ≡ changed (units_after ps) p
last_changes ps p =
    ap (units_at (ps ++ p ∷ [])) (sym (length-push ps p))
    ∙ (all_units (ps ++ p ∷ [])
    ∙ (fold-append changed [] ps (p ∷ [])
    ∙ ap (λ (units : Units). changed units p) (sym (all_units ps))))

pub last_put : (ps : List Publication) (name : List ℕ) (unit : StoredUnit) → unit_named name (units_after_last ps (Put name unit)) ≡ Some unit
last_put ps name unit = ap (unit_named name) (last_changes ps (Put name unit)) ∙ inserted_here text_cmp text_cmp_total text_cmp-IsAntisymmetric name unit (units_after ps)

pub last_gone : (ps : List Publication) (name : List ℕ) → unit_named name (units_after_last ps (Gone name)) ≡ None
last_gone ps name = ap (unit_named name) (last_changes ps (Gone name)) ∙ removed_here text_cmp text_cmp_total text_cmp-IsAntisymmetric name (units_after ps) (units_at-rise ps (length ps))

changed-apart : (units : Units) (p : Publication) (other : List ℕ) → NamesRise units → changed_name p ≢ other → unit_named other (changed units p) ≡ unit_named other units
changed-apart units (Put name unit) other s ne = inserted_apart text_cmp text_cmp_total text_cmp-IsAntisymmetric name unit other ne units
changed-apart units (Gone name) other s ne = removed_apart text_cmp text_cmp_total text_cmp-IsAntisymmetric name other ne units s

pub last_apart : (ps : List Publication) (p : Publication) → KeepsOtherNames (changed_name p) (units_after ps) (units_after_last ps p)
last_apart ps p other ne = ap (unit_named other) (last_changes ps p) ∙ changed-apart (units_after ps) p other (units_at-rise ps (length ps)) ne
