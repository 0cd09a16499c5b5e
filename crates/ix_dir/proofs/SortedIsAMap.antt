-- A list of entries that a sort put in order, no two with one name, is a finite map's.
use Rattle.std.proofs.Common.{◌≡◌, ℕ, suc, true, false, ◌&&◌, List, [], ◌∷◌, refl, sym, ap, ◌∙◌, subst, arith, add-one, map, IsTrue, Result, Ok, Err, IfOk, OnOk, Vec}
use Rattle.std.specs.declared.alloc.Global.{Global}
use Rattle.std.specs.List.{IsDistinct}
use Rattle.std.specs.List.Sorted.{IsSorted}
use Rattle.std.specs.Map.{keys_of, lookup}
use Rattle.std.specs.declared.cmp.Ordering.{Ordering}
use Rattle.std.specs.declared.cmp.Ordering.TheVariants.{Less, Equal, Greater}
use Rattle.std.specs.Ordering.{is_lt, is_eq, ordering_reverse, eq_by_cmp}
use Rattle.std.specs.Cmp.{IsTotalOrder}
use Rattle.std.specs.Cmp.Lexicographic.{nat_list_cmp_total, texts_ties}
use Rattle.std.specs.FinMap.{is_sorted}
use Rattle.std.specs.FinMap.Entries.{below_all}
use Rattle.std.proofs.lemmas.Bool.{and_parts}
use Rattle.std.proofs.lemmas.Map.Keys.{IsDistinct-head, IsDistinct-tail}
use Rattle.ix_types.specs.Row.{text_cmp}
use Rattle.ix_dir.specs.Moves.{same_name}
use Rattle.ix_dir.specs.declared.dir.Listed.{Listed}
use Rattle.ix_dir.specs.declared.area.Area.{Area}
use Rattle.ix_dir.specs.declared.file_index.FileIndex.{FileIndex}
use Rattle.ix_dir.specs.NumberByName.{Lists, number_at}
use Rattle.ix_dir.specs.Files.{listed_at}
use Rattle.ix_dir.proofs.Door.{listed_rows, find_lookup}

module _ {K : Type 0} {R : K → K → Ordering} (o : IsTotalOrder R) where
  less_of : (x y : K) → is_lt (R y x) ≡ false → eq_by_cmp R x y ≡ false → R x y ≡ Less
  less_of x y above apart =
      elim (R x y) as (λ r. R y x ≡ ordering_reverse r → is_eq r ≡ false → r ≡ Less) [
        | Less ↦ λ t a. refl
        | Equal ↦ λ t a. cc
        | Greater ↦ λ t a. let is : is_lt (R y x) ≡ true = ap is_lt t in cc
      ] (o.antisymm y x) apart

  -- no key is below the one before it
  abbrev Adjacent : List K → Type 0
  Adjacent [] = Unit {0}
  Adjacent (x ∷ []) = Unit {0}
  Adjacent (x ∷ y ∷ ys) = (is_lt (R y x) ≡ false) × Adjacent (y ∷ ys)

  tail_sorted : (x : K) (xs : List K) → IsSorted R (x ∷ xs) → IsSorted R xs
  tail_sorted x xs s k d low high =
      let next = s (suc k) d (omega arith) (omega (arith, add-one k)) in
      rw (add-one k) (rw (add-one (suc k)) at next)

  adjacent : (xs : List K) → IsSorted R xs → Adjacent xs
  adjacent [] s = tt
  adjacent (x ∷ []) s = tt
  adjacent (x ∷ y ∷ ys) s = (s 0 x (omega arith) (omega arith), adjacent (y ∷ ys) (tail_sorted x (y ∷ ys) s))

  module _ {X : Type 0} where
    below_less : (x y : K) (es : List (K × X)) → R x y ≡ Less → IsTrue (below_all R y es) → IsTrue (below_all R x es)
    below_less x y [] less h = refl
    below_less x y (e ∷ es) less h =
        elim (R y e.0) as (λ r. R y e.0 ≡ r → (is_lt r && below_all R y es) ≡ true → (is_lt (R x e.0) && below_all R x es) ≡ true) [
          | Less ↦ λ t a. rw (o.trans x y e.0 less t) (below_less x y es less a)
          | Equal ↦ λ t a. cc
          | Greater ↦ λ t a. cc
        ] refl h

    strict : (es : List (K × X)) → Adjacent (keys_of es) → IsDistinct (eq_by_cmp R) (keys_of es) → IsTrue (is_sorted R es)
    strict [] a d = refl
    strict (e ∷ []) a d = refl
    strict (e ∷ f ∷ es) a d =
        let rest = strict (f ∷ es) a.1 (IsDistinct-tail _ _ _ d) in
        let less = less_of e.0 f.0 a.0 (IsDistinct-head _ _ _ d).0 in
        let parts = and_parts (below_all R f.0 es) (is_sorted R es) rest in
        rw (less, below_less e.0 f.0 es less parts.0) rest

    pub sorted_strictly : (es : List (K × X)) → IsSorted R (keys_of es) → IsDistinct (eq_by_cmp R) (keys_of es) → IsTrue (is_sorted R es)
    sorted_strictly es s d = strict es (adjacent (keys_of es) s) d

listing : (es : List (List ℕ × ℕ)) (index : FileIndex) (area : Area) → ((q : List ℕ) → number_at index area q ≡ lookup (same_name q) es)
    → IsSorted text_cmp (keys_of es) → IsDistinct same_name (keys_of es) → (listed : List Listed) → listed ≡ map listed_at es → Lists index area listed
listing es index area same sorted distinct listed is = record {
  rising =
      let apart = subst (λ e. IsDistinct e (keys_of es)) (λ i x y. texts_ties x y i) distinct in
      rw (is, listed_rows es) (sorted_strictly nat_list_cmp_total es sorted apart);
  each = λ q. rw (is, listed_rows es) (find_lookup q es ∙ sym (same q));
}

pub lists_ok : {E : Type 0} (r : Result (Vec Listed Global) E) (es : List (List ℕ × ℕ)) (index : FileIndex) (area : Area) → ((q : List ℕ) → number_at index area q ≡ lookup (same_name q) es)
    → IfOk r (λ l. l.items ≡ map listed_at es) → OnOk r (IsSorted text_cmp (keys_of es)) → IsDistinct same_name (keys_of es) → IfOk r (λ l. Lists index area l.items)
lists_ok (Ok l) es index area same rows sorted distinct = listing es index area same sorted distinct l.items rows
lists_ok (Err e) es index area same rows sorted distinct = tt
