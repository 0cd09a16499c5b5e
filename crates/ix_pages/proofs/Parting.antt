-- What a binary search among rising pairs finds.
use Rattle.std.proofs.Common.{◌≡◌, ℕ, suc, ◌<◌, ◌≤◌, List, ◌∷◌, ◌++◌, length, map, take, drop, get_or, refl, sym, ◌∙◌, ap, subst, Some, None, Ok, Err}
use Rattle.std.specs.List.Sorted.{IsBinarySearchResult}
use Rattle.std.specs.declared.cmp.Ordering.{Ordering}
use Rattle.std.specs.declared.cmp.Ordering.TheVariants.{Less, Equal, Greater}
use Rattle.std.specs.Cmp.{IsTotalOrder}
use Rattle.std.specs.Ordering.{ordering_reverse}
use Rattle.std.proofs.Math.Seq.{drop-cons}
use Rattle.std.proofs.lemmas.List.{map-append, take-append-drop}
use Rattle.std.proofs.lemmas.Cmp.{tied_back}
use Rattle.ix_pages.specs.Pairs.{IsRising, IsParted}
use Rattle.ix_pages.proofs.Elements.{all_follow, all_taken, all_dropped}
use Rattle.ix_pages.proofs.Order.{less_back}
use Rattle.ix_pages.proofs.Rising.{each_before, comparisons_rise, rising_right}

module _ {K V : Type 0} {cmp : K → K → Ordering} (o : IsTotalOrder cmp) where
  -- around a pair with the key
  pub parted_around : (key : K) (xs : List (K × V)) (y : K × V) (ys : List (K × V)) → IsRising cmp (xs ++ y ∷ ys) → cmp y.0 key ≡ Equal → IsParted cmp key (xs ++ y ∷ ys) xs (Some y) ys
  parted_around key xs y ys rising equal =
      let back = tied_back o y.0 key equal in
      record {
        all = refl;
        are_lesser = all_follow _ _ (λ x below. o.congr key y.0 x.0 back ∙ less_back o x.0 y.0 below) xs (each_before cmp xs y ys rising);
        is_same = back;
        are_greater = all_follow _ _ (λ z above. o.congr key y.0 z.0 back ∙ above) ys (rising_right cmp xs (y ∷ ys) rising).0;
      }

  module _ {X : Type 0} (pair : X → K × V) (key : K) (es : List X) (rising : IsRising cmp (map pair es)) (at : ℕ) where
    in_two : map pair es ≡ map pair (take at es) ++ map pair (drop at es)
    in_two = ap (map pair) (sym (take-append-drop at es)) ∙ map-append pair (take at es) (drop at es)

    pub parted_absent : at ≤ length es → IsBinarySearchResult (λ e. cmp (pair e).0 key) es (Err at) → IsParted cmp key (map pair es) (map pair (take at es)) None (map pair (drop at es))
    parted_absent within found =
        let parts = found (comparisons_rise o pair key es rising) in
        record {
          all = in_two;
          are_lesser = all_taken pair (λ p. cmp key p.0 ≡ Greater) es at within (λ k d low high. less_back o _ _ (parts.0 k d low high));
          is_same = tt;
          are_greater = all_dropped pair (λ p. cmp key p.0 ≡ Less) es at (λ k d low high. o.antisymm key _ ∙ ap ordering_reverse (parts.1 k d low high));
        }

    pub parted_present : (same : X) (greater : List X) → at < length es → drop at es ≡ same ∷ greater → IsBinarySearchResult (λ e. cmp (pair e).0 key) es (Ok at) → IsParted cmp key (map pair es) (map pair (take at es)) (Some (pair same)) (map pair greater)
    parted_present same greater within rest found =
        let is_at : get_or es at same ∷ drop (suc at) es ≡ same ∷ greater = sym (drop-cons es at same within) ∙ rest in
        let is_same : get_or es at same ≡ same = cc in
        let whole : map pair es ≡ map pair (take at es) ++ pair same ∷ map pair greater = in_two ∙ ap (λ zs. map pair (take at es) ++ map pair zs) rest in
        let equal : cmp (pair same).0 key ≡ Equal = subst (λ x. cmp (pair x).0 key ≡ Equal) is_same (found same) in
        let known = parted_around key (map pair (take at es)) (pair same) (map pair greater) (subst (IsRising cmp) whole rising) equal in
        subst (λ zs. IsParted cmp key zs (map pair (take at es)) (Some (pair same)) (map pair greater)) (sym whole) known
