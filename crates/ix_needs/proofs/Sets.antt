-- Sorted sets of the same elements are the same.
use Rattle.std.proofs.Common.{◌≡◌, ◌↔◌, ℕ, zero, suc, ◌⊎◌, inl, inr, Bool, true, false, ◌==◌, List, [], ◌∷◌, length, map, Contains, refl, sym, ap, arith}
use Rattle.std.specs.List.{flat_map}
use Rattle.ix_types.specs.Row.{text_cmp, occurrence_cmp}
use Rattle.ix_types.specs.declared.row.OccRow.{OccRow}
use Rattle.ix_model.specs.SortedSet.{sorted_set, IsSortedSetOf}
use Rattle.ix_answers.proofs.Members.{Has, has, contains, flat_map-in, flat_map-out}

-- two lists have the same elements
pub record AreAlike {X : Type 0} (xs ys : List X) : Type 0 where
  pub there : (x : X) → Has xs x → Has ys x
  pub back : (x : X) → Has ys x → Has xs x

pub alike_refl : {X : Type 0} (xs : List X) → AreAlike xs xs
alike_refl xs = record { there = λ x h. h; back = λ x h. h }

-- of the laws below this crate
abbrev pub RowSets : Type 0
RowSets = (rows : List OccRow) → IsSortedSetOf occurrence_cmp rows (sorted_set occurrence_cmp rows)

abbrev pub TextSets : Type 0
TextSets = (texts : List (List ℕ)) → IsSortedSetOf text_cmp texts (sorted_set text_cmp texts)

abbrev pub OneRowSet : Type 0
OneRowSet = (rows first second : List OccRow) → IsSortedSetOf occurrence_cmp rows first → IsSortedSetOf occurrence_cmp rows second → first ≡ second

abbrev pub OneTextSet : Type 0
OneTextSet = (texts first second : List (List ℕ)) → IsSortedSetOf text_cmp texts first → IsSortedSetOf text_cmp texts second → first ≡ second

pub rows_alike : RowSets → OneRowSet → (xs ys : List OccRow) → AreAlike xs ys → sorted_set occurrence_cmp xs ≡ sorted_set occurrence_cmp ys
rows_alike sets one xs ys a =
    let first = sets xs in
    let moved : IsSortedSetOf occurrence_cmp ys (sorted_set occurrence_cmp xs) = record {
      rises = first.rises;
      same = λ x. (
        λ c. contains ys x (a.there x (has xs x ((first.same x).0 c))),
        λ c. (first.same x).1 (contains xs x (a.back x (has ys x c))),
      );
    } in
    one ys (sorted_set occurrence_cmp xs) (sorted_set occurrence_cmp ys) moved (sets ys)

pub texts_alike : TextSets → OneTextSet → (xs ys : List (List ℕ)) → AreAlike xs ys → sorted_set text_cmp xs ≡ sorted_set text_cmp ys
texts_alike sets one xs ys a =
    let first = sets xs in
    let moved : IsSortedSetOf text_cmp ys (sorted_set text_cmp xs) = record {
      rises = first.rises;
      same = λ x. (
        λ c. contains ys x (a.there x (has xs x ((first.same x).0 c))),
        λ c. (first.same x).1 (contains xs x (a.back x (has ys x c))),
      );
    } in
    one ys (sorted_set text_cmp xs) (sorted_set text_cmp ys) moved (sets ys)

-- what a sorted set has
pub set-out : TextSets → (texts : List (List ℕ)) (text : List ℕ) → Has (sorted_set text_cmp texts) text → Has texts text
set-out sets texts text h = has texts text (((sets texts).same text).0 (contains (sorted_set text_cmp texts) text h))

pub set-in : TextSets → (texts : List (List ℕ)) (text : List ℕ) → Has texts text → Has (sorted_set text_cmp texts) text
set-in sets texts text h = has (sorted_set text_cmp texts) text (((sets texts).same text).1 (contains texts text h))

nonzero : (n : ℕ) → (suc n == 0) ≡ false
nonzero n = grind arith

-- lists of the same elements are empty together
pub empty_together : {X : Type 0} (xs ys : List X) → AreAlike xs ys → (length xs == 0) ≡ (length ys == 0)
empty_together [] [] a = refl
empty_together [] (y ∷ ys) a = absurd (a.back y (inl refl))
empty_together (x ∷ xs) [] a = absurd (a.there x (inl refl))
empty_together (x ∷ xs) (y ∷ ys) a = let e = nonzero (length xs) in let f = nonzero (length ys) in cc

-- of each element alike, of all alike
pub each_alike : {X Y : Type 0} (f g : X → List Y) (xs : List X) → ((x : X) → Has xs x → AreAlike (f x) (g x)) → AreAlike (flat_map f xs) (flat_map g xs)
each_alike f g xs a = record {
  there = λ y h. let r = flat_map-out f xs y h in flat_map-in g xs r.0 y r.1 ((a r.0 r.1).there y r.2);
  back = λ y h. let r = flat_map-out g xs y h in flat_map-in f xs r.0 y r.1 ((a r.0 r.1).back y r.2);
}
