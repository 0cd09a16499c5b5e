-- A set that a key is put into, as a sorted list.
use Rattle.std.proofs.Common.{◌≡◌, ℕ, List, [], ◌∷◌, ◌++◌, refl, sym, ap, ◌∙◌}
use Rattle.std.specs.Ordering.{match_ordering}
use Rattle.std.specs.BTreeSet.{insert_key}
use Rattle.std.proofs.lemmas.List.Sums.{fold_push}
use Rattle.ix_types.specs.Row.{text_cmp}
use Rattle.ix_model.specs.SortedSet.{add_once, sorted_set}

insert-adds : (k : List ℕ) (ks : List (List ℕ)) → insert_key text_cmp ks k ≡ add_once text_cmp k ks
insert-adds k [] = refl
insert-adds k (x ∷ xs) = ap (λ (rest : List (List ℕ)). match_ordering (text_cmp k x) (k ∷ x ∷ xs) (x ∷ xs) (x ∷ rest)) (insert-adds k xs)

-- a sorted set with one text more
pub one-inserted : (texts : List (List ℕ)) (text : List ℕ) (before after : List (List ℕ)) → before ≡ sorted_set text_cmp texts → after ≡ insert_key text_cmp before text → after ≡ sorted_set text_cmp (texts ++ text ∷ [])
one-inserted texts text before after is step =
    step ∙ (insert-adds text before ∙ (ap (add_once text_cmp text) is ∙ sym (fold_push (λ set x. add_once text_cmp x set) [] texts text)))
