-- The names that a need list lacks, one after the other.
use Rattle.std.proofs.Common.{◌≡◌, ℕ, ◌+◌, ◌<◌, Bool, true, false, cond, List, [], ◌∷◌, ◌++◌, map, take, filter, fold, length, get_or, refl, sym, ap, ◌∙◌}
use Rattle.std.specs.declared.cmp.Ordering.TheVariants.{Less, Equal, Greater}
use Rattle.std.specs.Ordering.{match_ordering}
use Rattle.std.specs.List.{flat_map}
use Rattle.std.specs.Map.{keys_of}
use Rattle.std.specs.BTreeMap.{insert_entry}
use Rattle.std.proofs.lemmas.List.{map_more, take_more}
use Rattle.std.proofs.lemmas.List.Elements.{filter-append}
use Rattle.std.proofs.lemmas.List.Sums.{fold-append}
use Rattle.std.proofs.lemmas.Grind.{flat_map-append}
use Rattle.std.proofs.lemmas.List.{append-nil}
use Rattle.ix_types.specs.Row.{text_cmp}
use Rattle.ix_unit.specs.declared.batch.UnitPut.{UnitPut}
use Rattle.ix_model.specs.SortedSet.{add_once, sorted_set}
use Rattle.ix_guard.specs.Counts.{Counts}
use Rattle.ix_guard.specs.Listing.{names_in}
use Rattle.ix_ledger.specs.Fresh.{lacks, names_put, with_names, fresh_of}

pub key_added : {V : Type 0} (es : List (List ℕ × V)) (k : List ℕ) (v : V) → keys_of (insert_entry text_cmp es k v) ≡ add_once text_cmp k (keys_of es)
key_added [] k v = refl
key_added (e ∷ es) k v =
    elim (text_cmp k e.0) as (λ r. keys_of (match_ordering r ((k, v) ∷ e ∷ es) ((e.0, v) ∷ es) (e ∷ insert_entry text_cmp es k v)) ≡ match_ordering r (k ∷ e.0 ∷ keys_of es) (e.0 ∷ keys_of es) (e.0 ∷ add_once text_cmp k (keys_of es))) [
      | Less ↦ refl
      | Equal ↦ refl
      | Greater ↦ ap (λ (ks : List (List ℕ)). e.0 ∷ ks) (key_added es k v)
    ]

pub name_noted : (needs : Counts) (before after : List (List ℕ × Bool)) (name : List ℕ) → lacks needs name ≡ true → after ≡ insert_entry text_cmp before name false
    → keys_of after ≡ with_names (keys_of before) (filter (lacks needs) (name ∷ []))
name_noted needs before after name lacking is =
    ap keys_of is
    ∙ (key_added before name false
    ∙ ap (λ b. with_names (keys_of before) (cond b (name ∷ []) [])) (sym lacking))

-- more names, and then more
more_names : (p : List ℕ → Bool) (set xs ys : List (List ℕ)) → with_names set (filter p (xs ++ ys)) ≡ with_names (with_names set (filter p xs)) (filter p ys)
more_names p set xs ys = ap (with_names set) (filter-append p xs ys) ∙ fold-append (λ set name. add_once text_cmp name set) set (filter p xs) (filter p ys)

pub next_name : {X : Type 0} (f : X → List ℕ) (p : List ℕ → Bool) (set : List (List ℕ)) (xs : List X) (i : ℕ) (x : X) → i < length xs → x ≡ get_or xs i x
    → with_names (with_names set (filter p (map f (take i xs)))) (filter p (f x ∷ [])) ≡ with_names set (filter p (map f (take (i + 1) xs)))
next_name f p set xs i x below is =
    sym (more_names p set (map f (take i xs)) (f x ∷ []))
    ∙ ap (λ (ys : List (List ℕ)). with_names set (filter p ys)) (ap (λ y. map f (take i xs) ++ f y ∷ []) is ∙ sym (map_more f xs i x below))

pub next_unit : (needs : Counts) (puts : List UnitPut) (i : ℕ) (put : UnitPut) → i < length puts → put ≡ get_or puts i put
    → with_names (fresh_of needs (take i puts)) (filter (lacks needs) (names_in put.unit.value)) ≡ fresh_of needs (take (i + 1) puts)
next_unit needs puts i put below is =
    sym (more_names (lacks needs) [] (names_put (take i puts)) (names_in put.unit.value))
    ∙ ap (λ (ys : List (List ℕ)). with_names [] (filter (lacks needs) ys))
    (ap (λ (ys : List (List ℕ)). names_put (take i puts) ++ ys) (sym (append-nil (names_in put.unit.value)))
    ∙ (sym (flat_map-append (λ (p : UnitPut). names_in p.unit.value) (take i puts) (put ∷ []))
    ∙ ap names_put (ap (λ (p : UnitPut). take i puts ++ p ∷ []) is ∙ sym (take_more puts i put below))))
