-- Lists that grow by what is chosen of the next element.
use Rattle.std.proofs.Common.{◌≡◌, ℕ, map, if◌then◌else◌, ◌+◌, ◌<◌, Bool, true, false, cond, sym, append-nil, ◌||◌, List, [], ◌∷◌, ◌++◌, length, filter, get_or, take, Option, Some, None, refl, ap, ◌∙◌, append_assoc}
use Rattle.std.specs.Option.{option_to_list, option_map, option_map_or}
use Rattle.std.specs.List.{flat_map, filter_map, list_any, cons_option, slice_get}
use Rattle.std.proofs.lemmas.Grind.{flat_map-append}
use Rattle.std.proofs.lemmas.List.{map-append, take_more}
use Rattle.std.proofs.lemmas.Option.{slice_get_within, get_or_from_slice_get}
use Rattle.std.proofs.lemmas.List.Elements.{filter-append}
use Rattle.ix_types.specs.declared.row.OccRow.{OccRow}
use Rattle.ix_record.specs.declared.value.RecordValue.{RecordValue}
use Rattle.ix_model.specs.Rows.{rows_of_record}
use Rattle.ix_model.proofs.Door.{filter_map_more}
use Rattle.ix_needs.specs.Chosen.{rows_at}

module _ {X Y : Type 0} (f : X → Option Y) (p : Y → Bool) where
  pub chosen_more : (xs : List X) (i : ℕ) (x : X) → i < length xs → x ≡ get_or xs i x → (start before after : List Y) (o : Option Y) → o ≡ f x
      → before ≡ start ++ filter p (filter_map f (take i xs)) → after ≡ before ++ filter p (option_to_list o) → after ≡ start ++ filter p (filter_map f (take (i + 1) xs))
  chosen_more xs i x within is start before after o given so_far grown =
      let more : filter p (filter_map f (take (i + 1) xs)) ≡ filter p (filter_map f (take i xs)) ++ filter p (option_to_list (f x)) =
      ap (filter p) (filter_map_more f xs i x within is) ∙ filter-append p (filter_map f (take i xs)) (option_to_list (f x)) in
      let grouped = append_assoc start (filter p (filter_map f (take i xs))) (filter p (option_to_list (f x))) in
      cc

  -- where none is chosen so far, and not the next
  pub none_more : (xs : List X) (i : ℕ) (x : X) → i < length xs → x ≡ get_or xs i x → filter p (filter_map f (take i xs)) ≡ [] → filter p (option_to_list (f x)) ≡ []
      → filter p (filter_map f (take (i + 1) xs)) ≡ []
  none_more xs i x within is so_far none = sym (chosen_more xs i x within is [] [] [] (f x) refl (sym so_far) (sym none))

  -- whether any is chosen of what a function gives
  pub any-filter_map : (xs : List X) → list_any p (filter_map f xs) ≡ list_any (λ x. option_map_or p (f x) false) xs
  any-filter_map [] = refl
  any-filter_map (x ∷ xs) =
      elim (f x) as (λ o. list_any p (cons_option o (filter_map f xs)) ≡ (option_map_or p o false || list_any (λ x. option_map_or p (f x) false) xs)) [
        | None ↦ any-filter_map xs
        | Some y ↦ ap (λ (b : Bool). p y || b) (any-filter_map xs)
      ]

-- what is chosen of one element at most
module _ {X Y : Type 0} (f : X → Y) (p : Y → Bool) (o : Option X) where
  abbrev picked : List Y
  picked = filter p (option_to_list (option_map f o))

  pub picked-some : (x : X) (y : Y) (old new : List Y) → o ≡ Some x → p (f x) ≡ true → y ≡ f x → new ≡ old ++ y ∷ [] → new ≡ old ++ picked
  picked-some x y old new e t is grown =
      let one : filter p (f x ∷ []) ≡ y ∷ [] = ap (λ (b : Bool). cond b (f x ∷ []) []) t ∙ ap (λ (z : Y). z ∷ []) (sym is) in
      let all : picked ≡ y ∷ [] = ap (λ (q : Option X). filter p (option_to_list (option_map f q))) e ∙ one in
      grown ∙ ap (λ (ys : List Y). old ++ ys) (sym all)

  pub picked-other : (x : X) (old new : List Y) → o ≡ Some x → p (f x) ≡ false → new ≡ old → new ≡ old ++ picked
  picked-other x old new e t same =
      let one : filter p (f x ∷ []) ≡ [] = ap (λ (b : Bool). cond b (f x ∷ []) []) t in
      let all : picked ≡ [] = ap (λ (q : Option X). filter p (option_to_list (option_map f q))) e ∙ one in
      same ∙ (sym (append-nil old) ∙ ap (λ (ys : List Y). old ++ ys) (sym all))

  pub picked-none : (old new : List Y) → o ≡ None → new ≡ old → new ≡ old ++ picked
  picked-none old new e same =
      let all : picked ≡ [] = ap (λ (q : Option X). filter p (option_to_list (option_map f q))) e in
      same ∙ (sym (append-nil old) ∙ ap (λ (ys : List Y). old ++ ys) (sym all))

-- ---- by the next element of a list

module _ {X : Type 0} where
  next_taken : (xs : List X) (k : ℕ) (x : X) → slice_get xs k ≡ Some x → take (k + 1) xs ≡ take k xs ++ x ∷ []
  next_taken xs k x e = take_more xs k x (slice_get_within xs k x e) ∙ ap (λ (y : X). take k xs ++ y ∷ []) (get_or_from_slice_get xs k x x e)

-- what functions say of the items of each element that pass a test
module _ {E I B : Type 0} (says : E → List I) (p : I → Bool) (h : I → B) where
  pub said_more : (xs : List E) (k : ℕ) (x : E) → slice_get xs k ≡ Some x → (before after : List B)
      → before ≡ map h (filter p (flat_map says (take k xs))) → after ≡ before ++ map h (filter p (says x)) → after ≡ map h (filter p (flat_map says (take (k + 1) xs)))
  said_more xs k x e before after so_far grown =
      let one : flat_map says (x ∷ []) ≡ says x = append-nil (says x) in
      let all : map h (filter p (flat_map says (take (k + 1) xs))) ≡ map h (filter p (flat_map says (take k xs))) ++ map h (filter p (says x)) =
      ap (λ (ys : List E). map h (filter p (flat_map says ys))) (next_taken xs k x e)
      ∙ (ap (λ (is : List I). map h (filter p is)) (flat_map-append says (take k xs) (x ∷ []) ∙ ap (λ (is : List I). flat_map says (take k xs) ++ is) one)
      ∙ (ap (map h) (filter-append p (flat_map says (take k xs)) (says x)) ∙ map-append h (filter p (flat_map says (take k xs))) (filter p (says x)))) in
      grown ∙ (ap (λ (bs : List B). bs ++ map h (filter p (says x))) so_far ∙ sym all)

-- what a function says of the elements that pass a test
module _ {E B : Type 0} (says : E → List B) (p : E → Bool) where
  last_said : (x : E) (a b : Bool) → a ≡ b → flat_map says (cond b (x ∷ []) []) ≡ (if a then says x else [])
  last_said x true true q = append-nil (says x)
  last_said x false false q = refl
  last_said x true false q = absurd (cc)
  last_said x false true q = absurd (cc)

  pub matched_more : (xs : List E) (k : ℕ) (x : E) → slice_get xs k ≡ Some x → (passes : Bool) → passes ≡ p x → (before after : List B)
      → before ≡ flat_map says (filter p (take k xs)) → after ≡ before ++ (if passes then says x else []) → after ≡ flat_map says (filter p (take (k + 1) xs))
  matched_more xs k x e passes is before after so_far grown =
      let last : flat_map says (filter p (x ∷ [])) ≡ (if passes then says x else []) = last_said x passes (p x) is in
      let all : flat_map says (filter p (take (k + 1) xs)) ≡ flat_map says (filter p (take k xs)) ++ (if passes then says x else []) =
      ap (λ (ys : List E). flat_map says (filter p ys)) (next_taken xs k x e)
      ∙ (ap (flat_map says) (filter-append p (take k xs) (x ∷ []))
      ∙ (flat_map-append says (filter p (take k xs)) (filter p (x ∷ [])) ∙ ap (λ (bs : List B). flat_map says (filter p (take k xs)) ++ bs) last)) in
      grown ∙ (ap (λ (bs : List B). bs ++ (if passes then says x else [])) so_far ∙ sym all)

-- lists that are all empty
pub nothing_in_each : {A B : Type 0} (says : A → List B) (xs : List A) → ((x : A) → says x ≡ []) → flat_map says xs ≡ []
nothing_in_each says [] none = refl
nothing_in_each says (x ∷ xs) none = (λ i. none x i ++ flat_map says xs) ∙ nothing_in_each says xs none

-- a record of which no row is chosen, under any path
pub no_rows : (passes : OccRow → Bool) (paths : List (List ℕ)) (value : RecordValue) (body : Option RecordValue) (out : List OccRow) → body ≡ Some value
    → ((path : List ℕ) → filter passes (rows_of_record path value) ≡ []) → out ≡ out ++ rows_at passes paths body
no_rows passes paths value body out is none =
    let empty : rows_at passes paths body ≡ [] = ap (rows_at passes paths) is ∙ nothing_in_each (λ (path : List ℕ). filter passes (rows_of_record path value)) paths none in
    sym (append-nil out) ∙ ap (λ (rows : List OccRow). out ++ rows) (sym empty)
