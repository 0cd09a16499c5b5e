-- What proofs of crates above may cite: lists of entries in the order of their names, as finite maps and as listed files.
use Rattle.std.proofs.Common.{T, ◌≡◌, ◌≢◌, ℕ, zero, suc, Bool, true, false, cond, ◌&&◌, List, [], ◌∷◌, map, filter, refl, sym, ap, ◌∙◌, subst, Option, Some, None, is_some, IsTrue}
use Rattle.std.specs.List.{slice_get}
use Rattle.std.specs.Map.{keys_of, lookup}
use Rattle.std.specs.Option.{option_map}
use Rattle.std.specs.Ordering.{is_lt, eq_by_cmp}
use Rattle.std.specs.Cmp.{tied_itself}
use Rattle.std.specs.Cmp.Lexicographic.{nat_list_cmp_total, texts_ties}
use Rattle.std.specs.FinMap.{find, is_sorted, entries, from_sorted, entries-from_sorted, get-from_sorted, same_map, slice_cmp-IsAntisymmetric, nat_cmp-IsAntisymmetric}
use Rattle.std.specs.FinMap.Entries.{below_all, where_key, is_sorted-where_key}
use Rattle.std.proofs.lemmas.Bool.{and_parts}
use Rattle.ix_types.specs.Row.{text_cmp}
use Rattle.ix_dir.specs.declared.dir.Listed.{Listed}
use Rattle.ix_dir.specs.Files.{listed_at, rows_of}
use Rattle.ix_dir.specs.Moves.{same_name}

pub told : (b : Bool) → b ≡ true → T b
told b e = subst T (sym e) tt

pub holds : (b : Bool) → T b → b ≡ true
holds true h = refl
holds false h = absurd h

-- a look-up by order is one by equality
pub find_lookup : {X : Type 0} (q : List ℕ) (es : List (List ℕ × X)) → find text_cmp q es ≡ lookup (same_name q) es
find_lookup q [] = refl
find_lookup q (e ∷ es) = rw (← texts_ties q e.0) (ap (cond (same_name q e.0) (Some e.1)) (find_lookup q es))

-- listed files and pairs of a name and a stamp, there and back
pub rows_listed : (listed : List Listed) → map listed_at (rows_of listed) ≡ listed
rows_listed [] = refl
rows_listed (l ∷ listed) = ap (λ rest. l ∷ rest) (rows_listed listed)

pub listed_rows : (es : List (List ℕ × ℕ)) → rows_of (map listed_at es) ≡ es
listed_rows [] = refl
listed_rows (e ∷ es) = ap (λ rest. e ∷ rest) (listed_rows es)

module _ {X Y : Type 0} (f : X → Y) where
  -- an entry with another value
  abbrev pub map_row : List ℕ × X → List ℕ × Y
  map_row e = (e.0, f e.1)

  pub find_rows : (q : List ℕ) (es : List (List ℕ × X)) → find text_cmp q (map map_row es) ≡ option_map f (find text_cmp q es)
  find_rows q [] = refl
  find_rows q (e ∷ es) =
      elim (eq_by_cmp text_cmp q e.0) as (λ b. cond b (Some (f e.1)) (find text_cmp q (map map_row es)) ≡ option_map f (cond b (Some e.1) (find text_cmp q es))) [
        | true ↦ refl
        | false ↦ find_rows q es
      ]

  below_rows : (x : List ℕ) (es : List (List ℕ × X)) → below_all text_cmp x (map map_row es) ≡ below_all text_cmp x es
  below_rows x [] = refl
  below_rows x (e ∷ es) = ap (λ b. is_lt (text_cmp x e.0) && b) (below_rows x es)

  pub sorted_rows : (es : List (List ℕ × X)) → is_sorted text_cmp (map map_row es) ≡ is_sorted text_cmp es
  sorted_rows [] = refl
  sorted_rows (e ∷ es) = rw (below_rows e.0 es, sorted_rows es) refl

  pub keys_rows : (es : List (List ℕ × X)) → keys_of (map map_row es) ≡ keys_of es
  keys_rows [] = refl
  keys_rows (e ∷ es) = ap (λ rest. e.0 ∷ rest) (keys_rows es)

-- two lists in order that find alike are the same
pub same_rows : {X : Type 0} (es fs : List (List ℕ × X)) → IsTrue (is_sorted text_cmp es) → IsTrue (is_sorted text_cmp fs) → ((q : List ℕ) → find text_cmp q es ≡ find text_cmp q fs) → es ≡ fs
same_rows es fs s t alike =
    let es_sorted = told (is_sorted text_cmp es) s in
    let fs_sorted = told (is_sorted text_cmp fs) t in
    let maps = same_map nat_list_cmp_total (slice_cmp-IsAntisymmetric nat_cmp-IsAntisymmetric) (from_sorted {R = text_cmp} es) (from_sorted {R = text_cmp} fs)
    (λ q. get-from_sorted text_cmp es q es_sorted ∙ alike q ∙ sym (get-from_sorted text_cmp fs q fs_sorted)) in
    sym (entries-from_sorted text_cmp es es_sorted) ∙ ap entries maps ∙ entries-from_sorted text_cmp fs fs_sorted

alike_units : {X Y : Type 0} (o : Option X) (p : Option Y) → is_some o ≡ is_some p → option_map (λ _. true) o ≡ option_map (λ _. true) p
alike_units None None e = refl
alike_units None (Some y) e = cc
alike_units (Some x) None e = cc
alike_units (Some x) (Some y) e = refl

-- two lists in order that have a value for the same names have the same names
pub same_keys : {X Y : Type 0} (es : List (List ℕ × X)) (fs : List (List ℕ × Y)) → IsTrue (is_sorted text_cmp es) → IsTrue (is_sorted text_cmp fs)
    → ((q : List ℕ) → is_some (find text_cmp q es) ≡ is_some (find text_cmp q fs)) → keys_of es ≡ keys_of fs
same_keys {X} {Y} es fs s t alike =
    let marked : X → Bool = λ _. true in
    let mark : Y → Bool = λ _. true in
    let rows = same_rows (map (map_row marked) es) (map (map_row mark) fs) (rw (sorted_rows marked es) s) (rw (sorted_rows mark fs) t)
    (λ q. find_rows marked q es ∙ alike_units _ _ (alike q) ∙ sym (find_rows mark q fs)) in
    sym (keys_rows marked es) ∙ ap keys_of rows ∙ keys_rows mark fs

-- a name below all names of a list isn't among them
not_below : {X : Type 0} (x : List ℕ) (es : List (List ℕ × X)) (k : ℕ) → below_all text_cmp x es ≡ true → slice_get (keys_of es) k ≢ Some x
not_below x [] k h e = cc
not_below x (f ∷ es) zero h e =
    let parts = and_parts (is_lt (text_cmp x f.0)) (below_all text_cmp x es) h in
    let same : f.0 ≡ x = ap (λ o. elim o [ Some y ↦ y | None ↦ x ]) e in
    let less : is_lt (text_cmp x x) ≡ true = subst (λ y. is_lt (text_cmp x y) ≡ true) same parts.0 in
    let none : is_lt (text_cmp x x) ≡ false = ap is_lt (tied_itself nat_list_cmp_total x) in
    cc
not_below x (f ∷ es) (suc k) h e = not_below x es k (and_parts (is_lt (text_cmp x f.0)) (below_all text_cmp x es) h).1 e

pub distinct_keys : {X : Type 0} (es : List (List ℕ × X)) → IsTrue (is_sorted text_cmp es) → (x : List ℕ) (j k : ℕ) → slice_get (keys_of es) j ≡ Some x → slice_get (keys_of es) k ≡ Some x → j ≡ k
distinct_keys [] s x j k a b = cc
distinct_keys (e ∷ es) s x zero zero a b = refl
distinct_keys (e ∷ es) s x zero (suc k) a b =
    let same : e.0 ≡ x = ap (λ o. elim o [ Some y ↦ y | None ↦ x ]) a in
    absurd (not_below e.0 es k (and_parts (below_all text_cmp e.0 es) (is_sorted text_cmp es) s).0 (b ∙ ap Some (sym same)))
distinct_keys (e ∷ es) s x (suc j) zero a b =
    let same : e.0 ≡ x = ap (λ o. elim o [ Some y ↦ y | None ↦ x ]) b in
    absurd (not_below e.0 es j (and_parts (below_all text_cmp e.0 es) (is_sorted text_cmp es) s).0 (a ∙ ap Some (sym same)))
distinct_keys (e ∷ es) s x (suc j) (suc k) a b = ap suc (distinct_keys es (and_parts (below_all text_cmp e.0 es) (is_sorted text_cmp es) s).1 x j k a b)

pub filter_keys : {X : Type 0} (p : List ℕ → Bool) (es : List (List ℕ × X)) → keys_of (where_key text_cmp p es) ≡ filter p (keys_of es)
filter_keys p [] = refl
filter_keys p (e ∷ es) =
    elim (p e.0) as (λ b. keys_of (cond b (e ∷ where_key text_cmp p es) (where_key text_cmp p es)) ≡ cond b (e.0 ∷ filter p (keys_of es)) (filter p (keys_of es))) [
      | true ↦ ap (λ rest. e.0 ∷ rest) (filter_keys p es)
      | false ↦ filter_keys p es
    ]

-- the same of the names that pass a test
pub distinct_filtered : {X : Type 0} (p : List ℕ → Bool) (es : List (List ℕ × X)) → IsTrue (is_sorted text_cmp es) → (x : List ℕ) (j k : ℕ)
    → slice_get (filter p (keys_of es)) j ≡ Some x → slice_get (filter p (keys_of es)) k ≡ Some x → j ≡ k
distinct_filtered p es s x j k a b =
    let sorted = holds _ (is_sorted-where_key text_cmp p es (told _ s)) in
    let at : (n : ℕ) → slice_get (filter p (keys_of es)) n ≡ Some x → slice_get (keys_of (where_key text_cmp p es)) n ≡ Some x = λ n h. rw (filter_keys p es) h in
    distinct_keys (where_key text_cmp p es) sorted x j k (at j a) (at k b)
