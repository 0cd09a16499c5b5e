-- What a pick chooses is one of the images that a crash may leave.
use Rattle.std.proofs.Common.{◌≡◌, ◌≢◌, ◌⊎◌, inl, inr, ℕ, zero, suc, ◌+◌, ◌-◌, ◌<◌, Bool, true, false, cond, ◌&&◌, ◌||◌, List, [], ◌∷◌, ◌++◌, length, map, filter, drop, refl, sym, ap, ◌∙◌, subst, Some, None, is_some, unwrap_or, Contains, arith}
use Rattle.std.specs.List.{slice_get, list_any, fold}
use Rattle.std.specs.Map.{keys_of}
use Rattle.std.specs.Option.{option_map}
use Rattle.std.specs.Ordering.{eq_by_cmp}
use Rattle.std.specs.Cmp.Lexicographic.{same_text, other_text, texts_ties}
use Rattle.std.specs.FinMap.{get, empty, entries, get-entries, get-from_sorted, entries_sorted, find}
use Rattle.std.proofs.lemmas.Option.{slice_get-get_or}
use Rattle.std.proofs.Math.Nat.{mod-lt}
use Rattle.ix_dir.specs.declared.area.Area.{Area}
use Rattle.ix_dir.specs.declared.pick.Pick.{Pick}
use Rattle.ix_dir.specs.declared.pick.Pick.TheVariants.{Oldest, Newest, Nth}
use Rattle.ix_dir.specs.Crash.{puts, puts_step, was_there, names_since, number_for, value_for, IsPicked, standing}
use Rattle.ix_dir.specs.Files.{File, Files, Contents, bytes_at, contents_of}
use Rattle.ix_types.specs.Row.{text_cmp}
use Rattle.ix_dir.specs.Images.{Value, values_of, values_step, last_alone, IsImage}
use Rattle.ix_dir.specs.Moves.{Move, Renamed, Removed, Synced, Placed, area_after, same_area, same_name}
use Rattle.ix_dir.proofs.Door.{map_row, find_rows, sorted_rows, holds, told}
use Rattle.ix_dir.proofs.WhatACrashLeaves.{values_some}
use Rattle.ix_dir.proofs.ValuesAfterAMove.{put_step}

-- the files without their stamps, at a name
pub get-contents_of : (files : Files) (q : List ℕ) → get (contents_of files) q ≡ bytes_at files q
get-contents_of files q =
    let bytes_of : File → List ℕ = λ f. f.bytes in
    let sorted = told _ (sorted_rows bytes_of (entries files) ∙ holds _ (entries_sorted files)) in
    get-from_sorted text_cmp (map (map_row bytes_of) (entries files)) q sorted ∙ find_rows bytes_of q (entries files) ∙ ap (option_map bytes_of) (sym (get-entries files q))

number_within : (pick : Pick) (i count : ℕ) → 0 < count → number_for pick i count < count
number_within Oldest i count some = some
number_within Newest i count some = omega arith
number_within (Nth n) i count some = mod-lt (n + i) some

chosen_is_one : (pick : Pick) (i : ℕ) (values : List Value) → 0 < length values → Contains values (value_for pick i values)
chosen_is_one pick i values some =
    let k = number_for pick i (length values) in
    let small = number_within pick i (length values) some in
    let v = value_for pick i values in
    let at = ap (λ o. unwrap_or o None) (slice_get-get_or values k v small) in
    (k, small, sym at)

none_first : (values : List Value) → 0 < length values → list_any is_some values ≡ false → Contains values None
none_first [] some h = absurd (omega arith)
none_first (None ∷ values) some h = (0, omega arith, refl)
none_first (Some bytes ∷ values) some h = cc

-- a name that has been there was put there
any_more : (values : List Value) (v : Value) → list_any is_some (values ++ v ∷ []) ≡ (list_any is_some values || is_some v)
any_more [] None = refl
any_more [] (Some b) = refl
any_more (None ∷ values) v = any_more values v
any_more (Some b ∷ values) v = refl

any_last : (values : List Value) (n : ℕ) → list_any is_some (drop n values) ≡ true → list_any is_some values ≡ true
any_last values zero h = h
any_last [] (suc n) h = h
any_last (None ∷ values) (suc n) h = any_last values n h
any_last (Some b ∷ values) (suc n) h = refl

module _ (area : Area) (q : List ℕ) where
  -- the names that were put so far have all that has been there
  abbrev Covers : List Value → Contents → Type 0
  Covers values puts_so_far = list_any is_some values ≡ true → is_some (get puts_so_far q) ≡ true

  renamed : (b : Bool) (values : List Value) (v : Value) (had : Bool) → (list_any is_some values ≡ true → had ≡ true) → list_any is_some (cond b (values ++ v ∷ []) values) ≡ true → (b || had) ≡ true
  renamed true values v had covers h = refl
  renamed false values v had covers h = covers h

  removed : (b : Bool) (values : List Value) (had : Bool) → (list_any is_some values ≡ true → had ≡ true) → list_any is_some (cond b (values ++ None ∷ []) values) ≡ true → had ≡ true
  removed true values had covers h =
      elim (list_any is_some values) as (λ a. list_any is_some values ≡ a → had ≡ true) [
        | true ↦ λ e. covers e
        | false ↦ λ e. let none : list_any is_some (values ++ None ∷ []) ≡ false = any_more values None ∙ rw e refl in cc
      ] refl
  removed false values had covers h = covers h

  synced : (b : Bool) (values : List Value) (had : Bool) → (list_any is_some values ≡ true → had ≡ true) → list_any is_some (cond b (last_alone values) values) ≡ true → had ≡ true
  synced true values had covers h = covers (any_last values (length values - 1) h)
  synced false values had covers h = covers h

  placed : (b : Bool) (values : List Value) (bytes : List ℕ) (had : Bool) → (list_any is_some values ≡ true → had ≡ true) → list_any is_some (cond b (Some bytes ∷ []) values) ≡ true → (b || had) ≡ true
  placed true values bytes had covers h = refl
  placed false values bytes had covers h = covers h

  covers_step : (values : List Value) (so_far : Contents) (m : Move) → Covers values so_far → Covers (values_step area q values m) (puts_step area so_far m)
  covers_step values so_far (Renamed a n bytes stamp) covers h =
      put_step area q so_far (Renamed a n bytes stamp) ∙ renamed (same_area area a && same_name n q) values (Some bytes) (is_some (get so_far q)) covers h
  covers_step values so_far (Removed a n) covers h = removed (same_area area a && same_name n q) values (is_some (get so_far q)) covers h
  covers_step values so_far (Synced a) covers h = synced (same_area area a) values (is_some (get so_far q)) covers h
  covers_step values so_far (Placed a n bytes stamp) covers h =
      put_step area q so_far (Placed a n bytes stamp) ∙ placed (same_area area a && same_name n q) values bytes (is_some (get so_far q)) covers h

  covers_all : (values : List Value) (so_far : Contents) (moves : List Move) → Covers values so_far → Covers (fold (values_step area q) values moves) (fold (puts_step area) so_far moves)
  covers_all values so_far [] covers = covers
  covers_all values so_far (m ∷ moves) covers = covers_all (values_step area q values m) (puts_step area so_far m) moves (covers_step values so_far m covers)

  pub been_put : (moves : List Move) → was_there moves area q ≡ true → is_some (get (puts moves area) q) ≡ true
  been_put moves h = covers_all (None ∷ []) empty moves (λ e. cc) h

-- where an entry that is found stands
find_at : {X : Type 0} (q : List ℕ) (es : List (List ℕ × X)) → is_some (find text_cmp q es) ≡ true → (k : ℕ) × (slice_get (keys_of es) k ≡ Some q)
find_at q [] h = cc
find_at q (e ∷ es) h =
    elim (same_name q e.0) as (λ b. b ≡ same_name q e.0 → (k : ℕ) × (slice_get (keys_of (e ∷ es)) k ≡ Some q)) [
      | true ↦ λ is. (0, ap Some (sym (same_text q e.0 is)))
      | false ↦ λ is.
          let other : eq_by_cmp text_cmp q e.0 ≡ false = sym (texts_ties q e.0) ∙ sym is in
          let rest : is_some (find text_cmp q es) ≡ true = rw other at h in
          let found = find_at q es rest in
          (suc found.0, found.1)
    ] refl

filtered_at : (p : List ℕ → Bool) (xs : List (List ℕ)) (q : List ℕ) (k : ℕ) → slice_get xs k ≡ Some q → p q ≡ true → (j : ℕ) × (slice_get (filter p xs) j ≡ Some q)
filtered_at p [] q k h t = cc
filtered_at p (x ∷ xs) q zero h t =
    let same : x ≡ q = ap (λ o. elim o [ Some y ↦ y | None ↦ x ]) h in
    let passes : p x ≡ true = ap p same ∙ t in
    (0, rw passes h)
filtered_at p (x ∷ xs) q (suc k) h t =
    let rest = filtered_at p xs q k h t in
    elim (p x) as (λ b. (j : ℕ) × (slice_get (cond b (x ∷ filter p xs) (filter p xs)) j ≡ Some q)) [
      | true ↦ (suc rest.0, rest.1)
      | false ↦ rest
    ]

-- whether a name is among these
among : (names : List (List ℕ)) (q : List ℕ) → ((i : ℕ) × (slice_get names i ≡ Some q)) ⊎ ((i : ℕ) → slice_get names i ≢ Some q)
among [] q = inr (λ i h. cc)
among (x ∷ names) q =
    elim (among names q) [
      | inl found ↦ inl (suc found.0, found.1)
      | inr none ↦ elim (same_name x q) as (λ b. b ≡ same_name x q → ((i : ℕ) × (slice_get (x ∷ names) i ≡ Some q)) ⊎ ((i : ℕ) → slice_get (x ∷ names) i ≢ Some q)) [
        | true ↦ λ is. inl (0, ap Some (same_text x q is))
        | false ↦ λ is. inr (nowhere is none)
      ] refl
    ] where
      nowhere : false ≡ same_name x q → ((i : ℕ) → slice_get names i ≢ Some q) → (i : ℕ) → slice_get (x ∷ names) i ≢ Some q
      nowhere is none zero h =
          let same : x ≡ q = ap (λ o. elim o [ Some y ↦ y | None ↦ x ]) h in
          absurd (other_text x q is same)
      nowhere is none (suc i) h = none i h

-- a name that isn't among those that have been there has only been absent
only_absent : (moves : List Move) (area : Area) (q : List ℕ) → ((i : ℕ) → slice_get (names_since moves area) i ≢ Some q) → was_there moves area q ≡ false
only_absent moves area q none =
    elim (was_there moves area q) as (λ b. was_there moves area q ≡ b → b ≡ false) [
      | true ↦ λ there.
          let at = find_at q (entries (puts moves area)) (ap is_some (sym (get-entries (puts moves area) q)) ∙ been_put area q moves there) in
          let kept = filtered_at (was_there moves area) (keys_of (entries (puts moves area))) q at.0 at.1 there in
          absurd (none kept.0 kept.1)
      | false ↦ λ e. refl
    ] refl

image_at : (pick : Pick) (moves left : List Move) → IsPicked pick moves left → (area : Area) (q : List ℕ) → Contains (values_of moves area q) (bytes_at (area_after left area) q)
image_at pick moves left picked area q =
    elim (among (names_since moves area) q) [
      | inl found ↦ subst (Contains (values_of moves area q)) (sym ((picked area).picked found.0 q found.1)) (chosen_is_one pick found.0 (values_of moves area q) (values_some moves area q))
      | inr none ↦ subst (Contains (values_of moves area q)) (sym ((picked area).no_other q none)) (none_first (values_of moves area q) (values_some moves area q) (only_absent moves area q none))
    ]

pub image_ok : (pick : Pick) (moves left : List Move) → IsPicked pick moves left → IsImage moves (standing left)
image_ok pick moves left picked area q = subst (Contains (values_of moves area q)) (sym (get-contents_of (area_after left area) q)) (image_at pick moves left picked area q)
