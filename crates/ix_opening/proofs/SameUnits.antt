-- Files from which refused ones may be gone have the same sound units.
use Rattle.std.proofs.Common.{◌≡◌, ◌⊎◌, inl, inr, ℕ, Bool, true, false, cond, ◌&&◌, List, [], ◌∷◌, refl, sym, ap, subst, ◌∙◌, Option, Some, None, option_map, option_and_then}
use Rattle.std.specs.List.{filter_map, cons_option}
use Rattle.std.specs.Result.{result_ok}
use Rattle.std.specs.Ordering.{is_lt, eq_by_cmp}
use Rattle.std.specs.Cmp.Lexicographic.{nat_list_cmp_total, texts_ties, same_text}
use Rattle.std.specs.FinMap.{find, is_sorted, entries, entries_sorted, get, get-entries, same_map, slice_cmp-IsAntisymmetric, nat_cmp-IsAntisymmetric}
use Rattle.std.specs.FinMap.Entries.{below_all}
use Rattle.std.proofs.lemmas.Bool.{and_parts}
use Rattle.ix_types.specs.Row.{text_cmp}
use Rattle.ix_dir.specs.Files.{Contents}
use Rattle.ix_dir.specs.Moves.{same_name}
use Rattle.ix_dir.proofs.Door.{holds, same_rows}
use Rattle.ix_model.specs.declared.publication.StoredUnit.{StoredUnit}
use Rattle.ix_machine.specs.Opening.{judged, sound_at}
use Rattle.ix_machine.specs.State.{Files}
use Rattle.ix_opening.proofs.FilesByName.{not_found}

pub same_contents : (c d : Contents) → ((q : List ℕ) → get c q ≡ get d q) → c ≡ d
same_contents c d is = same_map nat_list_cmp_total (slice_cmp-IsAntisymmetric nat_cmp-IsAntisymmetric) c d is

module _ (name_of : List ℕ → List ℕ) (records : Files) where
  abbrev sound_bytes_at : List ℕ → List ℕ → Option StoredUnit
  sound_bytes_at name bytes = result_ok (judged name_of records name bytes)

  abbrev with_name : List ℕ → Option StoredUnit → Option (List ℕ × StoredUnit)
  with_name name unit = option_map (λ (u : StoredUnit). (name, u)) unit

  abbrev pub sound_in : Files → List (List ℕ × StoredUnit)
  sound_in es = filter_map (sound_at name_of records) es

  below_kept : (x name : List ℕ) (unit : Option StoredUnit) (rest : List (List ℕ × StoredUnit)) → is_lt (text_cmp x name) ≡ true → below_all text_cmp x rest ≡ true
      → below_all text_cmp x (cons_option (with_name name unit) rest) ≡ true
  below_kept x name None rest first others = others
  below_kept x name (Some u) rest first others = ap (λ (b : Bool). b && below_all text_cmp x rest) first ∙ others

  below_sound : (x : List ℕ) (es : Files) → below_all text_cmp x es ≡ true → below_all text_cmp x (sound_in es) ≡ true
  below_sound x [] h = refl
  below_sound x (e ∷ es) h =
      let parts = and_parts (is_lt (text_cmp x e.0)) (below_all text_cmp x es) h in
      below_kept x e.0 (sound_bytes_at e.0 e.1) (sound_in es) parts.0 (below_sound x es parts.1)

  sorted_kept : (name : List ℕ) (unit : Option StoredUnit) (rest : List (List ℕ × StoredUnit)) → below_all text_cmp name rest ≡ true → is_sorted text_cmp rest ≡ true
      → is_sorted text_cmp (cons_option (with_name name unit) rest) ≡ true
  sorted_kept name None rest first others = others
  sorted_kept name (Some u) rest first others = ap (λ (b : Bool). b && is_sorted text_cmp rest) first ∙ others

  sound_sorted : (es : Files) → is_sorted text_cmp es ≡ true → is_sorted text_cmp (sound_in es) ≡ true
  sound_sorted [] h = refl
  sound_sorted (e ∷ es) h =
      let parts = and_parts (below_all text_cmp e.0 es) (is_sorted text_cmp es) h in
      sorted_kept e.0 (sound_bytes_at e.0 e.1) (sound_in es) (below_sound e.0 es parts.0) (sound_sorted es parts.1)

  -- a unit is found where its file is, and is sound
  find_kept : (q name : List ℕ) (unit : Option StoredUnit) (rest : List (List ℕ × StoredUnit)) → find text_cmp q (cons_option (with_name name unit) rest) ≡ cond (eq_by_cmp text_cmp q name) (elim unit as (λ _. Option StoredUnit) [ Some u ↦ Some u | None ↦ find text_cmp q rest ]) (find text_cmp q rest)
  find_kept q name (Some u) rest = refl
  find_kept q name None rest =
      elim (eq_by_cmp text_cmp q name) as (λ b. find text_cmp q rest ≡ cond b (find text_cmp q rest) (find text_cmp q rest)) [
        | true ↦ refl
        | false ↦ refl
      ]

  own_or_rest : (unit : Option StoredUnit) (rest : Option StoredUnit) → rest ≡ None → (elim unit as (λ _. Option StoredUnit) [ Some u ↦ Some u | None ↦ rest ]) ≡ unit
  own_or_rest (Some u) rest none = refl
  own_or_rest None rest none = none

  pub find_sound : (q : List ℕ) (es : Files) → is_sorted text_cmp es ≡ true → find text_cmp q (sound_in es) ≡ option_and_then (sound_bytes_at q) (find text_cmp q es)
  find_sound q [] h = refl
  find_sound q (e ∷ es) h =
      let parts = and_parts (below_all text_cmp e.0 es) (is_sorted text_cmp es) h in
      let rest = find_sound q es parts.1 in
      find_kept q e.0 (sound_bytes_at e.0 e.1) (sound_in es)
      ∙ ((elim (same_name q e.0) as (λ b. b ≡ same_name q e.0 → eq_by_cmp text_cmp q e.0 ≡ b
      → cond (eq_by_cmp text_cmp q e.0) (elim (sound_bytes_at e.0 e.1) as (λ _. Option StoredUnit) [ Some u ↦ Some u | None ↦ find text_cmp q (sound_in es) ]) (find text_cmp q (sound_in es))
      ≡ option_and_then (sound_bytes_at q) (cond (eq_by_cmp text_cmp q e.0) (Some e.1) (find text_cmp q es))) [
        | true ↦ λ same ties.
            let is : q ≡ e.0 = same_text q e.0 same in
            let none : find text_cmp q es ≡ None = subst (λ n. find text_cmp n es ≡ None) (sym is) (not_found e.0 es parts.0) in
            let left : find text_cmp q (sound_in es) ≡ None = rest ∙ ap (option_and_then (sound_bytes_at q)) none in
            ap (λ (b : Bool). cond b (elim (sound_bytes_at e.0 e.1) as (λ _. Option StoredUnit) [ Some u ↦ Some u | None ↦ find text_cmp q (sound_in es) ]) (find text_cmp q (sound_in es))) ties
            ∙ own_or_rest (sound_bytes_at e.0 e.1) (find text_cmp q (sound_in es)) left
            ∙ ap (λ n. sound_bytes_at n e.1) (sym is)
            ∙ sym (ap (λ (b : Bool). option_and_then (sound_bytes_at q) (cond b (Some e.1) (find text_cmp q es))) ties)
        | false ↦ λ same ties.
            ap (λ (b : Bool). cond b (elim (sound_bytes_at e.0 e.1) as (λ _. Option StoredUnit) [ Some u ↦ Some u | None ↦ find text_cmp q (sound_in es) ]) (find text_cmp q (sound_in es))) ties
            ∙ rest
            ∙ sym (ap (λ (b : Bool). option_and_then (sound_bytes_at q) (cond b (Some e.1) (find text_cmp q es))) ties)
      ]) refl (sym (texts_ties q e.0)))

  -- the contents have the other's bytes under a name, or none where the other's are refused
  abbrev pub IsSameOrRefused : Option (List ℕ) → List ℕ → Option (List ℕ) → Type 0
  IsSameOrRefused here q there = (here ≡ there) ⊎ ((here ≡ None) × (option_and_then (sound_bytes_at q) there ≡ None))

  sound_alike : (here there : Option (List ℕ)) (q : List ℕ) → IsSameOrRefused here q there → option_and_then (sound_bytes_at q) here ≡ option_and_then (sound_bytes_at q) there
  sound_alike here there q (inl same) = ap (option_and_then (sound_bytes_at q)) same
  sound_alike here there q (inr gone) = ap (option_and_then (sound_bytes_at q)) gone.0 ∙ sym gone.1

  pub same_sound : (c d : Contents) → ((q : List ℕ) → IsSameOrRefused (get c q) q (get d q)) → sound_in (entries c) ≡ sound_in (entries d)
  same_sound c d alike =
      let cs = holds _ (entries_sorted c) in
      let ds = holds _ (entries_sorted d) in
      same_rows (sound_in (entries c)) (sound_in (entries d)) (sound_sorted (entries c) cs) (sound_sorted (entries d) ds)
      (λ q.
      find_sound q (entries c) cs ∙ ap (option_and_then (sound_bytes_at q)) (sym (get-entries c q))
      ∙ sound_alike (get c q) (get d q) q (alike q)
      ∙ ap (option_and_then (sound_bytes_at q)) (get-entries d q) ∙ sym (find_sound q (entries d) ds))
