-- Which names changed, and which are gone.
use Rattle.std.proofs.Common.{◌≡◌, ◌≢◌, ◌↔◌, ◌⊎◌, inl, inr, ℕ, zero, suc, ◌<◌, Bool, true, false, cond, not, List, [], ◌∷◌, map, filter, length, refl, sym, ap, subst, ◌∙◌, Option, Some, None, is_some, Contains, slice_index_or, nat_eq, arith}
use Rattle.std.proofs.lemmas.Option.{same_Some}
use Rattle.std.specs.Option.{option_map, option_eq}
use Rattle.std.specs.Ordering.{is_lt, is_eq, ordering_reverse, eq_by_cmp}
use Rattle.std.specs.Cmp.{tied_itself}
use Rattle.std.specs.Cmp.Lexicographic.{nat_list_cmp_total, same_text, texts_ties}
use Rattle.std.specs.FinMap.{find, is_sorted, entries, entries_sorted, get, get-entries, get-from_sorted, contains_key}
use Rattle.std.specs.FinMap.Entries.{below_all}
use Rattle.std.proofs.lemmas.Bool.{and_parts, eqb-true, eq-eqb}
use Rattle.ix_dir.specs.Files.{File, Files}
use Rattle.ix_types.specs.Row.{text_cmp}
use Rattle.ix_dir.proofs.Door.{find_rows, sorted_rows, told, holds}
use Rattle.ix_cabinet.proofs.NamesRise.{less}
use Rattle.ix_dir.specs.Files.{listed_at}
use Rattle.ix_cabinet.specs.Scan.{StampMap, stamps_in, is_known, changed, unknown, gone, IsChanged, IsGone}

-- ---- elements of a list

-- the list has the element, by cases on the list
abbrev Has : {X : Type 0} → List X → X → Type 0
Has [] x = ⊥
Has (y ∷ ys) x = (y ≡ x) ⊎ Has ys x

has_at : {X : Type 0} (xs : List X) (x : X) (k : ℕ) → k < length xs → slice_index_or xs k x ≡ x → Has xs x
has_at [] x k below is = absurd (omega arith)
has_at (y ∷ ys) x zero below is = inl is
has_at (y ∷ ys) x (suc k) below is = inr (has_at ys x k (omega arith) is)

has : {X : Type 0} (xs : List X) (x : X) → Contains xs x → Has xs x
has xs x c = has_at xs x c.0 c.1 c.2

contains : {X : Type 0} (xs : List X) (x : X) → Has xs x → Contains xs x
contains [] x h = absurd h
contains (y ∷ ys) x (inl e) = (zero, omega arith, e)
contains (y ∷ ys) x (inr h) = let c = contains ys x h in (suc c.0, omega (arith, c.1), c.2)

-- ---- stamps of files

pub stamp_of_file : (files : Files) (name : List ℕ) → get (stamps_in files) name ≡ option_map (λ f. f.stamp) (get files name)
stamp_of_file files name =
    let stamp : File → ℕ = λ f. f.stamp in
    let sorted = told _ (sorted_rows stamp (entries files) ∙ holds _ (entries_sorted files)) in
    get-from_sorted text_cmp (map (λ e. (e.0, e.1.stamp)) (entries files)) name sorted ∙ find_rows stamp name (entries files) ∙ ap (option_map stamp) (sym (get-entries files name))

-- ---- names that changed

known_is : (o : Option ℕ) (stamp : ℕ) → option_eq nat_eq o (Some stamp) ≡ true → o ≡ Some stamp
known_is None stamp e = cc
known_is (Some n) stamp e = ap Some (eqb-true n stamp e)

is_the_known : (o : Option ℕ) (stamp : ℕ) → o ≡ Some stamp → option_eq nat_eq o (Some stamp) ≡ true
is_the_known None stamp e = cc
is_the_known (Some n) stamp e = eq-eqb n stamp (same_Some n stamp e)

tied : (q x : List ℕ) → eq_by_cmp text_cmp q x ≡ true → q ≡ x
tied q x e = same_text q x (sym (texts_ties q x ∙ e))

ties : (q x : List ℕ) → q ≡ x → eq_by_cmp text_cmp q x ≡ true
ties q x e = subst (λ y. eq_by_cmp text_cmp q y ≡ true) e (ap is_eq (tied_itself nat_list_cmp_total q))

above : (x q : List ℕ) → is_lt (text_cmp x q) ≡ true → eq_by_cmp text_cmp q x ≡ false
above x q below = ap is_eq (nat_list_cmp_total.antisymm q x ∙ ap ordering_reverse (less (text_cmp x q) below))

-- a name that is found is none below all
apart : {X : Type 0} (x q : List ℕ) (v : X) (es : List (List ℕ × X)) → below_all text_cmp x es ≡ true → find text_cmp q es ≡ Some v → eq_by_cmp text_cmp q x ≡ false
apart x q v [] below found = cc
apart {X} x q v (e ∷ es) below found =
    let parts = and_parts (is_lt (text_cmp x e.0)) (below_all text_cmp x es) below in
    elim (eq_by_cmp text_cmp q e.0) as (λ b. eq_by_cmp text_cmp q e.0 ≡ b → cond b (Some e.1) (find text_cmp q es) ≡ Some v → eq_by_cmp text_cmp q x ≡ false) [
      | true ↦ λ t at. above x q (subst (λ y. is_lt (text_cmp x y) ≡ true) (sym (tied q e.0 t)) parts.0)
      | false ↦ λ t at. apart x q v es parts.1 at
    ] refl found

module _ (known : StampMap) (q : List ℕ) where
  abbrev names : List (List ℕ × ℕ) → List (List ℕ)
  names es = map (λ l. l.name) (unknown known (map listed_at es))

  abbrev Found : List (List ℕ × ℕ) → Type 0
  Found es = (stamp : ℕ) × (find text_cmp q es ≡ Some stamp) × (get known q ≢ Some stamp)

  changed_out : (es : List (List ℕ × ℕ)) → is_sorted text_cmp es ≡ true → Has (names es) q → Found es
  changed_out [] sorted h = absurd h
  changed_out (e ∷ es) sorted h =
      let parts = and_parts (below_all text_cmp e.0 es) (is_sorted text_cmp es) sorted in
      let behind : Found es → Found (e ∷ es) = λ f. (f.0, rw (apart e.0 q f.0 es parts.0 f.1) f.1, f.2) in
      elim (is_known known (listed_at e)) as (λ b. is_known known (listed_at e) ≡ b → Has (map (λ l. l.name) (cond (not b) (listed_at e ∷ unknown known (map listed_at es)) (unknown known (map listed_at es)))) q → Found (e ∷ es)) [
        | true ↦ λ k has_it. behind (changed_out es parts.1 has_it)
        | false ↦ λ k has_it.
            elim has_it [
              | inl is ↦
                  let first : find text_cmp q (e ∷ es) ≡ Some e.1 = rw (ties q e.0 (sym is)) refl in
                  (e.1, first, λ same. let yes = is_the_known (get known e.0) e.1 (ap (get known) is ∙ same) in cc)
              | inr rest ↦ behind (changed_out es parts.1 rest)
            ]
      ] refl h

  changed_in : (es : List (List ℕ × ℕ)) (stamp : ℕ) → find text_cmp q es ≡ Some stamp → get known q ≢ Some stamp → Has (names es) q
  changed_in [] stamp found not_known = cc
  changed_in (e ∷ es) stamp found not_known =
      elim (eq_by_cmp text_cmp q e.0) as (λ b. eq_by_cmp text_cmp q e.0 ≡ b → cond b (Some e.1) (find text_cmp q es) ≡ Some stamp → Has (names (e ∷ es)) q) [
        | true ↦ λ t at.
            let name : q ≡ e.0 = tied q e.0 t in
            let value : e.1 ≡ stamp = same_Some e.1 stamp at in
            elim (is_known known (listed_at e)) as (λ b. is_known known (listed_at e) ≡ b → Has (map (λ l. l.name) (cond (not b) (listed_at e ∷ unknown known (map listed_at es)) (unknown known (map listed_at es)))) q) [
              | true ↦ λ k. absurd (not_known (ap (get known) name ∙ known_is (get known e.0) e.1 k ∙ ap Some value))
              | false ↦ λ k. inl (sym name)
            ] refl
        | false ↦ λ t at.
            let rest = changed_in es stamp at not_known in
            elim (is_known known (listed_at e)) as (λ b. Has (map (λ l. l.name) (cond (not b) (listed_at e ∷ unknown known (map listed_at es)) (unknown known (map listed_at es)))) q) [
              | true ↦ rest
              | false ↦ inr rest
            ]
      ] refl found

pub changed_is : (known now : StampMap) (name : List ℕ) → Contains (changed known now) name ↔ IsChanged known now name
changed_is known now name = (
  λ c.
      let f = changed_out known name (entries now) (holds _ (entries_sorted now)) (has _ name c) in
      record { stamp = f.0; is_now = get-entries now name ∙ f.1; not_known = f.2 },
  λ is. contains _ name (changed_in known name (entries now) is.stamp (sym (get-entries now name) ∙ is.is_now) is.not_known),
)

-- ---- names that are gone

module _ (p : List ℕ → Bool) (q : List ℕ) where
  kept_out : {X : Type 0} (es : List (List ℕ × X)) → Has (filter p (map (λ e. e.0) es)) q → (is_some (find text_cmp q es) ≡ true) × (p q ≡ true)
  kept_out [] h = absurd h
  kept_out {X} (e ∷ es) h =
      let behind : (is_some (find text_cmp q es) ≡ true) × (p q ≡ true) → (is_some (find text_cmp q (e ∷ es)) ≡ true) × (p q ≡ true) = λ f.
      (elim (eq_by_cmp text_cmp q e.0) as (λ b. is_some (cond b (Some e.1) (find text_cmp q es)) ≡ true) [ true ↦ refl | false ↦ f.0 ], f.1) in
      elim (p e.0) as (λ b. p e.0 ≡ b → Has (cond b (e.0 ∷ filter p (map (λ e. e.0) es)) (filter p (map (λ e. e.0) es))) q → (is_some (find text_cmp q (e ∷ es)) ≡ true) × (p q ≡ true)) [
        | true ↦ λ k has_it.
            elim has_it [
              | inl is ↦ (rw (ties q e.0 (sym is)) refl, ap p (sym is) ∙ k)
              | inr rest ↦ behind (kept_out es rest)
            ]
        | false ↦ λ k has_it. behind (kept_out es has_it)
      ] refl h

  kept_in : {X : Type 0} (es : List (List ℕ × X)) → is_some (find text_cmp q es) ≡ true → p q ≡ true → Has (filter p (map (λ e. e.0) es)) q
  kept_in [] found passes = cc
  kept_in {X} (e ∷ es) found passes =
      elim (eq_by_cmp text_cmp q e.0) as (λ b. eq_by_cmp text_cmp q e.0 ≡ b → is_some (cond b (Some e.1) (find text_cmp q es)) ≡ true → Has (filter p (e.0 ∷ map (λ e. e.0) es)) q) [
        | true ↦ λ t at.
            let name : q ≡ e.0 = tied q e.0 t in
            let yes : p e.0 ≡ true = ap p (sym name) ∙ passes in
            rw yes (inl (sym name))
        | false ↦ λ t at.
            let rest = kept_in es at passes in
            elim (p e.0) as (λ b. Has (cond b (e.0 ∷ filter p (map (λ e. e.0) es)) (filter p (map (λ e. e.0) es))) q) [
              | true ↦ inr rest
              | false ↦ rest
            ]
      ] refl found

without : {X : Type 0} (o : Option X) → not (is_some o) ≡ true → o ≡ None
without None e = refl
without (Some x) e = cc

pub gone_is : (known now : StampMap) (name : List ℕ) → Contains (gone known now) name ↔ IsGone known now name
gone_is known now name =
    let p : List ℕ → Bool = λ n. not (contains_key now n) in (
      λ c.
          let f = kept_out p name (entries known) (has _ name c) in
          record { is_known = ap is_some (get-entries known name) ∙ f.0; is_gone = without (get now name) f.1 },
      λ is. contains _ name (kept_in p name (entries known) (ap is_some (sym (get-entries known name)) ∙ is.is_known) (ap (λ o. not (is_some o)) is.is_gone)),
    )
