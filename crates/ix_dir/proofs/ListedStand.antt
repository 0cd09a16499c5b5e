-- A listed name with its stamp is exactly one that stands.
use Rattle.std.proofs.Common.{◌≡◌, ℕ, zero, suc, true, false, cond, List, [], ◌∷◌, map, refl, sym, ap, ◌∙◌, subst, Option, Some, None, IsTrue, Contains, arith}
use Rattle.std.specs.List.{slice_get}
use Rattle.std.specs.Map.{keys_of}
use Rattle.std.specs.Option.{option_map}
use Rattle.std.specs.Ordering.{is_eq, eq_by_cmp}
use Rattle.std.specs.Cmp.{tied_itself}
use Rattle.std.specs.Cmp.Lexicographic.{nat_list_cmp_total, texts_ties, same_text}
use Rattle.std.specs.FinMap.{find, is_sorted, entries, entries_sorted, get, get-entries}
use Rattle.std.specs.FinMap.Entries.{below_all}
use Rattle.std.proofs.lemmas.Bool.{and_parts}
use Rattle.std.proofs.lemmas.Option.{slice_get-get_or, same_Some}
use Rattle.ix_types.specs.Row.{text_cmp}
use Rattle.ix_dir.specs.declared.dir.Listed.{Listed}
use Rattle.ix_dir.specs.Files.{File, Files, listed_entry, listed_of, stamp_at}
use Rattle.ix_dir.specs.Moves.{same_name}
use Rattle.ix_dir.proofs.Door.{holds, distinct_keys}
use Rattle.ix_dir.proofs.StampsApart.{within, index_of}

at_map : {A B : Type 0} (f : A → B) (xs : List A) (k : ℕ) → slice_get (map f xs) k ≡ option_map f (slice_get xs k)
at_map f [] k = refl
at_map f (x ∷ xs) zero = refl
at_map f (x ∷ xs) (suc k) = at_map f xs k

contains_at : {A : Type 0} (xs : List A) (k : ℕ) (x : A) → slice_get xs k ≡ Some x → Contains xs x
contains_at xs k x at =
    let small = within xs k x at in
    (k, small, same_Some _ x (sym (slice_get-get_or xs k x small) ∙ at))

ties : (q : List ℕ) → eq_by_cmp text_cmp q q ≡ true
ties q = ap is_eq (tied_itself nat_list_cmp_total q)

-- the key of an entry finds it
module _ {X : Type 0} where
  tail_sorted : (x : List ℕ × X) (es : List (List ℕ × X)) → IsTrue (is_sorted text_cmp (x ∷ es)) → IsTrue (is_sorted text_cmp es)
  tail_sorted x es s = (and_parts (below_all text_cmp x.0 es) (is_sorted text_cmp es) s).1

  found_at : (es : List (List ℕ × X)) → IsTrue (is_sorted text_cmp es) → (k : ℕ) (e : List ℕ × X) → slice_get es k ≡ Some e → find text_cmp e.0 es ≡ Some e.1
  found_at [] s k e at = cc
  found_at (x ∷ es) s zero e at =
      let same : x ≡ e = same_Some x e at in
      subst (λ y. find text_cmp y.0 (x ∷ es) ≡ Some y.1) same (rw (ties x.0) refl)
  found_at (x ∷ es) s (suc k) e at =
      elim (same_name e.0 x.0) as (λ b. b ≡ same_name e.0 x.0 → find text_cmp e.0 (x ∷ es) ≡ Some e.1) [
        | true ↦ λ is.
            let first : slice_get (keys_of (x ∷ es)) 0 ≡ Some e.0 = ap Some (sym (same_text e.0 x.0 is)) in
            let later : slice_get (keys_of (x ∷ es)) (suc k) ≡ Some e.0 = at_map (λ p. p.0) es k ∙ ap (option_map (λ p. p.0)) at in
            absurd (omega (arith, distinct_keys (x ∷ es) s e.0 0 (suc k) first later))
        | false ↦ λ is.
            let other : eq_by_cmp text_cmp e.0 x.0 ≡ false = sym (texts_ties e.0 x.0) ∙ sym is in
            rw other (found_at es (tail_sorted x es s) k e at)
      ] refl

  at_found : (q : List ℕ) (es : List (List ℕ × X)) (x : X) → find text_cmp q es ≡ Some x → (k : ℕ) × (slice_get es k ≡ Some (q, x))
  at_found q [] x found = cc
  at_found q (e ∷ es) x found =
      elim (same_name q e.0) as (λ b. b ≡ same_name q e.0 → (k : ℕ) × (slice_get (e ∷ es) k ≡ Some (q, x))) [
        | true ↦ λ is.
            let same : eq_by_cmp text_cmp q e.0 ≡ true = sym (texts_ties q e.0) ∙ sym is in
            let here : Some e.1 ≡ Some x = sym (ap (λ b. cond b (Some e.1) (find text_cmp q es)) same) ∙ found in
            (0, ap (λ n. Some (n, e.1)) (sym (same_text q e.0 is)) ∙ ap (λ y. Some (q, y)) (same_Some e.1 x here))
        | false ↦ λ is.
            let other : eq_by_cmp text_cmp q e.0 ≡ false = sym (texts_ties q e.0) ∙ sym is in
            let rest : find text_cmp q es ≡ Some x = sym (ap (λ b. cond b (Some e.1) (find text_cmp q es)) other) ∙ found in
            let at = at_found q es x rest in
            (suc at.0, at.1)
      ] refl

module _ (files : Files) (one : Listed) where
  stands_at : (k : ℕ) (o : Option (List ℕ × File)) → slice_get (entries files) k ≡ o → option_map listed_entry o ≡ Some one → stamp_at files one.name ≡ Some one.stamp
  stands_at k None at is = cc
  stands_at k (Some e) at is =
      let there : get files e.0 ≡ Some e.1 = get-entries files e.0 ∙ found_at (entries files) (holds _ (entries_sorted files)) k e at in
      subst (λ l. stamp_at files l.name ≡ Some l.stamp) (same_Some (listed_entry e) one is) (ap (option_map (λ f. f.stamp)) there)

  pub listed_stands : Contains (listed_of files) one → stamp_at files one.name ≡ Some one.stamp
  listed_stands there =
      let at = index_of (listed_of files) one there in
      stands_at at.0 (slice_get (entries files) at.0) refl (sym (at_map listed_entry (entries files) at.0) ∙ at.1)

  listed_file : (o : Option File) → get files one.name ≡ o → option_map (λ f. f.stamp) o ≡ Some one.stamp → Contains (listed_of files) one
  listed_file None is stamped = cc
  listed_file (Some f) is stamped =
      let at = at_found one.name (entries files) f (sym (get-entries files one.name) ∙ is) in
      let same : f.stamp ≡ one.stamp = same_Some f.stamp one.stamp stamped in
      let row : ℕ → Listed = λ s. record { name = one.name; stamp = s } in
      contains_at (listed_of files) at.0 one
      (at_map listed_entry (entries files) at.0 ∙ ap (option_map listed_entry) at.1 ∙ ap (λ s. Some (row s)) same)

  pub stands_listed : stamp_at files one.name ≡ Some one.stamp → Contains (listed_of files) one
  stands_listed stamped = listed_file (get files one.name) refl stamped
