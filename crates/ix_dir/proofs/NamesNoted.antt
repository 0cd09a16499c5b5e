-- What is noted of all names in a walk over the moves.
use Rattle.std.proofs.Common.{◌≡◌, ℕ, Bool, true, false, cond, List, [], ◌∷◌, map, filter, refl, sym, ap, ◌∙◌, subst, Option, Some, None, is_some, IsTrue}
use Rattle.std.specs.List.{list_any, IsDistinct}
use Rattle.std.specs.Map.{keys_of}
use Rattle.std.specs.declared.cmp.Ordering.TheVariants.{Equal}
use Rattle.std.specs.Ordering.{is_eq}
use Rattle.std.specs.Cmp.Lexicographic.{same_text, nat_list_cmp_total, texts_ties}
use Rattle.std.specs.FinMap.{get, find, is_sorted, entries, get-entries, entries_sorted}
use Rattle.std.specs.FinMap.Entries.{where_key, is_sorted-where_key, find-where_key}
use Rattle.std.specs.HashMap.{keys}
use Rattle.ix_dir.specs.declared.area.Area.{Area}
use Rattle.ix_dir.specs.declared.values_by_name.ValuesByName.{ValuesByName}
use Rattle.ix_dir.specs.Crash.{puts, was_there, names_since}
use Rattle.ix_types.specs.Row.{text_cmp}
use Rattle.ix_dir.specs.Images.{values_of}
use Rattle.ix_dir.specs.Moves.{Move}
use Rattle.ix_dir.specs.NotedInOneWalk.{held_by, noted_of, is_there, IsPending}
use Rattle.ix_dir.specs.ValuesByNumber.{value_at}
use Rattle.ix_dir.proofs.PickIsAnImage.{been_put}
use Rattle.ix_dir.proofs.Door.{told, holds, same_keys, filter_keys, find_lookup}
use Rattle.ix_dir.proofs.SortedIsAMap.{sorted_strictly}

filter_same : {A : Type 0} (p r : A → Bool) (xs : List A) → ((x : A) → p x ≡ r x) → filter p xs ≡ filter r xs
filter_same p r [] same = refl
filter_same p r (x ∷ xs) same = rw (same x) (ap (λ rest. cond (r x) (x ∷ rest) rest) (filter_same p r xs same))

module _ (moves : List Move) (area : Area) (pending : ValuesByName) (is : IsPending moves area pending) where
  -- a name that was there was noted
  was_noted : (q : List ℕ) → was_there moves area q ≡ true → is_some (noted_of pending q) ≡ true
  was_noted q there = noted (noted_of pending q) refl where
    noted : (o : Option _) → noted_of pending q ≡ o → is_some o ≡ true
    noted (Some h) e = refl
    noted None e =
        let values : map (value_at moves) (held_by pending.synced None) ≡ values_of moves area q = ap (λ o. map (value_at moves) (held_by pending.synced o)) (sym e) ∙ is.values q in
        ap (list_any is_some) values ∙ there

  alike : (q : List ℕ) → is_some (find text_cmp q (where_key text_cmp (was_there moves area) pending.noted.entries)) ≡ is_some (find text_cmp q (where_key text_cmp (was_there moves area) (entries (puts moves area))))
  alike q =
      let p = was_there moves area in
      let tied : (x : List ℕ) → text_cmp q x ≡ Equal → p x ≡ p q = λ x e. ap p (sym (same_text q x (sym (texts_ties q x ∙ ap is_eq e)))) in
      ap is_some (find-where_key text_cmp p q tied pending.noted.entries ∙ ap (λ o. cond (p q) o None) (find_lookup q pending.noted.entries))
      ∙ both (p q) refl
      ∙ sym (ap is_some (find-where_key text_cmp p q tied (entries (puts moves area)) ∙ ap (λ o. cond (p q) o None) (sym (get-entries (puts moves area) q)))) where
        both : (b : Bool) → was_there moves area q ≡ b → is_some (cond b (noted_of pending q) None) ≡ is_some (cond b (get (puts moves area) q) None)
        both true e = was_noted q e ∙ sym (been_put area q moves e)
        both false e = refl

  pub names_are : filter (is_there moves pending) (keys pending.noted) ≡ names_since moves area
  names_are =
      let p = was_there moves area in
      let es = pending.noted.entries in
      let fs = entries (puts moves area) in
      let apart = subst (λ e. IsDistinct e (keys_of es)) (λ i x y. texts_ties x y i) is.unique in
      let sorted : IsTrue (is_sorted text_cmp (where_key text_cmp p es)) = holds _ (is_sorted-where_key text_cmp p es (told _ (sorted_strictly nat_list_cmp_total es is.sorted apart))) in
      let sorted_puts : IsTrue (is_sorted text_cmp (where_key text_cmp p fs)) = holds _ (is_sorted-where_key text_cmp p fs (entries_sorted (puts moves area))) in
      filter_same (is_there moves pending) p (keys pending.noted) (λ q. ap (list_any is_some) (is.values q))
      ∙ sym (filter_keys p es)
      ∙ same_keys (where_key text_cmp p es) (where_key text_cmp p fs) sorted sorted_puts alike
      ∙ filter_keys p fs
