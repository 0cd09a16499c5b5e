-- Fresh names are those that later units need and earlier ones don't.
use Rattle.std.proofs.Common.{◌≡◌, ℕ, zero, suc, ◌<◌, Bool, true, false, not, cond, ◌||◌, ◌⊎◌, inl, inr, List, [], ◌∷◌, length, filter, Contains, slice_index_or, refl, sym, ap, subst, ◌∙◌, arith}
use Rattle.std.specs.Str.{bytes_eq}
use Rattle.std.proofs.lemmas.List.Kept.{IsStrictlySortedBy-filter}
use Rattle.std.proofs.lemmas.Slice.Eq.{bytes_eq-Decides}
use Rattle.ix_types.specs.Row.{text_cmp}
use Rattle.ix_unit.specs.declared.batch.UnitPut.{UnitPut}
use Rattle.ix_model.specs.SortedSet.{IsSortedSetOf, sorted_set}
use Rattle.ix_model.specs.Units.{Units, needs}
use Rattle.ix_machine.specs.Needs.{has_name}
use Rattle.ix_guard.specs.Counts.{names_of}
use Rattle.ix_guard.specs.Listing.{names_in_all, need_list_of}
use Rattle.ix_ledger.specs.Fresh.{lacks, names_put, fresh_of}

later_one : (y : List ℕ) (ys : List (List ℕ)) (x : List ℕ) → Contains ys x → Contains (y ∷ ys) x
later_one y ys x c = (suc c.0, omega (arith, c.1), c.2)

or_right : (a : Bool) {b : Bool} → b ≡ true → (a || b) ≡ true
or_right true e = refl
or_right false e = e

has_at : (name : List ℕ) (xs : List (List ℕ)) (k : ℕ) → k < length xs → slice_index_or xs k name ≡ name → has_name name xs ≡ true
has_at name [] k below is = absurd (omega arith)
has_at name (x ∷ xs) zero below is = ap (λ b. b || has_name name xs) ((bytes_eq-Decides x name).1 is)
has_at name (x ∷ xs) (suc k) below is = or_right (bytes_eq x name) (has_at name xs k (omega arith) is)

module _ (p : List ℕ → Bool) (x : List ℕ) where
  into : (xs : List (List ℕ)) (k : ℕ) → k < length xs → slice_index_or xs k x ≡ x → p x ≡ true → Contains (filter p xs) x
  into [] k below is keep = absurd (omega arith)
  into (y ∷ ys) zero below is keep = subst (λ b. Contains (cond b (y ∷ filter p ys) (filter p ys)) x) (sym (ap p is ∙ keep)) (zero, omega arith, is)
  into (y ∷ ys) (suc k) below is keep =
      let h = into ys k (omega arith) is keep in
      elim (p y) as (λ b. Contains (cond b (y ∷ filter p ys) (filter p ys)) x) [
        | true ↦ later_one y (filter p ys) x h
        | false ↦ h
      ]

  out : (xs : List (List ℕ)) (k : ℕ) → k < length (filter p xs) → slice_index_or (filter p xs) k x ≡ x → Contains xs x × (p x ≡ true)
  out [] k below is = absurd (omega arith)
  out (y ∷ ys) k below is =
      (elim (p y) as (λ b. p y ≡ b → k < length (cond b (y ∷ filter p ys) (filter p ys)) → slice_index_or (cond b (y ∷ filter p ys) (filter p ys)) k x ≡ x → Contains (y ∷ ys) x × (p x ≡ true)) [
        | true ↦ λ e below is. here (out ys) e k below is
        | false ↦ λ e below is. let h = out ys k below is in (later_one y ys x h.0, h.1)
      ]) refl below is
    where
      here : ((k : ℕ) → k < length (filter p ys) → slice_index_or (filter p ys) k x ≡ x → Contains ys x × (p x ≡ true)) → p y ≡ true
          → (k : ℕ) → k < length (y ∷ filter p ys) → slice_index_or (y ∷ filter p ys) k x ≡ x → Contains (y ∷ ys) x × (p x ≡ true)
      here rest e zero below is = ((zero, omega arith, is), subst (λ (z : List ℕ). p z ≡ true) is e)
      here rest e (suc k) below is = let h = rest k (omega arith) is in (later_one y ys x h.0, h.1)

missing : {a : Bool} → a ≡ true → not a ≡ true → ⊥
missing e f = cc

module _ (sets : (texts : List (List ℕ)) → IsSortedSetOf text_cmp texts (sorted_set text_cmp texts))
    (one : (texts first second : List (List ℕ)) → IsSortedSetOf text_cmp texts first → IsSortedSetOf text_cmp texts second → first ≡ second)
    (names : (units : Units) → names_of (need_list_of units) ≡ needs units) where
  pub fresh_are : (current later : Units) (puts : List UnitPut)
      → ((name : List ℕ) → Contains (names_put puts) name → Contains (needs later) name)
      → ((name : List ℕ) → Contains (needs later) name → Contains (needs current) name ⊎ Contains (names_put puts) name)
      → fresh_of (need_list_of current) puts ≡ filter (λ name. not (has_name name (needs current))) (needs later)
  fresh_are current later puts come only =
      ap (λ (ns : List (List ℕ)). sorted_set text_cmp (filter (λ name. not (has_name name ns)) (names_put puts))) (names current)
      ∙ one (filter new (names_put puts)) (sorted_set text_cmp (filter new (names_put puts))) (filter new (needs later)) (sets (filter new (names_put puts)))
      (record {
        rises = IsStrictlySortedBy-filter text_cmp new (needs later) (sets (names_in_all later)).rises;
        same = λ x. (
          λ c. let h = out new x (needs later) c.0 c.1 c.2 in put_one x h.1 (only x h.0),
          λ c. let h = out new x (names_put puts) c.0 c.1 c.2 in let there = come x h.0 in into new x (needs later) there.0 there.1 there.2 h.1,
        );
      })
    where
      new : List ℕ → Bool
      new name = not (has_name name (needs current))

      put_one : (x : List ℕ) → new x ≡ true → Contains (needs current) x ⊎ Contains (names_put puts) x → Contains (filter new (names_put puts)) x
      put_one x keep (inl c) = absurd (missing (has_at x (needs current) c.0 c.1 c.2) keep)
      put_one x keep (inr c) = into new x (names_put puts) c.0 c.1 c.2 keep
