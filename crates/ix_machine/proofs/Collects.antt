-- What collects take away.
use Rattle.std.proofs.Common.{◌≡◌, ◌≢◌, ℕ, zero, suc, Bool, true, false, not, cond, ◌⊎◌, inl, inr, List, [], ◌∷◌, length, drop, filter, Some, None, IsSome, refl, sym, ap, subst, ◌∙◌}
use Rattle.std.specs.declared.cmp.Ordering.TheVariants.{Less, Equal, Greater}
use Rattle.std.specs.Ordering.{ordering_reverse, is_eq, eq_by_cmp}
use Rattle.std.specs.List.{AllByRecursion}
use Rattle.std.specs.List.Sorted.{IsStrictlySortedBy}
use Rattle.std.specs.Map.{lookup, keys_of, remove_entry}
use Rattle.std.specs.BTreeMap.{is_at}
use Rattle.std.proofs.lemmas.Cmp.{eq_by_cmp_equiv, nat_list_cmp_total}
use Rattle.std.proofs.lemmas.Map.{lookup-remove_entry}
use Rattle.std.proofs.lemmas.Map.Keys.{IsDistinct-from_sorted}
use Rattle.ix_types.specs.Row.{text_cmp}
use Rattle.ix_machine.specs.declared.event.Outcome.TheVariants.{Removed, Nothing}
use Rattle.ix_machine.specs.Laws.{IsLoose, TakesAway, RemovesLeast, after_collects}
use Rattle.ix_machine.specs.Needs.{is_needed, is_protected, settled, loose}
use Rattle.ix_machine.specs.Sound.{IsSound}
use Rattle.ix_machine.specs.State.{Files, State}
use Rattle.ix_machine.specs.Step.{Stepped, collected, collect_first}
use Rattle.ix_machine.proofs.Lists.{text_cmp-same, at_itself, same_or_apart, lookup-removed_apart}

-- ---- entries of which the test chooses some

module _ (spared : List ℕ → Bool) where
  abbrev free_of : Files → List (List ℕ)
  free_of files = filter (λ q. not (spared q)) (keys_of files)

  -- the first that is chosen is free
  first_free : (files : Files) (name : List ℕ) (names : List (List ℕ)) → free_of files ≡ name ∷ names → spared name ≡ false
  first_free [] name names e = absurd (cc)
  first_free (f ∷ files) name names e =
      (elim (spared f.0) as (λ b. spared f.0 ≡ b → cond (not b) (f.0 ∷ free_of files) (free_of files) ≡ name ∷ names → spared name ≡ false) [
        | true ↦ λ is e. first_free files name names e
        | false ↦ λ is e. let same : f.0 ≡ name = cc in subst (λ (q : List ℕ). spared q ≡ false) same is
      ]) refl e

  -- and stands
  first_stands : (files : Files) (name : List ℕ) (names : List (List ℕ)) → free_of files ≡ name ∷ names → IsSome (lookup (is_at (text_cmp name)) files)
  first_stands [] name names e = absurd (cc)
  first_stands (f ∷ files) name names e =
      (elim (spared f.0) as (λ b. cond (not b) (f.0 ∷ free_of files) (free_of files) ≡ name ∷ names → IsSome (lookup (is_at (text_cmp name)) (f ∷ files))) [
        | true ↦ λ e. either (is_at (text_cmp name) f.0) (first_stands files name names e)
        | false ↦ λ e.
            let same : name ≡ f.0 = cc in
            let here : is_at (text_cmp name) f.0 ≡ true = ap (is_at (text_cmp name)) (sym same) ∙ at_itself name in
            subst (λ (b : Bool). IsSome (cond b (Some f.1) (lookup (is_at (text_cmp name)) files))) (sym here) refl
      ]) e
    where
      either : (b : Bool) → IsSome (lookup (is_at (text_cmp name)) files) → IsSome (cond b (Some f.1) (lookup (is_at (text_cmp name)) files))
      either true h = refl
      either false h = h

  -- behind the first entry
  is_behind : (f : List ℕ × List ℕ) (files : Files) (name : List ℕ) → IsSome (lookup (is_at (text_cmp name)) (f ∷ files)) → is_at (text_cmp name) f.0 ≡ false → IsSome (lookup (is_at (text_cmp name)) files)
  is_behind f files name there apart = subst (λ (b : Bool). IsSome (cond b (Some f.1) (lookup (is_at (text_cmp name)) files))) apart there

  -- a free name that stands is among the chosen ones
  some_free : (files : Files) (name : List ℕ) → IsSome (lookup (is_at (text_cmp name)) files) → spared name ≡ false → free_of files ≡ [] → ⊥
  some_free [] name there free e = cc
  some_free (f ∷ files) name there free e =
      elim (same_or_apart f.0 name) [
        | inl same ↦ own (ap spared same ∙ free)
        | inr apart ↦ some_free files name (is_behind f files name there apart) free (rest (spared f.0) e)
      ]
    where
      own : spared f.0 ≡ false → ⊥
      own is = let there : cond (not false) (f.0 ∷ free_of files) (free_of files) ≡ [] = subst (λ (b : Bool). cond (not b) (f.0 ∷ free_of files) (free_of files) ≡ []) is e in cc

      rest : (b : Bool) → cond (not b) (f.0 ∷ free_of files) (free_of files) ≡ [] → free_of files ≡ []
      rest true e = e
      rest false e = absurd (cc)

  -- a name that the look-up finds is one of the keys
  key_has : (P : List ℕ → Type 0) (files : Files) (name : List ℕ) → IsSome (lookup (is_at (text_cmp name)) files) → AllByRecursion P (keys_of files) → P name
  key_has P [] name there all = absurd (cc)
  key_has P (f ∷ files) name there all =
      elim (same_or_apart f.0 name) [
        | inl same ↦ subst P same all.0
        | inr apart ↦ key_has P files name (is_behind f files name there apart) all.1
      ]

  equal_to_itself : (q : List ℕ) → text_cmp q q ≡ Equal
  equal_to_itself q = (elim (text_cmp q q) as (λ r. is_eq r ≡ true → r ≡ Equal) [
    | Less ↦ λ e. absurd (cc)
    | Equal ↦ λ e. refl
    | Greater ↦ λ e. absurd (cc)
  ]) (at_itself q)

  -- no free name that stands is less than the first one
  first_least : (files : Files) (name : List ℕ) (names : List (List ℕ)) → IsStrictlySortedBy text_cmp (keys_of files) → free_of files ≡ name ∷ names
      → (other : List ℕ) → IsSome (lookup (is_at (text_cmp other)) files) → spared other ≡ false → text_cmp other name ≢ Less
  unfolding IsStrictlySortedBy
  first_least [] name names rising e other there free less = cc
  first_least (f ∷ files) name names rising e other there free less =
      (elim (spared f.0) as (λ b. spared f.0 ≡ b → cond (not b) (f.0 ∷ free_of files) (free_of files) ≡ name ∷ names → ⊥) [
        | true ↦ λ is e. elim (same_or_apart f.0 other) [
          | inl same ↦ differ is same
          | inr apart ↦ first_least files name names rising.1 e other (is_behind f files other there apart) free less
        ]
        | false ↦ λ is e. let same : f.0 ≡ name = cc in found same (same_or_apart f.0 other)
      ]) refl e
    where
      differ : spared f.0 ≡ true → f.0 ≡ other → ⊥
      differ is same = let both : spared other ≡ true = ap spared (sym same) ∙ is in cc

      found : f.0 ≡ name → (f.0 ≡ other) ⊎ (is_at (text_cmp other) f.0 ≡ false) → ⊥
      found same (inl own) = let tied : text_cmp other name ≡ Equal = ap (λ (q : List ℕ). text_cmp q name) (sym own ∙ same) ∙ equal_to_itself name in cc
      found same (inr apart) =
          let above : text_cmp f.0 other ≡ Less = key_has (λ z. text_cmp f.0 z ≡ Less) files other (is_behind f files other there apart) rising.0 in
          let below : text_cmp other f.0 ≡ Greater = nat_list_cmp_total.antisymm other f.0 ∙ ap ordering_reverse above in
          let both : text_cmp other name ≡ Greater = ap (text_cmp other) (sym same) ∙ below in
          cc

  -- without the first, the others are left
  rest_free : (files : Files) (name : List ℕ) (names : List (List ℕ)) → free_of files ≡ name ∷ names → free_of (remove_entry (is_at (text_cmp name)) files) ≡ names
  rest_free [] name names e = absurd (cc)
  rest_free (f ∷ files) name names e =
      (elim (spared f.0) as (λ b. spared f.0 ≡ b → cond (not b) (f.0 ∷ free_of files) (free_of files) ≡ name ∷ names → free_of (cond (is_at (text_cmp name) f.0) files (f ∷ remove_entry (is_at (text_cmp name)) files)) ≡ names) [
        | true ↦ λ is e. elim (same_or_apart f.0 name) [
          | inl same ↦ absurd (differ is same e)
          | inr apart ↦ passed is apart (rest_free files name names e)
        ]
        | false ↦ λ is e.
            let same : f.0 ≡ name = cc in
            let here : is_at (text_cmp name) f.0 ≡ true = ap (is_at (text_cmp name)) same ∙ at_itself name in
            let left : free_of files ≡ names = cc in
            ap (λ (b : Bool). free_of (cond b files (f ∷ remove_entry (is_at (text_cmp name)) files))) here ∙ left
      ]) refl e
    where
      differ : spared f.0 ≡ true → f.0 ≡ name → free_of files ≡ name ∷ names → ⊥
      differ is same e = let free = first_free files name names e in let both : spared name ≡ true = ap spared (sym same) ∙ is in cc

      passed : spared f.0 ≡ true → is_at (text_cmp name) f.0 ≡ false → free_of (remove_entry (is_at (text_cmp name)) files) ≡ names
          → free_of (cond (is_at (text_cmp name) f.0) files (f ∷ remove_entry (is_at (text_cmp name)) files)) ≡ names
      passed is apart left =
          ap (λ (b : Bool). free_of (cond b files (f ∷ remove_entry (is_at (text_cmp name)) files))) apart
          ∙ (ap (λ (b : Bool). cond (not b) (f.0 ∷ free_of (remove_entry (is_at (text_cmp name)) files)) (free_of (remove_entry (is_at (text_cmp name)) files))) is ∙ left)

-- ---- a removal

removed_is_gone : (name : List ℕ) (files : Files) → IsStrictlySortedBy text_cmp (keys_of files) → lookup (is_at (text_cmp name)) (remove_entry (is_at (text_cmp name)) files) ≡ None
removed_is_gone name files rising =
    lookup-remove_entry (eq_by_cmp_equiv nat_list_cmp_total) (is_at (text_cmp name)) one name files (IsDistinct-from_sorted text_cmp (keys_of files) rising)
    ∙ ap (λ (b : Bool). cond b None (lookup (is_at (text_cmp name)) files)) (at_itself name)
  where
    equal : (x : List ℕ) → is_eq (text_cmp name x) ≡ true → name ≡ x
    equal x = (elim (text_cmp name x) as (λ r. text_cmp name x ≡ r → is_eq r ≡ true → name ≡ x) [
      | Less ↦ λ e f. absurd (cc)
      | Equal ↦ λ e f. text_cmp-same name x e
      | Greater ↦ λ e f. absurd (cc)
    ]) refl

    one : (x y : List ℕ) → is_at (text_cmp name) x ≡ true → is_at (text_cmp name) y ≡ eq_by_cmp text_cmp x y
    one x y t = ap (λ (z : List ℕ). is_eq (text_cmp z y)) (equal x t)

takes_away : (name : List ℕ) (files : Files) → IsStrictlySortedBy text_cmp (keys_of files) → TakesAway name files (remove_entry (is_at (text_cmp name)) files)
takes_away name files rising = record { gone = removed_is_gone name files rising; others = λ other ne. apart other ne (same_or_apart name other) }
  where
    apart : (other : List ℕ) → name ≢ other → (name ≡ other) ⊎ (is_at (text_cmp other) name ≡ false) → lookup (is_at (text_cmp other)) (remove_entry (is_at (text_cmp name)) files) ≡ lookup (is_at (text_cmp other)) files
    apart other ne (inl same) = absurd (ne same)
    apart other ne (inr test) = lookup-removed_apart name other test files

-- ---- a collect

module _ (s : State) where
  abbrev spares : List ℕ → Bool
  spares name = is_protected (settled s) name

  -- by what is loose: the outcome and the state
  pub removes_least : (name_of : List ℕ → List ℕ) → IsSound name_of s → (stepped : Stepped) (name : List ℕ) → Some (collected s) ≡ Some stepped → stepped.outcome ≡ Removed name → RemovesLeast s name stepped.state
  removes_least name_of h stepped name e is = by_loose (loose s) refl (cc)
    where
      here : (first : List ℕ) (names : List (List ℕ)) → loose s ≡ first ∷ names → RemovesLeast s first (collect_first s (first ∷ names)).state
      here first names l = record {
        least = record {
          loose = record { there = first_stands spares s.records first names l; free = first_free spares s.records first names l };
          least = λ other lo. first_least spares s.records first names h.rising l other lo.there lo.free;
        };
        taken = takes_away first s.records h.rising;
        rest = refl;
      }

      by_loose : (l : List (List ℕ)) → loose s ≡ l → collect_first s l ≡ stepped → RemovesLeast s name stepped.state
      by_loose [] l e = let o : Nothing ≡ Removed name = ap (λ (x : Stepped). x.outcome) e ∙ is in absurd (cc)
      by_loose (first ∷ names) l e =
          let o : Removed first ≡ Removed name = ap (λ (x : Stepped). x.outcome) e ∙ is in
          let same : first ≡ name = cc in
          subst (λ (x : Stepped). RemovesLeast s name x.state) e
          (subst (λ (q : List ℕ). RemovesLeast s q (collect_first s (first ∷ names)).state) same (here first names l))

  pub nothing_loose : (stepped : Stepped) (name : List ℕ) → Some (collected s) ≡ Some stepped → stepped.outcome ≡ Nothing → (stepped.state ≡ settled s) × (IsLoose s name → ⊥)
  nothing_loose stepped name e is = by_loose (loose s) refl (cc)
    where
      by_loose : (l : List (List ℕ)) → loose s ≡ l → collect_first s l ≡ stepped → (stepped.state ≡ settled s) × (IsLoose s name → ⊥)
      by_loose [] l e = (ap (λ (x : Stepped). x.state) (sym e), λ lo. some_free spares s.records name lo.there lo.free l)
      by_loose (first ∷ names) l e = let o : Removed first ≡ Nothing = ap (λ (x : Stepped). x.outcome) e ∙ is in absurd (cc)

  pub removes_some : (name : List ℕ) → IsLoose s name → (least : List ℕ) × (after : State) × (Some (collected s) ≡ Some (record { outcome = Removed least; state = after }))
  removes_some name lo = by_loose (loose s) refl
    where
      by_loose : (l : List (List ℕ)) → loose s ≡ l → (least : List ℕ) × (after : State) × (Some (collect_first s l) ≡ Some (record { outcome = Removed least; state = after }))
      by_loose [] l = absurd (some_free spares s.records name lo.there lo.free l)
      by_loose (first ∷ names) l = (first, (collect_first s (first ∷ names)).state, refl)

-- ---- many collects

one_less : (s : State) (l : List (List ℕ)) → loose s ≡ l → loose (collect_first s l).state ≡ drop 1 l
unfolding is_needed
one_less s [] e = e
one_less s (name ∷ names) e = rest_free (spares s) s.records name names e

drop-one : (n : ℕ) (l : List (List ℕ)) → drop n (drop 1 l) ≡ drop (suc n) l
drop-one zero [] = refl
drop-one (suc n) [] = refl
drop-one n (x ∷ l) = refl

pub one_by_one : (s : State) (n : ℕ) → loose (after_collects n s) ≡ drop n (loose s)
one_by_one s zero = refl
one_by_one s (suc n) = one_by_one (collected s).state n ∙ (ap (drop n) (one_less s (loose s) refl) ∙ drop-one n (loose s))

drop-all : (l : List (List ℕ)) → drop (length l) l ≡ []
drop-all [] = refl
drop-all (x ∷ l) = drop-all l

pub none_left : (s : State) → loose (after_collects (length (loose s)) s) ≡ []
none_left s = one_by_one s (length (loose s)) ∙ drop-all (loose s)
