-- Sorted steps, gathered, rise by key and by value.
use Rattle.std.proofs.Common.{◌≡◌, ℕ, suc, ◌<◌, ◌≤◌, Bool, true, false, List, [], ◌∷◌, ◌++◌, length, filter, get_or, if◌then◌else◌, refl, sym, ap, subst, ◌∙◌, arith}
use Rattle.std.specs.List.{AllByRecursion}
use Rattle.std.specs.List.Sorted.{IsSortedBy}
use Rattle.std.specs.declared.cmp.Ordering.{Ordering}
use Rattle.std.specs.declared.cmp.Ordering.TheVariants.{Less, Equal, Greater}
use Rattle.std.specs.Ordering.{is_lt, is_eq, ordering_then}
use Rattle.std.specs.Cmp.{IsTotalOrder}
use Rattle.std.proofs.lemmas.Cmp.{alike_right, on_total, then_total}
use Rattle.std.proofs.lemmas.List.Sorted.{ranks_by, sorted_far}
use Rattle.ix_index.specs.declared.revisions.Recount.{Recount}
use Rattle.ix_index.specs.declared.revisions.Revision.{Revision}
use Rattle.ix_index.specs.declared.steps.Step.{Step}
use Rattle.ix_index.specs.Recounting.{AreRecounts, AreRevisions}
use Rattle.ix_index.specs.Gathering.{once, once_more, is_change, with_turn, first_of, if_some, all_settled, step_cmp, with_step, gathered}
use Rattle.ix_index.proofs.Sorted.{from_eq, greater_back}

-- neither less nor equal
behind : (a : Ordering) → is_lt a ≡ false → is_eq a ≡ false → a ≡ Greater
behind Less p q = absurd (cc)
behind Equal p q = absurd (cc)
behind Greater p q = refl

-- ---- values

module _ {V : Type 0} {cmp : V → V → Ordering} (o : IsTotalOrder cmp) where
  -- the value isn't less than any of the recounts
  abbrev pub IsBehind : V → List (Recount V) → Type 0
  IsBehind v rs = AllByRecursion (λ r. is_lt (cmp v r.value) ≡ false) rs

  turned_all : (P : V → Type 0) (rs : List (Recount V)) (v : V) (g : Bool) → AllByRecursion (λ r. P r.value) rs → P v → AllByRecursion (λ r. P r.value) (with_turn cmp rs v g)
  turned_all P [] v g all here = (here, tt)
  turned_all P (r ∷ []) v g all here = cases (is_eq (cmp v r.value))
    where
      cases : (b : Bool) → AllByRecursion (λ (t : Recount V). P t.value) (if b then once_more r g ∷ [] else r ∷ once v g ∷ [])
      cases true = (all.0, tt)
      cases false = (all.0, (here, tt))
  turned_all P (r ∷ s ∷ rs) v g all here = (all.0, turned_all P (s ∷ rs) v g all.1 here)

  turned_rise : (rs : List (Recount V)) (v : V) (g : Bool) → AreRecounts cmp rs → IsBehind v rs → AreRecounts cmp (with_turn cmp rs v g)
  turned_rise [] v g rise above = (tt, tt)
  turned_rise (r ∷ []) v g rise above = cases (is_eq (cmp v r.value)) refl
    where
      cases : (b : Bool) → is_eq (cmp v r.value) ≡ b → AreRecounts cmp (if b then once_more r g ∷ [] else r ∷ once v g ∷ [])
      cases true same = (tt, tt)
      cases false other = ((greater_back o v r.value (behind (cmp v r.value) above.0 other), tt), (tt, tt))
  turned_rise (r ∷ s ∷ rs) v g rise above = (
    turned_all (λ w. cmp r.value w ≡ Less) (s ∷ rs) v g rise.0 (up (cmp v r.value) refl),
    turned_rise (s ∷ rs) v g rise.1 above.1,
  )
    where
      up : (a : Ordering) → cmp v r.value ≡ a → cmp r.value v ≡ Less
      up Less e = let lt = sym (ap is_lt e) ∙ above.0 in absurd (cc)
      up Equal e =
          let less : cmp v s.value ≡ Less = o.congr v r.value s.value e ∙ rise.0.0 in
          let lt = sym (ap is_lt less) ∙ above.1.0 in absurd (cc)
      up Greater e = greater_back o v r.value e

  filtered_all : (P : Recount V → Type 0) (p : Recount V → Bool) (rs : List (Recount V)) → AllByRecursion P rs → AllByRecursion P (filter p rs)
  filtered_all P p [] all = tt
  filtered_all P p (r ∷ rs) all = cases (filtered_all P p rs all.1) (p r)
    where
      cases : AllByRecursion P (filter p rs) → (b : Bool) → AllByRecursion P (if b then r ∷ filter p rs else filter p rs)
      cases rest true = (all.0, rest)
      cases rest false = rest

  pub filtered_rise : (p : Recount V → Bool) (rs : List (Recount V)) → AreRecounts cmp rs → AreRecounts cmp (filter p rs)
  filtered_rise p [] rise = tt
  filtered_rise p (r ∷ rs) rise = cases (filtered_rise p rs rise.1) (p r)
    where
      cases : AreRecounts cmp (filter p rs) → (b : Bool) → AreRecounts cmp (if b then r ∷ filter p rs else filter p rs)
      cases rest true = (filtered_all (λ s. cmp r.value s.value ≡ Less) p rs rise.0, rest)
      cases rest false = rest

-- ---- keys

module _ {K V : Type 0} {kcmp : K → K → Ordering} {vcmp : V → V → Ordering} (ok : IsTotalOrder kcmp) (ov : IsTotalOrder vcmp) where
  -- the step is not less than any pair of the revision
  pub record IsBehindAll (s : Step K V) (r : Revision K V) : Type 0 where
    pub key : is_lt (kcmp s.key r.key) ≡ false
    pub values : is_eq (kcmp s.key r.key) ≡ true → IsBehind ov s.value r.recounts

  pub stepped_all : (P : K → Type 0) (rs : List (Revision K V)) (s : Step K V) → AllByRecursion (λ r. P r.key) rs → P s.key → AllByRecursion (λ r. P r.key) (with_step kcmp vcmp rs s)
  stepped_all P [] s all here = (here, tt)
  stepped_all P (r ∷ []) s all here = cases (is_eq (kcmp s.key r.key))
    where
      cases : (b : Bool) → AllByRecursion (λ (t : Revision K V). P t.key) (if b then record r { recounts = with_turn vcmp r.recounts s.value s.gains } ∷ [] else r ∷ first_of s ∷ [])
      cases true = (all.0, tt)
      cases false = (all.0, (here, tt))
  stepped_all P (r ∷ t ∷ rs) s all here = (all.0, stepped_all P (t ∷ rs) s all.1 here)

  stepped_rise : (rs : List (Revision K V)) (s : Step K V) → AreRevisions kcmp vcmp rs → AllByRecursion (IsBehindAll s) rs → AreRevisions kcmp vcmp (with_step kcmp vcmp rs s)
  stepped_rise [] s rise above = ((tt, tt), (tt, tt))
  stepped_rise (r ∷ []) s rise above = cases (is_eq (kcmp s.key r.key)) refl
    where
      cases : (b : Bool) → is_eq (kcmp s.key r.key) ≡ b → AreRevisions kcmp vcmp (if b then record r { recounts = with_turn vcmp r.recounts s.value s.gains } ∷ [] else r ∷ first_of s ∷ [])
      cases true same = (turned_rise ov r.recounts s.value s.gains rise.0 (above.0.values same), (tt, tt))
      cases false other = (rise.0, ((greater_back ok s.key r.key (behind (kcmp s.key r.key) above.0.key other), tt), ((tt, tt), (tt, tt))))
  stepped_rise (r ∷ t ∷ rs) s rise above = (
    rise.0,
    (
      stepped_all (λ k. kcmp r.key k ≡ Less) (t ∷ rs) s rise.1.0 (up (kcmp s.key r.key) refl),
      stepped_rise (t ∷ rs) s rise.1.1 above.1,
    ),
  )
    where
      up : (a : Ordering) → kcmp s.key r.key ≡ a → kcmp r.key s.key ≡ Less
      up Less e = let lt = sym (ap is_lt e) ∙ above.0.key in absurd (cc)
      up Equal e =
          let less : kcmp s.key t.key ≡ Less = ok.congr s.key r.key t.key e ∙ rise.1.0.0 in
          let lt = sym (ap is_lt less) ∙ above.1.0.key in absurd (cc)
      up Greater e = greater_back ok s.key r.key e

  -- a step that isn't less than another
  pub record IsNotBefore (u s : Step K V) : Type 0 where
    pub key : is_lt (kcmp u.key s.key) ≡ false
    pub value : is_eq (kcmp u.key s.key) ≡ true → is_lt (vcmp u.value s.value) ≡ false

  not_before : (u s : Step K V) → is_lt (step_cmp kcmp vcmp u s) ≡ false → IsNotBefore u s
  not_before u s not_less = record { key = keys (kcmp u.key s.key) refl; value = values (kcmp u.key s.key) refl }
    where
      keys : (a : Ordering) → kcmp u.key s.key ≡ a → is_lt (kcmp u.key s.key) ≡ false
      keys Less e = let less = sym (ap (λ a. is_lt (ordering_then a (vcmp u.value s.value))) e) ∙ not_less in absurd (cc)
      keys Equal e = ap is_lt e
      keys Greater e = ap is_lt e

      values : (a : Ordering) → kcmp u.key s.key ≡ a → is_eq (kcmp u.key s.key) ≡ true → is_lt (vcmp u.value s.value) ≡ false
      values Less e same = let no = sym (ap is_eq e) ∙ same in absurd (cc)
      values Equal e same = sym (ap (λ a. is_lt (ordering_then a (vcmp u.value s.value))) e) ∙ not_less
      values Greater e same = let no = sym (ap is_eq e) ∙ same in absurd (cc)

  stepped_behind : (rs : List (Revision K V)) (s u : Step K V) → AllByRecursion (IsBehindAll u) rs → IsNotBefore u s → AllByRecursion (IsBehindAll u) (with_step kcmp vcmp rs s)
  stepped_behind [] s u above next = (record { key = next.key; values = λ same. (next.value same, tt) }, tt)
  stepped_behind (r ∷ []) s u above next = cases (is_eq (kcmp s.key r.key)) refl
    where
      new : IsBehindAll u (first_of s)
      new = record { key = next.key; values = λ same. (next.value same, tt) }

      -- a key that ties with r's, to which s was put
      tied : is_eq (kcmp s.key r.key) ≡ true → is_eq (kcmp u.key r.key) ≡ true → is_eq (kcmp u.key s.key) ≡ true
      tied same here = ap is_eq (alike_right ok s.key r.key u.key (from_eq (kcmp s.key r.key) same)) ∙ here

      cases : (b : Bool) → is_eq (kcmp s.key r.key) ≡ b → AllByRecursion (IsBehindAll u) (if b then record r { recounts = with_turn vcmp r.recounts s.value s.gains } ∷ [] else r ∷ first_of s ∷ [])
      cases true same = (
        record {
          key = above.0.key;
          values = λ here. turned_all ov (λ w. is_lt (vcmp u.value w) ≡ false) r.recounts s.value s.gains (above.0.values here) (next.value (tied same here));
        },
        tt,
      )
      cases false other = (above.0, (new, tt))
  stepped_behind (r ∷ t ∷ rs) s u above next = (above.0, stepped_behind (t ∷ rs) s u above.1 next)

  -- each step isn't less than those before it
  abbrev pub AreSorted : List (Step K V) → Type 0
  AreSorted [] = Unit {0}
  AreSorted (s ∷ steps) = AllByRecursion (λ u. IsNotBefore u s) steps × AreSorted steps

  gathered_rise : (rs : List (Revision K V)) (steps : List (Step K V)) → AreRevisions kcmp vcmp rs → AllByRecursion (λ s. AllByRecursion (IsBehindAll s) rs) steps → AreSorted steps
      → AreRevisions kcmp vcmp (gathered kcmp vcmp rs steps)
  gathered_rise rs [] rise above sorted = rise
  gathered_rise rs (s ∷ steps) rise above sorted =
      gathered_rise (with_step kcmp vcmp rs s) steps (stepped_rise rs s rise above.0) (later steps above.1 sorted.0) sorted.1
    where
      later : (us : List (Step K V)) → AllByRecursion (λ u. AllByRecursion (IsBehindAll u) rs) us → AllByRecursion (λ u. IsNotBefore u s) us → AllByRecursion (λ u. AllByRecursion (IsBehindAll u) (with_step kcmp vcmp rs s)) us
      later [] all next = tt
      later (u ∷ us) all next = (stepped_behind rs s u all.0 next.0, later us all.1 next.1)

  pub settled_all : (P : K → Type 0) (rs : List (Revision K V)) → AllByRecursion (λ r. P r.key) rs → AllByRecursion (λ r. P r.key) (all_settled rs)
  settled_all P [] all = tt
  settled_all P (r ∷ rs) all = cases (settled_all P rs all.1) (filter is_change r.recounts)
    where
      cases : AllByRecursion (λ t. P t.key) (all_settled rs) → (f : List (Recount V)) → AllByRecursion (λ (t : Revision K V). P t.key) (if_some r.key f ++ all_settled rs)
      cases rest [] = rest
      cases rest (t ∷ f) = (all.0, rest)

  settled_rise : (rs : List (Revision K V)) → AreRevisions kcmp vcmp rs → AreRevisions kcmp vcmp (all_settled rs)
  settled_rise [] rise = tt
  settled_rise (r ∷ rs) rise = cases (settled_rise rs rise.1.1) (filter is_change r.recounts) (filtered_rise ov is_change r.recounts rise.0)
    where
      cases : AreRevisions kcmp vcmp (all_settled rs) → (f : List (Recount V)) → AreRecounts vcmp f → AreRevisions kcmp vcmp (if_some r.key f ++ all_settled rs)
      cases rest [] f_rise = rest
      cases rest (t ∷ f) f_rise = (f_rise, (settled_all (λ k. kcmp r.key k ≡ Less) rs rise.1.0, rest))

  -- ---- from what a sort ensures

  all_from : (P : Step K V → Type 0) (steps : List (Step K V)) → ((j : ℕ) (d : Step K V) → j < length steps → P (get_or steps j d)) → AllByRecursion P steps
  all_from P [] at = tt
  all_from P (s ∷ steps) at = (at 0 s (omega arith), all_from P steps (λ j d within. at (suc j) d (omega arith)))

  sorted_from : (steps : List (Step K V)) → ((i j : ℕ) (d : Step K V) → i ≤ j → j < length steps → is_lt (step_cmp kcmp vcmp (get_or steps j d) (get_or steps i d)) ≡ false) → AreSorted steps
  sorted_from [] far = tt
  sorted_from (s ∷ steps) far = (
    all_from (λ u. IsNotBefore u s) steps (λ j d within. not_before (get_or steps j d) s (far 0 (suc j) d (omega arith) (omega arith))),
    sorted_from steps (λ i j d up within. far (suc i) (suc j) d (omega arith) (omega arith)),
  )

  none_behind : (steps : List (Step K V)) → AllByRecursion (λ s. AllByRecursion (IsBehindAll s) []) steps
  none_behind [] = tt
  none_behind (s ∷ steps) = (tt, none_behind steps)

  pub steps_total : IsTotalOrder (step_cmp kcmp vcmp)
  steps_total = then_total (on_total (λ (s : Step K V). s.key) ok) (on_total (λ (s : Step K V). s.value) ov)

  pub steps_rise : (sorted : List (Step K V)) (rs : List (Revision K V)) → IsSortedBy (λ a b. is_lt (step_cmp kcmp vcmp a b)) sorted → rs ≡ all_settled (gathered kcmp vcmp [] sorted) → AreRevisions kcmp vcmp rs
  steps_rise sorted rs up is =
      let order = ranks_by steps_total (λ (s : Step K V). s) in
      let far = sorted_far (λ a b. is_lt (step_cmp kcmp vcmp a b)) order sorted up in
      subst (AreRevisions kcmp vcmp) (sym is) (settled_rise (gathered kcmp vcmp [] sorted) (gathered_rise [] sorted tt (none_behind sorted) (sorted_from sorted far)))
