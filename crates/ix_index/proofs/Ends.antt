-- What one step does to the last recount or revision of a list.
use Rattle.std.proofs.Common.{◌≡◌, Bool, true, false, List, [], ◌∷◌, ◌++◌, if◌then◌else◌, refl, sym, ap, ◌∙◌, append_assoc}
use Rattle.std.specs.declared.cmp.Ordering.{Ordering}
use Rattle.std.specs.Ordering.{is_eq}
use Rattle.ix_index.specs.declared.revisions.Recount.{Recount}
use Rattle.ix_index.specs.declared.revisions.Revision.{Revision}
use Rattle.ix_index.specs.declared.steps.Step.{Step}
use Rattle.ix_index.specs.Gathering.{once, once_more, with_turn, first_of, with_step, gathered}

module _ {V : Type 0} (cmp : V → V → Ordering) where
  turn_end : (front : List (Recount V)) (r : Recount V) (v : V) (g : Bool) → with_turn cmp (front ++ r ∷ []) v g ≡ front ++ with_turn cmp (r ∷ []) v g
  turn_end [] r v g = refl
  turn_end (x ∷ []) r v g = refl
  turn_end (x ∷ y ∷ zs) r v g = ap (λ rs. x ∷ rs) (turn_end (y ∷ zs) r v g)

  pub turn_same : (old front new : List (Recount V)) (r more : Recount V) (v : V) (g : Bool) → old ≡ front ++ r ∷ [] → is_eq (cmp v r.value) ≡ true → more ≡ once_more r g → new ≡ front ++ more ∷ [] → new ≡ with_turn cmp old v g
  turn_same old front new r more v g is same made pushed =
      pushed ∙ ap (λ x. front ++ x ∷ []) made
      ∙ sym (ap (λ rs. with_turn cmp rs v g) is ∙ turn_end front r v g ∙ ap (λ b. front ++ (if b then once_more r g ∷ [] else r ∷ once v g ∷ [])) same)

  pub turn_new : (old front new : List (Recount V)) (r other : Recount V) (v : V) (g : Bool) → old ≡ front ++ r ∷ [] → is_eq (cmp v r.value) ≡ false → other ≡ once v g → new ≡ (front ++ r ∷ []) ++ other ∷ [] → new ≡ with_turn cmp old v g
  turn_new old front new r other v g is apart made pushed =
      pushed ∙ ap (λ x. (front ++ r ∷ []) ++ x ∷ []) made ∙ append_assoc front (r ∷ []) (once v g ∷ [])
      ∙ sym (ap (λ rs. with_turn cmp rs v g) is ∙ turn_end front r v g ∙ ap (λ b. front ++ (if b then once_more r g ∷ [] else r ∷ once v g ∷ [])) apart)

module _ {K V : Type 0} (kcmp : K → K → Ordering) (vcmp : V → V → Ordering) where
  step_end : (front : List (Revision K V)) (r : Revision K V) (s : Step K V) → with_step kcmp vcmp (front ++ r ∷ []) s ≡ front ++ with_step kcmp vcmp (r ∷ []) s
  step_end [] r s = refl
  step_end (x ∷ []) r s = refl
  step_end (x ∷ y ∷ zs) r s = ap (λ rs. x ∷ rs) (step_end (y ∷ zs) r s)

  pub step_same : (old front new : List (Revision K V)) (r : Revision K V) (recounts : List (Recount V)) (s : Step K V) → old ≡ front ++ r ∷ [] → is_eq (kcmp s.key r.key) ≡ true
      → recounts ≡ with_turn vcmp r.recounts s.value s.gains → new ≡ front ++ record { key = r.key; recounts = recounts } ∷ [] → new ≡ with_step kcmp vcmp old s
  step_same old front new r recounts s is same made pushed =
      pushed ∙ ap (λ (rs : List (Recount V)). front ++ record { key = r.key; recounts = rs } ∷ []) made
      ∙ sym (ap (λ rs. with_step kcmp vcmp rs s) is ∙ step_end front r s
      ∙ ap (λ b. front ++ (if b then record r { recounts = with_turn vcmp r.recounts s.value s.gains } ∷ [] else r ∷ first_of s ∷ [])) same)

  pub step_new : (old front new : List (Revision K V)) (r other : Revision K V) (s : Step K V) → old ≡ front ++ r ∷ [] → is_eq (kcmp s.key r.key) ≡ false → other ≡ first_of s
      → new ≡ (front ++ r ∷ []) ++ other ∷ [] → new ≡ with_step kcmp vcmp old s
  step_new old front new r other s is apart made pushed =
      pushed ∙ ap (λ x. (front ++ r ∷ []) ++ x ∷ []) made ∙ append_assoc front (r ∷ []) (first_of s ∷ [])
      ∙ sym (ap (λ rs. with_step kcmp vcmp rs s) is ∙ step_end front r s
      ∙ ap (λ b. front ++ (if b then record r { recounts = with_turn vcmp r.recounts s.value s.gains } ∷ [] else r ∷ first_of s ∷ [])) apart)

  -- the steps so far, and one more
  pub gathered_more : (rs : List (Revision K V)) (steps : List (Step K V)) (s : Step K V) → gathered kcmp vcmp rs (steps ++ s ∷ []) ≡ with_step kcmp vcmp (gathered kcmp vcmp rs steps) s
  gathered_more rs [] s = refl
  gathered_more rs (t ∷ steps) s = gathered_more (with_step kcmp vcmp rs t) steps s
