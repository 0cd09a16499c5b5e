-- What one step more counts.
use Rattle.std.proofs.Common.{◌≡◌, ℕ, ◌+◌, ◌&&◌, Bool, true, false, not, List, [], ◌∷◌, ◌++◌, if◌then◌else◌, refl, sym, ap, ◌∙◌, arith}
use Rattle.std.specs.FinMap.{IsAntisymmetric}
use Rattle.std.specs.declared.cmp.Ordering.{Ordering}
use Rattle.std.specs.Ordering.{is_eq}
use Rattle.std.specs.Cmp.{IsTotalOrder}
use Rattle.std.proofs.lemmas.List.Sums.{sum_by_push}
use Rattle.ix_index.specs.declared.steps.Step.{Step}
use Rattle.ix_index.specs.Stepping.{is_of, gains_of, losses_of}
use Rattle.ix_index.proofs.Sorted.{from_eq, is_itself}

module _ {K V : Type 0} {kcmp : K → K → Ordering} {vcmp : V → V → Ordering} (ok : IsTotalOrder kcmp) (ov : IsTotalOrder vcmp) (exact_k : IsAntisymmetric kcmp) (exact_v : IsAntisymmetric vcmp) where
  gains_more : (steps : List (Step K V)) (step : Step K V) (key : K) (value : V) (n : ℕ) → ◌≡◌ {A = ℕ} (if is_of kcmp vcmp key value step && step.gains then 1 else 0) n
      → gains_of kcmp vcmp (steps ++ step ∷ []) key value ≡ gains_of kcmp vcmp steps key value + n
  gains_more steps step key value n is =
      sum_by_push (λ (s : Step K V). if is_of kcmp vcmp key value s && s.gains then 1 else 0) steps step ∙ ap (λ m. gains_of kcmp vcmp steps key value + m) is

  losses_more : (steps : List (Step K V)) (step : Step K V) (key : K) (value : V) (n : ℕ) → ◌≡◌ {A = ℕ} (if is_of kcmp vcmp key value step && not step.gains then 1 else 0) n
      → losses_of kcmp vcmp (steps ++ step ∷ []) key value ≡ losses_of kcmp vcmp steps key value + n
  losses_more steps step key value n is =
      sum_by_push (λ (s : Step K V). if is_of kcmp vcmp key value s && not s.gains then 1 else 0) steps step ∙ ap (λ m. losses_of kcmp vcmp steps key value + m) is

  own_pair : (step : Step K V) → is_of kcmp vcmp step.key step.value step ≡ true
  own_pair step = ap (λ b. b && is_eq (vcmp step.value step.value)) (is_itself ok step.key) ∙ is_itself ov step.value

  other_pair : (step : Step K V) (key : K) (value : V) → (step.key ≡ key → step.value ≡ value → ⊥) → is_of kcmp vcmp key value step ≡ false
  other_pair step key value apart = cases (is_eq (kcmp key step.key)) (is_eq (vcmp value step.value)) refl refl
    where
      cases : (a b : Bool) → is_eq (kcmp key step.key) ≡ a → is_eq (vcmp value step.value) ≡ b → (a && b) ≡ false
      cases true true p q = absurd (apart (sym (exact_k key step.key (from_eq (kcmp key step.key) p))) (sym (exact_v value step.value (from_eq (vcmp value step.value) q))))
      cases true false p q = refl
      cases false b p q = refl

  no_more : (m n : ℕ) → m ≡ n + 0 → m ≡ n
  no_more m n e = omega arith

  pub a_gain : (steps : List (Step K V)) (step : Step K V) → step.gains ≡ true
      → (gains_of kcmp vcmp (steps ++ step ∷ []) step.key step.value ≡ gains_of kcmp vcmp steps step.key step.value + 1)
      × (losses_of kcmp vcmp (steps ++ step ∷ []) step.key step.value ≡ losses_of kcmp vcmp steps step.key step.value)
  a_gain steps step gains = (
    gains_more steps step step.key step.value 1 (rw (own_pair step, gains) refl),
    no_more _ _ (losses_more steps step step.key step.value 0 (rw (own_pair step, gains) refl)),
  )

  pub a_loss : (steps : List (Step K V)) (step : Step K V) → step.gains ≡ false
      → (gains_of kcmp vcmp (steps ++ step ∷ []) step.key step.value ≡ gains_of kcmp vcmp steps step.key step.value)
      × (losses_of kcmp vcmp (steps ++ step ∷ []) step.key step.value ≡ losses_of kcmp vcmp steps step.key step.value + 1)
  a_loss steps step loses = (
    no_more _ _ (gains_more steps step step.key step.value 0 (rw (own_pair step, loses) refl)),
    losses_more steps step step.key step.value 1 (rw (own_pair step, loses) refl),
  )

  pub another : (steps : List (Step K V)) (step : Step K V) (key : K) (value : V) → (step.key ≡ key → step.value ≡ value → ⊥)
      → (gains_of kcmp vcmp (steps ++ step ∷ []) key value ≡ gains_of kcmp vcmp steps key value)
      × (losses_of kcmp vcmp (steps ++ step ∷ []) key value ≡ losses_of kcmp vcmp steps key value)
  another steps step key value apart = (
    no_more _ _ (gains_more steps step key value 0 (rw (other_pair step key value apart) refl)),
    no_more _ _ (losses_more steps step key value 0 (rw (other_pair step key value apart) refl)),
  )
