-- Single steps: a pair counts once more or once less.
use Rattle.std.specs.Prelude.{ℕ, Bool, not, ◌&&◌, List}
use Rattle.std.specs.List.{count_by}
use Rattle.std.specs.declared.cmp.Ordering.{Ordering}
use Rattle.std.specs.Ordering.{is_eq}
use Rattle.ix_index.specs.declared.steps.Step.{Step}

module _ {K V : Type 0} (kcmp : K → K → Ordering) (vcmp : V → V → Ordering) where
  -- whether the step is one of the pair
  abbrev pub is_of : K → V → Step K V → Bool
  is_of key value step = is_eq (kcmp key step.key) && is_eq (vcmp value step.value)

  -- how often a pair gains, and how often it loses
  abbrev pub gains_of : List (Step K V) → K → V → ℕ
  gains_of steps key value = count_by (λ step. is_of key value step && step.gains) steps

  abbrev pub losses_of : List (Step K V) → K → V → ℕ
  losses_of steps key value = count_by (λ step. is_of key value step && not step.gains) steps
