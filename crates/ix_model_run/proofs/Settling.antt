-- Asks that are answered one after the other.
use Rattle.std.proofs.Common.{◌≡◌, ℕ, true, List, [], ◌∷◌, drop, Option, Some, None, option_map, option_and_then, refl, ap}
use Rattle.std.specs.Prelude.{unwrap_or}
use Rattle.ix_model.specs.Units.{Units}
use Rattle.ix_lanes.specs.declared.answered.AskResult.{AskResult}
use Rattle.ix_lanes.specs.Progress.{Progress, answered, ended_at, is_ask, is_asking, settled, settled_over}
use Rattle.ix_lanes.specs.Tasks.{Task, Build, Remove, Poll, Refresh, Ask, Release, Collect, kind_of}
use Rattle.ix_model_run.specs.Settling.{asked_by, ends}

module _ (seen : ℕ → Units) where
  waits_over : (tasks : List Task) (p : Progress) → option_and_then (λ query. ended_at seen query p.held p.loaded) (asked_by tasks) ≡ None → settled_over seen tasks p ≡ p
  waits_over [] p e = refl
  waits_over (Build job ∷ tasks) p e = refl
  waits_over (Remove output ∷ tasks) p e = refl
  waits_over (Poll ∷ tasks) p e = refl
  waits_over (Refresh ∷ tasks) p e = refl
  waits_over (Ask query ∷ tasks) p e = ap (λ (o : Option AskResult). unwrap_or (option_map (λ ended. settled_over seen tasks (answered ended p)) o) p) e
  waits_over (Release ∷ tasks) p e = refl
  waits_over (Collect ∷ tasks) p e = refl

  goes_over : (tasks : List Task) (p : Progress) (ended : AskResult) → option_and_then (λ query. ended_at seen query p.held p.loaded) (asked_by tasks) ≡ Some ended
      → settled_over seen tasks p ≡ settled_over seen (drop 1 tasks) (answered ended p)
  goes_over [] p ended e = absurd (cc)
  goes_over (Build job ∷ tasks) p ended e = absurd (cc)
  goes_over (Remove output ∷ tasks) p ended e = absurd (cc)
  goes_over (Poll ∷ tasks) p ended e = absurd (cc)
  goes_over (Refresh ∷ tasks) p ended e = absurd (cc)
  goes_over (Ask query ∷ tasks) p ended e = ap (λ (o : Option AskResult). unwrap_or (option_map (λ ended. settled_over seen tasks (answered ended p)) o) p) e
  goes_over (Release ∷ tasks) p ended e = absurd (cc)
  goes_over (Collect ∷ tasks) p ended e = absurd (cc)

  asks_over : (tasks : List Task) (p : Progress) (ended : AskResult) → option_and_then (λ query. ended_at seen query p.held p.loaded) (asked_by tasks) ≡ Some ended → is_ask (kind_of tasks) ≡ true
  asks_over [] p ended e = absurd (cc)
  asks_over (Build job ∷ tasks) p ended e = absurd (cc)
  asks_over (Remove output ∷ tasks) p ended e = absurd (cc)
  asks_over (Poll ∷ tasks) p ended e = absurd (cc)
  asks_over (Refresh ∷ tasks) p ended e = absurd (cc)
  asks_over (Ask query ∷ tasks) p ended e = refl
  asks_over (Release ∷ tasks) p ended e = absurd (cc)
  asks_over (Collect ∷ tasks) p ended e = absurd (cc)

  pub waits : (p : Progress) → ends seen p ≡ None → settled seen p ≡ p
  waits p e = waits_over p.tasks p e

  pub goes : (p : Progress) (ended : AskResult) → ends seen p ≡ Some ended → settled seen p ≡ settled seen (answered ended p)
  goes p ended e = goes_over p.tasks p ended e

  pub asks : (p : Progress) (ended : AskResult) → ends seen p ≡ Some ended → is_asking p ≡ true
  asks p ended e = asks_over p.tasks p ended e
