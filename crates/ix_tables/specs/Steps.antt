-- What facts make an index do, and when an index is that of some facts.
use Rattle.std.specs.Prelude.{◌≡◌, ℕ, Bool, List}
use Rattle.std.specs.declared.cmp.Ordering.{Ordering}
use Rattle.ix_index.specs.declared.steps.Step.{Step}
use Rattle.ix_index.specs.Counted.{count_of, IsIndex}
use Rattle.ix_outline.specs.Balance.{times}

module _ {K V : Type 0} where
  -- the step of a fact that comes, or that goes
  abbrev pub step_of : Bool → K × V → Step K V
  step_of gains fact = record { key = fact.0; value = fact.1; gains = gains }

module _ {K V : Type 0} (kcmp : K → K → Ordering) (vcmp : V → V → Ordering) where
  -- the index counts each pair as often as the facts give it
  pub record IsIndexOf (index : List (K × List (V × ℕ))) (facts : List (K × V)) : Type 0 where
    pub sound : IsIndex kcmp vcmp index
    pub each : (key : K) (value : V) → count_of kcmp vcmp index key value ≡ times kcmp vcmp key value facts
