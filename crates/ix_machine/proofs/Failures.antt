-- What a call leaves that fails.
use Rattle.std.proofs.Common.{◌≡◌, ◌≢◌, ℕ, List, Some, sym, subst}
use Rattle.ix_machine.specs.declared.event.Outcome.{Outcome}
use Rattle.ix_machine.specs.declared.event.Outcome.TheVariants.{Done, Fault, Lost, Damaged}
use Rattle.ix_machine.specs.Given.{Given}
use Rattle.ix_machine.specs.Laws.{IsRefusal, after_refusal}
use Rattle.ix_machine.specs.State.{State}
use Rattle.ix_machine.specs.Step.{Stepped, step}
use Rattle.ix_machine.proofs.Flags.{flag_is_outcome}
use Rattle.ix_machine.proofs.Refusals.{refusal_leaves}

module _ (name_of : List ℕ → List ℕ) (s : State) (lane : ℕ) (given : Given) where
  by_flag : (flag : Outcome) (stepped : Stepped) → flag ≢ Done → IsRefusal flag → step name_of s lane given flag ≡ Some stepped → stepped.state ≡ after_refusal s lane given
  by_flag flag stepped apart refusal e =
      refusal_leaves name_of s lane given flag stepped e (subst IsRefusal (sym (flag_is_outcome name_of s lane given flag stepped e apart)) refusal)

  pub failure_leaves : (stepped : Stepped) → step name_of s lane given Fault ≡ Some stepped → stepped.state ≡ after_refusal s lane given
  failure_leaves stepped e = by_flag Fault stepped (λ same. cc) tt e

  pub loss_leaves : (name : List ℕ) (stepped : Stepped) → step name_of s lane given (Lost name) ≡ Some stepped → stepped.state ≡ after_refusal s lane given
  loss_leaves name stepped e = by_flag (Lost name) stepped (λ same. cc) tt e

  pub damage_leaves : (name : List ℕ) (stepped : Stepped) → step name_of s lane given (Damaged name) ≡ Some stepped → stepped.state ≡ after_refusal s lane given
  damage_leaves name stepped e = by_flag (Damaged name) stepped (λ same. cc) tt e
