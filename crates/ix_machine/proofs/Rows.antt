-- What holds of each state that a call may leave holds of the one that it leaves.
use Rattle.std.proofs.Common.{◌≡◌, ℕ, Bool, true, false, cond, List, Option, Some, None, IfSome, option_map, refl, subst}
use Rattle.std.specs.Option.{option_and_then}
use Rattle.ix_machine.specs.declared.event.Outcome.{Outcome}
use Rattle.ix_machine.specs.declared.event.Outcome.TheVariants.{Done, Written, Shared, Clash, Synced, Unsynced, NoUnit, At, Removed, Nothing, Fault, Lost, Damaged}
use Rattle.ix_machine.specs.Given.{Given}
use Rattle.ix_machine.specs.State.{State}
use Rattle.ix_machine.specs.Step.{Stepped, Row, ended, flagged, row, step}

-- each state that the call may leave has the property
pub record Each (P : State → Type 0) (row : Row) : Type 0 where
  pub plain : P row.plain.state
  pub faulted : IfSome row.faulted P
  pub unsynced : IfSome row.unsynced P

module _ (P : State → Type 0) where
  behind : (outcome : Outcome) (o : Option State) (stepped : Stepped) → IfSome o P → option_map (ended outcome) o ≡ Some stepped → P stepped.state
  behind outcome None stepped h e = absurd (cc)
  behind outcome (Some s) stepped h e = let same : ended outcome s ≡ stepped = cc in subst (λ (t : Stepped). P t.state) same h

  missed : (b : Bool) (outcome : Outcome) (o : Option State) (stepped : Stepped) → IfSome o P → cond b (option_map (ended outcome) o) None ≡ Some stepped → P stepped.state
  missed true outcome o stepped h e = behind outcome o stepped h e
  missed false outcome o stepped h e = absurd (cc)

  pub each_left : (row : Row) (flag : Outcome) (stepped : Stepped) → Each P row → flagged row flag ≡ Some stepped → P stepped.state
  each_left row Done stepped each e = let same : row.plain ≡ stepped = cc in subst (λ (t : Stepped). P t.state) same each.plain
  each_left row Fault stepped each e = behind Fault row.faulted stepped each.faulted e
  each_left row Unsynced stepped each e = behind Unsynced row.unsynced stepped each.unsynced e
  each_left row (Lost name) stepped each e = missed (row.misses name) (Lost name) row.faulted stepped each.faulted e
  each_left row (Damaged name) stepped each e = missed (row.misses name) (Damaged name) row.faulted stepped each.faulted e
  each_left row Written stepped each e = absurd (cc)
  each_left row Shared stepped each e = absurd (cc)
  each_left row Clash stepped each e = absurd (cc)
  each_left row Synced stepped each e = absurd (cc)
  each_left row NoUnit stepped each e = absurd (cc)
  each_left row (At mark) stepped each e = absurd (cc)
  each_left row (Removed name) stepped each e = absurd (cc)
  each_left row Nothing stepped each e = absurd (cc)

  -- for each call that may be made
  pub each_stepped : (name_of : List ℕ → List ℕ) (s : State) (lane : ℕ) (given : Given) (flag : Outcome) (stepped : Stepped)
      → ((r : Row) → row name_of s lane given ≡ Some r → Each P r) → step name_of s lane given flag ≡ Some stepped → P stepped.state
  each_stepped name_of s lane given flag stepped each e =
      (elim (row name_of s lane given) as (λ o. row name_of s lane given ≡ o → option_and_then (λ r. flagged r flag) o ≡ Some stepped → P stepped.state) [
        | None ↦ λ is e. absurd (cc)
        | Some r ↦ λ is e. each_left r flag stepped (each r is) e
      ]) refl e
