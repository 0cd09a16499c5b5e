-- What a refusal leaves, and a change that isn't synced.
use Rattle.std.proofs.Common.{◌≡◌, ℕ, Bool, true, false, cond, List, [], ◌∷◌, Option, Some, None, IfSome, option_map, refl, sym, subst}
use Rattle.std.specs.Option.{option_and_then}
use Rattle.ix_machine.specs.declared.event.Outcome.{Outcome}
use Rattle.ix_machine.specs.declared.event.Outcome.TheVariants.{Done, Written, Shared, Clash, Synced, Unsynced, NoUnit, At, Removed, Nothing, Fault, Lost, Damaged}
use Rattle.ix_machine.specs.declared.event.Purpose.{Purpose}
use Rattle.ix_machine.specs.declared.event.Purpose.TheVariants as purposes
use Rattle.ix_machine.specs.Given.{Given, Lease, Put, Stage, Publish, Remove, Scan, Load, Install, Adopt, Release, Collect}
use Rattle.ix_machine.specs.Laws.{IsRefusal, after_refusal, IsPendingChange}
use Rattle.ix_machine.specs.Needs.{loose}
use Rattle.ix_machine.specs.State.{State}
use Rattle.ix_machine.specs.Step.{Stepped, Row, ended, flagged, row, step, dropped, collect_first}
use Rattle.ix_machine.specs.Step as calls
use Rattle.ix_machine.proofs.Cases.{some_row, put_cases, publish_cases, remove_cases, install_cases}

-- ---- refusals

-- wherever the call is refused, it leaves this state
record Refuses (left : State) (row : Row) : Type 0 where
  plain : IsRefusal row.plain.outcome → row.plain.state ≡ left
  faulted : IfSome row.faulted (λ t. t ≡ left)

module _ (left : State) where
  behind : (outcome : Outcome) (o : Option State) (stepped : Stepped) → IfSome o (λ t. t ≡ left) → option_map (ended outcome) o ≡ Some stepped → stepped.state ≡ left
  behind outcome None stepped h e = absurd (cc)
  behind outcome (Some t) stepped h e = let same : ended outcome t ≡ stepped = cc in subst (λ (x : Stepped). x.state ≡ left) same h

  missed : (b : Bool) (outcome : Outcome) (o : Option State) (stepped : Stepped) → IfSome o (λ t. t ≡ left) → cond b (option_map (ended outcome) o) None ≡ Some stepped → stepped.state ≡ left
  missed true outcome o stepped h e = behind outcome o stepped h e
  missed false outcome o stepped h e = absurd (cc)

  -- a sync that failed is no refusal
  not_refused : (o : Option State) (stepped : Stepped) → option_map (ended Unsynced) o ≡ Some stepped → IsRefusal stepped.outcome → ⊥
  not_refused None stepped e refusal = cc
  not_refused (Some t) stepped e refusal = let same : ended Unsynced t ≡ stepped = cc in subst (λ (x : Stepped). IsRefusal x.outcome) (sym same) refusal

  refused : (r : Row) (flag : Outcome) (stepped : Stepped) → Refuses left r → flagged r flag ≡ Some stepped → IsRefusal stepped.outcome → stepped.state ≡ left
  refused r Done stepped h e refusal = let same : r.plain ≡ stepped = cc in subst (λ (x : Stepped). IsRefusal x.outcome → x.state ≡ left) same h.plain refusal
  refused r Fault stepped h e refusal = behind Fault r.faulted stepped h.faulted e
  refused r Unsynced stepped h e refusal = absurd (not_refused r.unsynced stepped e refusal)
  refused r (Lost name) stepped h e refusal = missed (r.misses name) (Lost name) r.faulted stepped h.faulted e
  refused r (Damaged name) stepped h e refusal = missed (r.misses name) (Damaged name) r.faulted stepped h.faulted e
  refused r Written stepped h e refusal = absurd (cc)
  refused r Shared stepped h e refusal = absurd (cc)
  refused r Clash stepped h e refusal = absurd (cc)
  refused r Synced stepped h e refusal = absurd (cc)
  refused r NoUnit stepped h e refusal = absurd (cc)
  refused r (At mark) stepped h e refusal = absurd (cc)
  refused r (Removed name) stepped h e refusal = absurd (cc)
  refused r Nothing stepped h e refusal = absurd (cc)

module _ (name_of : List ℕ → List ℕ) (s : State) (lane : ℕ) where
  never : {X : Type 0} → ⊥ → X
  never x = absurd x

  load_refuses : (name : List ℕ) (purpose : Purpose) → Refuses (after_refusal s lane (Load name purpose)) (calls.load s name purpose)
  load_refuses name purposes.Import = record { plain = λ x. absurd x; faulted = refl }
  load_refuses name purposes.Ask = record { plain = λ x. absurd x; faulted = refl }

  collected_refuses : (names : List (List ℕ)) → IsRefusal (collect_first s names).outcome → (collect_first s names).state ≡ s
  collected_refuses [] x = absurd x
  collected_refuses (name ∷ names) x = absurd x

  refuses : (given : Given) (r : Row) → row name_of s lane given ≡ Some r → Refuses (after_refusal s lane given) r
  refuses (Lease names) r e = some_row (Refuses s) s lane _ r e (record { plain = λ x. absurd x; faulted = tt })
  refuses (Put body) r e = some_row (Refuses (dropped s lane)) s lane _ r e (put_cases (Refuses (dropped s lane)) s lane body
      (record { plain = λ x. absurd x; faulted = refl }) (record { plain = λ x. absurd x; faulted = refl }) (record { plain = λ x. refl; faulted = refl }))
  refuses (Stage unit) r e = some_row (Refuses (dropped s lane)) s lane _ r e (record { plain = λ x. absurd x; faulted = refl })
  refuses Publish r e = publish_cases (Refuses (dropped s lane)) s lane (λ name unit. record { plain = λ x. absurd x; faulted = refl }) (record { plain = λ x. refl; faulted = tt }) name_of r e
  refuses (Remove output) r e = some_row (Refuses s) s lane _ r e (remove_cases (Refuses s) s lane (record { plain = λ x. refl; faulted = tt }) (λ name. record { plain = λ x. absurd x; faulted = refl }) output)
  refuses Scan r e = some_row (Refuses (after_refusal s lane Scan)) s lane _ r e (record { plain = λ x. absurd x; faulted = refl })
  refuses (Load name purpose) r e = some_row (Refuses (after_refusal s lane (Load name purpose))) s lane _ r e (load_refuses name purpose)
  refuses Install r e = install_cases (Refuses s) s lane (λ i is. record { plain = λ x. absurd x; faulted = tt }) r e
  refuses Adopt r e = some_row (Refuses s) s lane _ r e (record { plain = λ x. absurd x; faulted = tt })
  refuses Release r e = some_row (Refuses s) s lane _ r e (record { plain = λ x. absurd x; faulted = tt })
  refuses Collect r e = some_row (Refuses s) s lane _ r e (record { plain = collected_refuses (loose s); faulted = refl })

  pub refusal_leaves : (given : Given) (flag : Outcome) (stepped : Stepped) → step name_of s lane given flag ≡ Some stepped → IsRefusal stepped.outcome → stepped.state ≡ after_refusal s lane given
  refusal_leaves given flag stepped e refusal =
      (elim (row name_of s lane given) as (λ o. row name_of s lane given ≡ o → option_and_then (λ r. flagged r flag) o ≡ Some stepped → stepped.state ≡ after_refusal s lane given) [
        | None ↦ λ is e. absurd (cc)
        | Some r ↦ λ is e. refused (after_refusal s lane given) r flag stepped (refuses given r is) e refusal
      ]) refl e

  -- ---- changes that pend

  abbrev Pends : Row → Type 0
  Pends r = IfSome r.unsynced (IsPendingChange s r.plain)

  pends : (given : Given) (r : Row) → row name_of s lane given ≡ Some r → Pends r
  pends (Lease names) r e = some_row Pends s lane _ r e tt
  pends (Put body) r e = some_row Pends s lane _ r e (put_cases Pends s lane body tt tt tt)
  pends (Stage unit) r e = some_row Pends s lane _ r e tt
  pends Publish r e = publish_cases Pends s lane (λ name unit. record { outcome = refl; pending = refl; settles = refl; publication = _; publishes = refl }) tt name_of r e
  pends (Remove output) r e = some_row Pends s lane _ r e (remove_cases Pends s lane tt (λ name. record { outcome = refl; pending = refl; settles = refl; publication = _; publishes = refl }) output)
  pends Scan r e = some_row Pends s lane _ r e tt
  pends (Load name purpose) r e = some_row Pends s lane _ r e tt
  pends Install r e = install_cases Pends s lane (λ i is. tt) r e
  pends Adopt r e = some_row Pends s lane _ r e tt
  pends Release r e = some_row Pends s lane _ r e tt
  pends Collect r e = some_row Pends s lane _ r e tt

  unsynced_row : (r : Row) (stepped : Stepped) → Pends r → option_map (ended Unsynced) r.unsynced ≡ Some stepped → IsPendingChange s r.plain stepped.state
  unsynced_row r stepped h e = by_state r.unsynced h e
    where
      by_state : (o : Option State) → IfSome o (IsPendingChange s r.plain) → option_map (ended Unsynced) o ≡ Some stepped → IsPendingChange s r.plain stepped.state
      by_state None h e = absurd (cc)
      by_state (Some t) h e = let same : ended Unsynced t ≡ stepped = cc in subst (λ (x : Stepped). IsPendingChange s r.plain x.state) same h

  pub unsynced_pends : (given : Given) (stepped : Stepped) → step name_of s lane given Unsynced ≡ Some stepped
      → (synced : Stepped) × (step name_of s lane given Done ≡ Some synced) × IsPendingChange s synced stepped.state
  unsynced_pends given stepped e =
      (elim (row name_of s lane given) as (λ o. row name_of s lane given ≡ o → option_and_then (λ r. flagged r Unsynced) o ≡ Some stepped
      → (synced : Stepped) × (option_and_then (λ r. flagged r Done) o ≡ Some synced) × IsPendingChange s synced stepped.state) [
        | None ↦ λ is e. absurd (cc)
        | Some r ↦ λ is e. (r.plain, refl, unsynced_row r stepped (pends given r is) e)
      ]) refl e
