-- Which flags a call may have.
use Rattle.std.proofs.Common.{◌≡◌, ◌≢◌, ℕ, Bool, true, false, cond, List, Option, Some, None, IsSome, option_map, refl, sym, ap, subst}
use Rattle.std.specs.Option.{option_and_then}
use Rattle.std.specs.Str.{bytes_eq}
use Rattle.std.proofs.lemmas.Cmp.{nat_list_eq_equiv}
use Rattle.ix_model.specs.declared.publication.Publication.{Publication}
use Rattle.ix_machine.specs.declared.event.Outcome.{Outcome}
use Rattle.ix_machine.specs.declared.event.Outcome.TheVariants.{Done, Written, Shared, Clash, Synced, Unsynced, NoUnit, At, Removed, Nothing, Fault, Lost, Damaged}
use Rattle.ix_machine.specs.Given.{Given, Lease, Put, Stage, Publish, Remove, Scan, Load, Install, Adopt, Release, Collect}
use Rattle.ix_machine.specs.Laws.{IsRefusal, MayFault, ChangesUnits, MayMiss, IsFlagOf}
use Rattle.ix_machine.specs.State.{State}
use Rattle.ix_machine.specs.Step.{Stepped, Row, row, step, ended, sure, flagged, change, dropped}
use Rattle.ix_machine.proofs.Cases.{some_row, put_cases, publish_cases, remove_cases, install_cases}
use Rattle.ix_machine.proofs.Lists.{same_bytes}

-- the endings of a call are those that its flags name
record HasFlags (given : Given) (r : Row) : Type 0 where
  faults : IsSome r.faulted → MayFault given
  unsynced : IsSome r.unsynced → ChangesUnits given
  misses : (name : List ℕ) → r.misses name ≡ true → MayMiss given name
  each_fault : (IsRefusal r.plain.outcome → ⊥) → MayFault given → IsSome r.faulted
  each_unsynced : (IsRefusal r.plain.outcome → ⊥) → ChangesUnits given → IsSome r.unsynced
  each_miss : (name : List ℕ) → MayMiss given name → (r.misses name ≡ true) × IsSome r.faulted
  none : ChangesUnits given → IsRefusal r.plain.outcome → (r.faulted ≡ None) × (r.unsynced ≡ None)

none_is : {X : Type 0} → false ≡ true → X
none_is e = absurd (cc)

module _ (given : Given) (kept : (name : List ℕ) → MayMiss given name → ⊥) where
  never : (name : List ℕ) → false ≡ true → MayMiss given name
  never name e = absurd (cc)

  sure-flags : (outcome : Outcome) (s : State) → (MayFault given → ⊥) → (ChangesUnits given → ⊥) → HasFlags given (sure outcome s)
  sure-flags outcome s no_fault no_change = record {
    faults = λ x. none_is x;
    unsynced = λ x. none_is x;
    misses = never;
    each_fault = λ made x. absurd (no_fault x);
    each_unsynced = λ made x. absurd (no_change x);
    each_miss = λ name x. absurd (kept name x);
    none = λ x refusal. absurd (no_change x);
  }

  fault-flags : (plain : Stepped) (faulted : State) → MayFault given → (ChangesUnits given → ⊥) → HasFlags given (record { plain = plain; faulted = Some faulted; unsynced = None; misses = λ _. false })
  fault-flags plain faulted may no_change = record {
    faults = λ x. may;
    unsynced = λ x. none_is x;
    misses = never;
    each_fault = λ made x. refl;
    each_unsynced = λ made x. absurd (no_change x);
    each_miss = λ name x. absurd (kept name x);
    none = λ x refusal. absurd (no_change x);
  }

  change-flags : (s faulted : State) (p : Publication) → MayFault given → ChangesUnits given → HasFlags given (change s faulted p)
  change-flags s faulted p may changes = record {
    faults = λ x. may;
    unsynced = λ x. changes;
    misses = never;
    each_fault = λ made x. refl;
    each_unsynced = λ made x. refl;
    each_miss = λ name x. absurd (kept name x);
    none = λ x refusal. absurd refusal;
  }

  refused-flags : (outcome : Outcome) (s : State) → IsRefusal outcome → HasFlags given (sure outcome s)
  refused-flags outcome s refusal = record {
    faults = λ x. none_is x;
    unsynced = λ x. none_is x;
    misses = never;
    each_fault = λ made x. absurd (made refusal);
    each_unsynced = λ made x. absurd (made refusal);
    each_miss = λ name x. absurd (kept name x);
    none = λ x refusal. (refl, refl);
  }

module _ (name_of : List ℕ → List ℕ) (s : State) (lane : ℕ) where
  has_flags : (given : Given) (r : Row) → row name_of s lane given ≡ Some r → HasFlags given r
  has_flags (Lease names) r e = some_row (HasFlags (Lease names)) s lane _ r e (sure-flags (Lease names) (λ name x. x) _ _ (λ x. x) (λ x. x))
  has_flags (Put body) r e = some_row (HasFlags (Put body)) s lane _ r e (put_cases (HasFlags (Put body)) s lane body
      (fault-flags (Put body) (λ name x. x) _ _ tt (λ x. x)) (fault-flags (Put body) (λ name x. x) _ _ tt (λ x. x)) (fault-flags (Put body) (λ name x. x) _ _ tt (λ x. x)))
  has_flags (Stage unit) r e = some_row (HasFlags (Stage unit)) s lane _ r e (fault-flags (Stage unit) (λ name x. x) _ _ tt (λ x. x))
  has_flags Publish r e = publish_cases (HasFlags Publish) s lane (λ name unit. change-flags Publish (λ name x. x) (dropped s lane) (dropped s lane) _ tt tt) (refused-flags Publish (λ name x. x) _ _ tt) name_of r e
  has_flags (Remove output) r e = some_row (HasFlags (Remove output)) s lane _ r e (remove_cases (HasFlags (Remove output)) s lane
      (refused-flags (Remove output) (λ name x. x) _ _ tt) (λ name. change-flags (Remove output) (λ name x. x) s s _ tt tt) output)
  has_flags Scan r e = some_row (HasFlags Scan) s lane _ r e (record {
    faults = λ x. tt;
    unsynced = λ x. none_is x;
    misses = λ name x. tt;
    each_fault = λ made x. refl;
    each_unsynced = λ made x. absurd x;
    each_miss = λ name x. (refl, refl);
    none = λ x refusal. absurd x;
  })
  has_flags (Load name purpose) r e = some_row (HasFlags (Load name purpose)) s lane _ r e (record {
    faults = λ x. tt;
    unsynced = λ x. none_is x;
    misses = λ other x. same_bytes name other x;
    each_fault = λ made x. refl;
    each_unsynced = λ made x. absurd x;
    each_miss = λ other x. (subst (λ (z : List ℕ). bytes_eq name z ≡ true) x (nat_list_eq_equiv.refl name), refl);
    none = λ x refusal. absurd x;
  })
  has_flags Install r e = install_cases (HasFlags Install) s lane (λ i is. sure-flags Install (λ name x. x) _ _ (λ x. x) (λ x. x)) r e
  has_flags Adopt r e = some_row (HasFlags Adopt) s lane _ r e (sure-flags Adopt (λ name x. x) _ _ (λ x. x) (λ x. x))
  has_flags Release r e = some_row (HasFlags Release) s lane _ r e (sure-flags Release (λ name x. x) _ _ (λ x. x) (λ x. x))
  has_flags Collect r e = some_row (HasFlags Collect) s lane _ r e (fault-flags Collect (λ name x. x) _ _ tt (λ x. x))

-- ---- an ending that there is

some_of : (outcome : Outcome) (o : Option State) (stepped : Stepped) → option_map (ended outcome) o ≡ Some stepped → IsSome o × (stepped.outcome ≡ outcome)
some_of outcome None stepped e = absurd (cc)
some_of outcome (Some t) stepped e = let same : ended outcome t ≡ stepped = cc in (refl, ap (λ (x : Stepped). x.outcome) (sym same))

missed_of : (b : Bool) (outcome : Outcome) (o : Option State) (stepped : Stepped) → cond b (option_map (ended outcome) o) None ≡ Some stepped → (b ≡ true) × (stepped.outcome ≡ outcome)
missed_of true outcome o stepped e = (refl, (some_of outcome o stepped e).1)
missed_of false outcome o stepped e = absurd (cc)

there : (outcome : Outcome) (o : Option State) → IsSome o → IsSome (option_map (ended outcome) o)
there outcome None some = none_is some
there outcome (Some t) some = refl

missed_there : (outcome : Outcome) (b : Bool) (o : Option State) → b ≡ true → IsSome o → IsSome (cond b (option_map (ended outcome) o) None)
missed_there outcome true o e some = there outcome o some
missed_there outcome false o e some = absurd (cc)

not_there : (outcome : Outcome) (b : Bool) (o : Option State) → o ≡ None → cond b (option_map (ended outcome) o) None ≡ None
not_there outcome true None e = refl
not_there outcome true (Some t) e = absurd (cc)
not_there outcome false o e = refl

-- ---- the clauses, for a row

module _ (given : Given) (r : Row) (has : HasFlags given r) where
  row-only : (flag : Outcome) (stepped : Stepped) → flagged r flag ≡ Some stepped → IsFlagOf given flag
  row-only Done stepped e = tt
  row-only Written stepped e = absurd (cc)
  row-only Shared stepped e = absurd (cc)
  row-only Clash stepped e = absurd (cc)
  row-only Synced stepped e = absurd (cc)
  row-only Unsynced stepped e = has.unsynced (some_of Unsynced r.unsynced stepped e).0
  row-only NoUnit stepped e = absurd (cc)
  row-only (At mark) stepped e = absurd (cc)
  row-only (Removed name) stepped e = absurd (cc)
  row-only Nothing stepped e = absurd (cc)
  row-only Fault stepped e = has.faults (some_of Fault r.faulted stepped e).0
  row-only (Lost name) stepped e = has.misses name (missed_of (r.misses name) (Lost name) r.faulted stepped e).0
  row-only (Damaged name) stepped e = has.misses name (missed_of (r.misses name) (Damaged name) r.faulted stepped e).0

  row-outcome : (flag : Outcome) (stepped : Stepped) → flagged r flag ≡ Some stepped → flag ≢ Done → stepped.outcome ≡ flag
  row-outcome Done stepped e apart = absurd (apart refl)
  row-outcome Written stepped e apart = absurd (cc)
  row-outcome Shared stepped e apart = absurd (cc)
  row-outcome Clash stepped e apart = absurd (cc)
  row-outcome Synced stepped e apart = absurd (cc)
  row-outcome Unsynced stepped e apart = (some_of Unsynced r.unsynced stepped e).1
  row-outcome NoUnit stepped e apart = absurd (cc)
  row-outcome (At mark) stepped e apart = absurd (cc)
  row-outcome (Removed name) stepped e apart = absurd (cc)
  row-outcome Nothing stepped e apart = absurd (cc)
  row-outcome Fault stepped e apart = (some_of Fault r.faulted stepped e).1
  row-outcome (Lost name) stepped e apart = (missed_of (r.misses name) (Lost name) r.faulted stepped e).1
  row-outcome (Damaged name) stepped e apart = (missed_of (r.misses name) (Damaged name) r.faulted stepped e).1

  row-each : (flag : Outcome) → (IsRefusal r.plain.outcome → ⊥) → IsFlagOf given flag → IsSome (flagged r flag)
  row-each Done made may = refl
  row-each Written made may = absurd may
  row-each Shared made may = absurd may
  row-each Clash made may = absurd may
  row-each Synced made may = absurd may
  row-each Unsynced made may = there Unsynced r.unsynced (has.each_unsynced made may)
  row-each NoUnit made may = absurd may
  row-each (At mark) made may = absurd may
  row-each (Removed name) made may = absurd may
  row-each Nothing made may = absurd may
  row-each Fault made may = there Fault r.faulted (has.each_fault made may)
  row-each (Lost name) made may = let m = has.each_miss name may in missed_there (Lost name) (r.misses name) r.faulted m.0 m.1
  row-each (Damaged name) made may = let m = has.each_miss name may in missed_there (Damaged name) (r.misses name) r.faulted m.0 m.1

  row-none : (flag : Outcome) → IsRefusal r.plain.outcome → ChangesUnits given → flag ≢ Done → flagged r flag ≡ None
  row-none Done refusal changes apart = absurd (apart refl)
  row-none Written refusal changes apart = refl
  row-none Shared refusal changes apart = refl
  row-none Clash refusal changes apart = refl
  row-none Synced refusal changes apart = refl
  row-none Unsynced refusal changes apart = ap (option_map (ended Unsynced)) (has.none changes refusal).1
  row-none NoUnit refusal changes apart = refl
  row-none (At mark) refusal changes apart = refl
  row-none (Removed name) refusal changes apart = refl
  row-none Nothing refusal changes apart = refl
  row-none Fault refusal changes apart = ap (option_map (ended Fault)) (has.none changes refusal).0
  row-none (Lost name) refusal changes apart = not_there (Lost name) (r.misses name) r.faulted (has.none changes refusal).0
  row-none (Damaged name) refusal changes apart = not_there (Damaged name) (r.misses name) r.faulted (has.none changes refusal).0

-- ---- the clauses, for a call

module _ (name_of : List ℕ → List ℕ) (s : State) (lane : ℕ) (given : Given) where
  pub flag_of_call : (flag : Outcome) (stepped : Stepped) → step name_of s lane given flag ≡ Some stepped → IsFlagOf given flag
  flag_of_call flag stepped e =
      (elim (row name_of s lane given) as (λ o. row name_of s lane given ≡ o → option_and_then (λ r. flagged r flag) o ≡ Some stepped → IsFlagOf given flag) [
        | None ↦ λ is e. absurd (cc)
        | Some r ↦ λ is e. row-only given r (has_flags name_of s lane given r is) flag stepped e
      ]) refl e

  pub flag_is_outcome : (flag : Outcome) (stepped : Stepped) → step name_of s lane given flag ≡ Some stepped → flag ≢ Done → stepped.outcome ≡ flag
  flag_is_outcome flag stepped e apart =
      (elim (row name_of s lane given) as (λ o. row name_of s lane given ≡ o → option_and_then (λ r. flagged r flag) o ≡ Some stepped → stepped.outcome ≡ flag) [
        | None ↦ λ is e. absurd (cc)
        | Some r ↦ λ is e. row-outcome given r (has_flags name_of s lane given r is) flag stepped e apart
      ]) refl e

  pub each_flag : (flag : Outcome) (plain : Stepped) → step name_of s lane given Done ≡ Some plain → (IsRefusal plain.outcome → ⊥) → IsFlagOf given flag → IsSome (step name_of s lane given flag)
  each_flag flag plain e made may =
      (elim (row name_of s lane given) as (λ o. row name_of s lane given ≡ o → option_and_then (λ r. flagged r Done) o ≡ Some plain → IsSome (option_and_then (λ r. flagged r flag) o)) [
        | None ↦ λ is e. absurd (cc)
        | Some r ↦ λ is e. let same : r.plain ≡ plain = cc in
            row-each given r (has_flags name_of s lane given r is) flag (subst (λ (t : Stepped). IsRefusal t.outcome → ⊥) (sym same) made) may
      ]) refl e

  pub no_flag : (flag : Outcome) (plain : Stepped) → step name_of s lane given Done ≡ Some plain → IsRefusal plain.outcome → ChangesUnits given → flag ≢ Done → step name_of s lane given flag ≡ None
  no_flag flag plain e refusal changes apart =
      (elim (row name_of s lane given) as (λ o. row name_of s lane given ≡ o → option_and_then (λ r. flagged r Done) o ≡ Some plain → option_and_then (λ r. flagged r flag) o ≡ None) [
        | None ↦ λ is e. refl
        | Some r ↦ λ is e. let same : r.plain ≡ plain = cc in
            row-none given r (has_flags name_of s lane given r is) flag (subst (λ (t : Stepped). IsRefusal t.outcome) (sym same) refusal) changes apart
      ]) refl e
