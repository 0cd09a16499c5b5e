-- A step of the machine makes one publication, or none.
use Rattle.std.proofs.Common.{◌≡◌, ◌≢◌, ◌⊎◌, inl, inr, ℕ, List, [], ◌∷◌, ◌++◌, Option, Some, IsSome, None, refl, sym, ap, subst, ◌∙◌}
use Rattle.std.proofs.lemmas.Option.{same_Some}
use Rattle.ix_record.specs.declared.body.Body.{Body}
use Rattle.ix_unit.specs.declared.value.UnitValue.{UnitValue}
use Rattle.ix_model.specs.declared.publication.Publication.{Publication}
use Rattle.ix_machine.specs.declared.event.Outcome.{Outcome}
use Rattle.ix_machine.specs.declared.event.Outcome.TheVariants.{Done, Written, Shared, Clash, Synced, Unsynced, NoUnit, At, Removed, Nothing, Fault, Lost, Damaged}
use Rattle.ix_machine.specs.declared.event.Purpose.{Purpose}
use Rattle.ix_machine.specs.declared.event.Purpose.TheVariants as purposes
use Rattle.ix_machine.specs.Given.{Given, Lease, Put, Stage, Publish, Remove, Scan, Load, Install, Adopt, Release, Collect}
use Rattle.ix_machine.specs.Laws.{ChangesUnits, IsFlagOf, IsPendingChange, IsRefusal, after_refusal}
use Rattle.ix_machine.specs.State.{State}
use Rattle.ix_machine.specs.Step.{Stepped, step}

-- what is taken of the machine
pub record ChangeLaws : Type 0 where
  pub lease : (name_of : List ℕ → List ℕ) (s : State) (lane : ℕ) (names : List (List ℕ)) (flag : Outcome) (stepped : Stepped) → step name_of s lane (Lease names) flag ≡ Some stepped → stepped.state ≡ record s { leases = stepped.state.leases }
  pub put : (name_of : List ℕ → List ℕ) (s : State) (lane : ℕ) (body : Body) (flag : Outcome) (stepped : Stepped) → step name_of s lane (Put body) flag ≡ Some stepped → stepped.state ≡ record s { records = stepped.state.records; leases = stepped.state.leases }
  pub stage : (name_of : List ℕ → List ℕ) (s : State) (lane : ℕ) (unit : UnitValue) (flag : Outcome) (stepped : Stepped) → step name_of s lane (Stage unit) flag ≡ Some stepped → stepped.state ≡ record s { leases = stepped.state.leases }
  pub scan : (name_of : List ℕ → List ℕ) (s : State) (lane : ℕ) (flag : Outcome) (stepped : Stepped) → step name_of s lane Scan flag ≡ Some stepped → stepped.state ≡ record s { import = stepped.state.import }
  pub load : (name_of : List ℕ → List ℕ) (s : State) (lane : ℕ) (name : List ℕ) (purpose : Purpose) (stepped : Stepped) → step name_of s lane (Load name purpose) Done ≡ Some stepped → stepped.state ≡ s
  pub install : (name_of : List ℕ → List ℕ) (s : State) (lane : ℕ) (flag : Outcome) (stepped : Stepped) → step name_of s lane Install flag ≡ Some stepped → stepped.state ≡ record s { import = stepped.state.import; current = stepped.state.current; held = stepped.state.held }
  pub adopt : (name_of : List ℕ → List ℕ) (s : State) (lane : ℕ) (flag : Outcome) (stepped : Stepped) → step name_of s lane Adopt flag ≡ Some stepped → stepped.state ≡ record s { held = stepped.state.held }
  pub release : (name_of : List ℕ → List ℕ) (s : State) (lane : ℕ) (flag : Outcome) (stepped : Stepped) → step name_of s lane Release flag ≡ Some stepped → stepped.state ≡ record s { held = stepped.state.held }
  pub collect : (name_of : List ℕ → List ℕ) (s : State) (lane : ℕ) (flag : Outcome) (stepped : Stepped) → step name_of s lane Collect flag ≡ Some stepped → stepped.state ≡ record s { records = stepped.state.records; pending = stepped.state.pending }
  pub refused : (name_of : List ℕ → List ℕ) (s : State) (lane : ℕ) (given : Given) (flag : Outcome) (stepped : Stepped) → step name_of s lane given flag ≡ Some stepped → IsRefusal stepped.outcome → stepped.state ≡ after_refusal s lane given
  pub unsynced : (name_of : List ℕ → List ℕ) (s : State) (lane : ℕ) (given : Given) (stepped : Stepped) → step name_of s lane given Unsynced ≡ Some stepped → (synced : Stepped) × (step name_of s lane given Done ≡ Some synced) × IsPendingChange s synced stepped.state
  pub only : (name_of : List ℕ → List ℕ) (s : State) (lane : ℕ) (given : Given) (flag : Outcome) (stepped : Stepped) → step name_of s lane given flag ≡ Some stepped → IsFlagOf given flag
  pub outcome : (name_of : List ℕ → List ℕ) (s : State) (lane : ℕ) (given : Given) (flag : Outcome) (stepped : Stepped) → step name_of s lane given flag ≡ Some stepped → flag ≢ Done → stepped.outcome ≡ flag
  pub each : (name_of : List ℕ → List ℕ) (s : State) (lane : ℕ) (given : Given) (flag : Outcome) (plain : Stepped) → step name_of s lane given Done ≡ Some plain → (IsRefusal plain.outcome → ⊥) → IsFlagOf given flag → IsSome (step name_of s lane given flag)

-- whether an outcome is a refusal
decide : (how : Outcome) → IsRefusal how ⊎ (IsRefusal how → ⊥)
decide Done = inr (λ h. h)
decide Written = inr (λ h. h)
decide Shared = inr (λ h. h)
decide Clash = inl tt
decide Synced = inr (λ h. h)
decide Unsynced = inr (λ h. h)
decide NoUnit = inl tt
decide (At mark) = inr (λ h. h)
decide (Removed name) = inr (λ h. h)
decide Nothing = inr (λ h. h)
decide Fault = inl tt
decide (Lost name) = inl tt
decide (Damaged name) = inl tt

some_of : {X : Type 0} (o : Option X) → IsSome o → (x : X) × (o ≡ Some x)
some_of None h = absurd (cc)
some_of (Some x) h = (x, refl)

-- a refused call leaves the publications
refused_keeps : (s : State) (lane : ℕ) (given : Given) → (after_refusal s lane given).publications ≡ s.publications
refused_keeps s lane (Lease names) = refl
refused_keeps s lane (Put body) = refl
refused_keeps s lane (Stage unit) = refl
refused_keeps s lane Publish = refl
refused_keeps s lane (Remove output) = refl
refused_keeps s lane Scan = refl
refused_keeps s lane (Load name purposes.Import) = refl
refused_keeps s lane (Load name purposes.Ask) = refl
refused_keeps s lane Install = refl
refused_keeps s lane Adopt = refl
refused_keeps s lane Release = refl
refused_keeps s lane Collect = refl

module _ (laws : ChangeLaws) (name_of : List ℕ → List ℕ) (s : State) (lane : ℕ) where
  abbrev pub OneOrNone : State → Type 0
  OneOrNone next = (next.publications ≡ s.publications) ⊎ ((publication : Publication) × (next.publications ≡ s.publications ++ publication ∷ []))

  same : (next other : State) → next ≡ other → other.publications ≡ s.publications → OneOrNone next
  same next other is are = inl (ap (λ (t : State). t.publications) is ∙ are)

  refusal : (given : Given) (flag : Outcome) (stepped : Stepped) → step name_of s lane given flag ≡ Some stepped → IsRefusal stepped.outcome → OneOrNone stepped.state
  refusal given flag stepped is refused = same stepped.state (after_refusal s lane given) (laws.refused name_of s lane given flag stepped is refused) (refused_keeps s lane given)

  -- behind a sync that failed there is one more
  pended : (given : Given) (stepped : Stepped) → step name_of s lane given Unsynced ≡ Some stepped → OneOrNone stepped.state
  pended given stepped is =
      let made = laws.unsynced name_of s lane given stepped is in
      inr (made.2.publication, ap (λ (t : State). t.publications) made.2.pending ∙ made.2.publishes)

  -- and behind a change that is made, the same
  changed : (given : Given) → ChangesUnits given → (stepped : Stepped) → step name_of s lane given Done ≡ Some stepped → OneOrNone stepped.state
  changed given changes stepped is = elim (decide stepped.outcome) as (λ _. OneOrNone stepped.state) [
    | inl refused ↦ refusal given Done stepped is refused
    | inr fine ↦
        let other = some_of (step name_of s lane given Unsynced) (laws.each name_of s lane given Unsynced stepped is fine changes) in
        let made = laws.unsynced name_of s lane given other.0 other.1 in
        let plain : stepped ≡ made.0 = same_Some stepped made.0 (sym is ∙ made.1) in
        inr (made.2.publication, ap (λ (t : Stepped). t.state.publications) plain ∙ made.2.publishes)
  ]

  flagged : (given : Given) (flag : Outcome) (stepped : Stepped) → IsRefusal flag → flag ≢ Done → step name_of s lane given flag ≡ Some stepped → OneOrNone stepped.state
  flagged given flag stepped refused other is = refusal given flag stepped is (subst IsRefusal (sym (laws.outcome name_of s lane given flag stepped is other)) refused)

  by_change : (given : Given) → ChangesUnits given → ((name : List ℕ) → IsFlagOf given (Lost name) → ⊥) → ((name : List ℕ) → IsFlagOf given (Damaged name) → ⊥) → (flag : Outcome) (stepped : Stepped) → step name_of s lane given flag ≡ Some stepped → OneOrNone stepped.state
  by_change given changes lost damaged Done stepped is = changed given changes stepped is
  by_change given changes lost damaged Written stepped is = absurd (laws.only name_of s lane given Written stepped is)
  by_change given changes lost damaged Shared stepped is = absurd (laws.only name_of s lane given Shared stepped is)
  by_change given changes lost damaged Clash stepped is = absurd (laws.only name_of s lane given Clash stepped is)
  by_change given changes lost damaged Synced stepped is = absurd (laws.only name_of s lane given Synced stepped is)
  by_change given changes lost damaged Unsynced stepped is = pended given stepped is
  by_change given changes lost damaged NoUnit stepped is = absurd (laws.only name_of s lane given NoUnit stepped is)
  by_change given changes lost damaged (At mark) stepped is = absurd (laws.only name_of s lane given (At mark) stepped is)
  by_change given changes lost damaged (Removed name) stepped is = absurd (laws.only name_of s lane given (Removed name) stepped is)
  by_change given changes lost damaged Nothing stepped is = absurd (laws.only name_of s lane given Nothing stepped is)
  by_change given changes lost damaged Fault stepped is = flagged given Fault stepped tt (λ e. cc) is
  by_change given changes lost damaged (Lost name) stepped is = absurd (lost name (laws.only name_of s lane given (Lost name) stepped is))
  by_change given changes lost damaged (Damaged name) stepped is = absurd (damaged name (laws.only name_of s lane given (Damaged name) stepped is))

  by_load : (name : List ℕ) (purpose : Purpose) (flag : Outcome) (stepped : Stepped) → step name_of s lane (Load name purpose) flag ≡ Some stepped → OneOrNone stepped.state
  by_load name purpose Done stepped is = same stepped.state s (laws.load name_of s lane name purpose stepped is) refl
  by_load name purpose Written stepped is = absurd (laws.only name_of s lane (Load name purpose) Written stepped is)
  by_load name purpose Shared stepped is = absurd (laws.only name_of s lane (Load name purpose) Shared stepped is)
  by_load name purpose Clash stepped is = absurd (laws.only name_of s lane (Load name purpose) Clash stepped is)
  by_load name purpose Synced stepped is = absurd (laws.only name_of s lane (Load name purpose) Synced stepped is)
  by_load name purpose Unsynced stepped is = absurd (laws.only name_of s lane (Load name purpose) Unsynced stepped is)
  by_load name purpose NoUnit stepped is = absurd (laws.only name_of s lane (Load name purpose) NoUnit stepped is)
  by_load name purpose (At mark) stepped is = absurd (laws.only name_of s lane (Load name purpose) (At mark) stepped is)
  by_load name purpose (Removed other) stepped is = absurd (laws.only name_of s lane (Load name purpose) (Removed other) stepped is)
  by_load name purpose Nothing stepped is = absurd (laws.only name_of s lane (Load name purpose) Nothing stepped is)
  by_load name purpose Fault stepped is = flagged (Load name purpose) Fault stepped tt (λ e. cc) is
  by_load name purpose (Lost other) stepped is = flagged (Load name purpose) (Lost other) stepped tt (λ e. cc) is
  by_load name purpose (Damaged other) stepped is = flagged (Load name purpose) (Damaged other) stepped tt (λ e. cc) is

  pub one_or_none : (given : Given) (flag : Outcome) (stepped : Stepped) → step name_of s lane given flag ≡ Some stepped → OneOrNone stepped.state
  one_or_none (Lease names) flag stepped is = same stepped.state (record s { leases = stepped.state.leases }) (laws.lease name_of s lane names flag stepped is) refl
  one_or_none (Put body) flag stepped is = same stepped.state (record s { records = stepped.state.records; leases = stepped.state.leases }) (laws.put name_of s lane body flag stepped is) refl
  one_or_none (Stage unit) flag stepped is = same stepped.state (record s { leases = stepped.state.leases }) (laws.stage name_of s lane unit flag stepped is) refl
  one_or_none Publish flag stepped is = by_change Publish tt (λ name h. h) (λ name h. h) flag stepped is
  one_or_none (Remove output) flag stepped is = by_change (Remove output) tt (λ name h. h) (λ name h. h) flag stepped is
  one_or_none Scan flag stepped is = same stepped.state (record s { import = stepped.state.import }) (laws.scan name_of s lane flag stepped is) refl
  one_or_none (Load name purpose) flag stepped is = by_load name purpose flag stepped is
  one_or_none Install flag stepped is = same stepped.state (record s { import = stepped.state.import; current = stepped.state.current; held = stepped.state.held }) (laws.install name_of s lane flag stepped is) refl
  one_or_none Adopt flag stepped is = same stepped.state (record s { held = stepped.state.held }) (laws.adopt name_of s lane flag stepped is) refl
  one_or_none Release flag stepped is = same stepped.state (record s { held = stepped.state.held }) (laws.release name_of s lane flag stepped is) refl
  one_or_none Collect flag stepped is = same stepped.state (record s { records = stepped.state.records; pending = stepped.state.pending }) (laws.collect name_of s lane flag stepped is) refl
