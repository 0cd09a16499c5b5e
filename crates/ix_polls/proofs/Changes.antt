-- A step that is no poll's leaves the import as it is.
use Rattle.std.proofs.Common.{◌≡◌, ℕ, Bool, true, false, cond, List, ◌++◌, Option, Some, None, refl, sym, ap, ◌∙◌}
use Rattle.std.specs.Option.{option_map}
use Rattle.std.specs.Str.{bytes_eq}
use Rattle.std.proofs.lemmas.Option.{same_Some}
use Rattle.ix_record.specs.declared.body.Body.{Body}
use Rattle.ix_unit.specs.declared.value.UnitValue.{UnitValue}
use Rattle.ix_machine.specs.declared.event.Outcome.{Outcome}
use Rattle.ix_machine.specs.declared.event.Outcome.TheVariants.{Done, Written, Shared, Clash, Synced, Unsynced, NoUnit, At, Removed, Nothing, Fault, Lost, Damaged}
use Rattle.ix_machine.specs.declared.event.Purpose.TheVariants as purpose
use Rattle.ix_machine.specs.Given.{Given, Lease, Put, Stage, Publish, Remove, Scan, Load, Install, Adopt, Release, Collect}
use Rattle.ix_machine.specs.State.{State}
use Rattle.ix_machine.specs.Step.{Stepped, ended, flagged, load, step}
use Rattle.ix_library.specs.Growing.{Grows}
use Rattle.ix_polls.specs.Following.{leaves_import}
use Rattle.ix_polls.proofs.Others.{IsLeft}

-- what each call may change
pub record Changes : Type 0 where
  pub lease : (name_of : List ℕ → List ℕ) (s : State) (lane : ℕ) (names : List (List ℕ)) (flag : Outcome) (stepped : Stepped) → step name_of s lane (Lease names) flag ≡ Some stepped → stepped.state ≡ record s { leases = stepped.state.leases }
  pub put : (name_of : List ℕ → List ℕ) (s : State) (lane : ℕ) (body : Body) (flag : Outcome) (stepped : Stepped) → step name_of s lane (Put body) flag ≡ Some stepped → stepped.state ≡ record s { records = stepped.state.records; leases = stepped.state.leases }
  pub stage : (name_of : List ℕ → List ℕ) (s : State) (lane : ℕ) (unit : UnitValue) (flag : Outcome) (stepped : Stepped) → step name_of s lane (Stage unit) flag ≡ Some stepped → stepped.state ≡ record s { leases = stepped.state.leases }
  pub publish : (name_of : List ℕ → List ℕ) (s : State) (lane : ℕ) (flag : Outcome) (stepped : Stepped) → step name_of s lane Publish flag ≡ Some stepped → stepped.state ≡ record s { publications = stepped.state.publications; pending = stepped.state.pending; leases = stepped.state.leases }
  pub remove : (name_of : List ℕ → List ℕ) (s : State) (lane : ℕ) (output : List ℕ) (flag : Outcome) (stepped : Stepped) → step name_of s lane (Remove output) flag ≡ Some stepped → stepped.state ≡ record s { publications = stepped.state.publications; pending = stepped.state.pending }
  pub adopt : (name_of : List ℕ → List ℕ) (s : State) (lane : ℕ) (flag : Outcome) (stepped : Stepped) → step name_of s lane Adopt flag ≡ Some stepped → stepped.state ≡ record s { held = stepped.state.held }
  pub release : (name_of : List ℕ → List ℕ) (s : State) (lane : ℕ) (flag : Outcome) (stepped : Stepped) → step name_of s lane Release flag ≡ Some stepped → stepped.state ≡ record s { held = stepped.state.held }
  pub collect : (name_of : List ℕ → List ℕ) (s : State) (lane : ℕ) (flag : Outcome) (stepped : Stepped) → step name_of s lane Collect flag ≡ Some stepped → stepped.state ≡ record s { records = stepped.state.records; pending = stepped.state.pending }

no_way : false ≡ true → ⊥
no_way e = cc

module _ (s : State) where
  as_ended : (how : Outcome) (stepped : Stepped) → Some (ended how s) ≡ Some stepped → stepped.state ≡ s
  as_ended how stepped e = sym (ap (λ (t : Stepped). t.state) (same_Some (ended how s) stepped e))

  as_missed : (how : Outcome) (misses : Bool) (stepped : Stepped) → cond misses (Some (ended how s)) None ≡ Some stepped → stepped.state ≡ s
  as_missed how true stepped e = as_ended how stepped e
  as_missed how false stepped e = absurd (cc)

  -- a load for an ask changes nothing, whether it fails or not
  ask_stays : (name : List ℕ) (flag : Outcome) (stepped : Stepped) → flagged (load s name purpose.Ask) flag ≡ Some stepped → stepped.state ≡ s
  ask_stays name Done stepped e = as_ended Done stepped e
  ask_stays name Written stepped e = absurd (cc)
  ask_stays name Shared stepped e = absurd (cc)
  ask_stays name Clash stepped e = absurd (cc)
  ask_stays name Synced stepped e = absurd (cc)
  ask_stays name Unsynced stepped e = absurd (cc)
  ask_stays name NoUnit stepped e = absurd (cc)
  ask_stays name (At mark) stepped e = absurd (cc)
  ask_stays name (Removed other) stepped e = absurd (cc)
  ask_stays name Nothing stepped e = absurd (cc)
  ask_stays name Fault stepped e = as_ended Fault stepped e
  ask_stays name (Lost other) stepped e = as_missed (Lost other) (bytes_eq name other) stepped e
  ask_stays name (Damaged other) stepped e = as_missed (Damaged other) (bytes_eq name other) stepped e

-- the import and the current mark stay
record Stays (s next : State) : Type 0 where
  import : next.import ≡ s.import
  current : next.current ≡ s.current

stays : (s next same : State) → next ≡ same → same.import ≡ s.import → same.current ≡ s.current → Stays s next
stays s next same e i c = record { import = ap (λ (t : State). t.import) e ∙ i; current = ap (λ (t : State). t.current) e ∙ c }

module _ (laws : Changes) (name_of : List ℕ → List ℕ) (s : State) (lane : ℕ) (flag : Outcome) (stepped : Stepped) where
  each : (given : Given) → leaves_import given ≡ true → step name_of s lane given flag ≡ Some stepped → Stays s stepped.state
  each (Lease names) ok e = stays s stepped.state (record s { leases = stepped.state.leases }) (laws.lease name_of s lane names flag stepped e) refl refl
  each (Put body) ok e = stays s stepped.state (record s { records = stepped.state.records; leases = stepped.state.leases }) (laws.put name_of s lane body flag stepped e) refl refl
  each (Stage unit) ok e = stays s stepped.state (record s { leases = stepped.state.leases }) (laws.stage name_of s lane unit flag stepped e) refl refl
  each Publish ok e = stays s stepped.state (record s { publications = stepped.state.publications; pending = stepped.state.pending; leases = stepped.state.leases }) (laws.publish name_of s lane flag stepped e) refl refl
  each (Remove output) ok e = stays s stepped.state (record s { publications = stepped.state.publications; pending = stepped.state.pending }) (laws.remove name_of s lane output flag stepped e) refl refl
  each Scan ok e = absurd (no_way ok)
  each (Load name purpose.Import) ok e = absurd (no_way ok)
  each (Load name purpose.Ask) ok e = stays s stepped.state s (ask_stays s name flag stepped e) refl refl
  each Install ok e = absurd (no_way ok)
  each Adopt ok e = stays s stepped.state (record s { held = stepped.state.held }) (laws.adopt name_of s lane flag stepped e) refl refl
  each Release ok e = stays s stepped.state (record s { held = stepped.state.held }) (laws.release name_of s lane flag stepped e) refl refl
  each Collect ok e = stays s stepped.state (record s { records = stepped.state.records; pending = stepped.state.pending }) (laws.collect name_of s lane flag stepped e) refl refl

  pub left : (given : Given) → Grows s stepped.state → leaves_import given ≡ true → step name_of s lane given flag ≡ Some stepped → IsLeft s stepped.state
  left given grows ok e = let same = each given ok e in record { import = same.import; current = same.current; more = grows.more; publications = grows.grown }
