-- What a publish adds, and that a put may always fail.
use Rattle.std.proofs.Common.{◌≡◌, ◌≢◌, ℕ, zero, suc, Bool, true, false, cond, List, [], ◌∷◌, ◌++◌, get_or, set, Option, Some, None, option_map, refl, ap, subst, ◌∙◌}
use Rattle.std.specs.Option.{option_and_then}
use Rattle.std.specs.Str.{bytes_eq}
use Rattle.ix_record.specs.declared.body.Body.{Body}
use Rattle.ix_record.specs.declared.value.RecordValue.{RecordValue}
use Rattle.ix_unit.specs.declared.value.UnitValue.{UnitValue}
use Rattle.ix_model.specs.declared.publication.StoredUnit.{StoredUnit}
use Rattle.ix_model.specs.declared.publication.Publication.TheVariants as model
use Rattle.ix_model.specs.Units.{unit_named}
use Rattle.ix_machine.specs.declared.event.Outcome.{Outcome}
use Rattle.ix_machine.specs.declared.event.Outcome.TheVariants.{Done, Clash, Fault}
use Rattle.ix_machine.specs.Given.{Publish}
use Rattle.ix_machine.specs.Needs.{visible}
use Rattle.ix_machine.specs.Sound.{ValuesStand, IsSound}
use Rattle.ix_machine.specs.State.{Lease, State, lease_of}
use Rattle.ix_machine.specs.Step.{Stepped, Row, flagged, step, ended, sure, dropped, stored_unit, values_of, change, publish_over, publish_unit, staged_by}
use Rattle.ix_machine.specs.Step as calls
use Rattle.ix_machine.proofs.Calls.{staged_stand, values_stand}
use Rattle.ix_machine.proofs.Cases.{put_cases, publish_cases}
use Rattle.ix_machine.proofs.Rows.{Each, each_stepped}

-- ---- the lease is dropped

none_set : {X : Type 0} (xs : List (Option X)) (i : ℕ) → get_or (set xs i None) i None ≡ None
none_set [] i = refl
none_set (x ∷ xs) zero = refl
none_set (x ∷ xs) (suc i) = none_set xs i

module _ (name_of : List ℕ → List ℕ) (s : State) (lane : ℕ) where
  abbrev HasNone : State → Type 0
  HasNone t = lease_of t lane ≡ None

  pub publish_drops : (flag : Outcome) (stepped : Stepped) → step name_of s lane Publish flag ≡ Some stepped → HasNone stepped.state
  publish_drops flag stepped e =
      let none : HasNone (dropped s lane) = none_set s.leases lane in
      each_stepped HasNone name_of s lane Publish flag stepped
      (λ r is. publish_cases (Each HasNone) s lane (λ name unit. record { plain = none; faulted = none; unsynced = none }) (record { plain = none; faulted = tt; unsynced = tt }) name_of r is) e

  -- ---- a put that fails

  abbrev MayFault : Row → Type 0
  MayFault r = flagged r Fault ≡ Some (ended Fault (dropped s lane))

  pub put_faults : (body : Body) → MayFault (calls.put s lane body)
  put_faults body = put_cases MayFault s lane body refl refl refl

  -- ---- the publication

  module _ (h : IsSound name_of s) (lease : Lease) (unit : UnitValue) (is : lease_of s lane ≡ Some lease) (staged : lease.staged ≡ Some unit) where
    -- the staged unit is added with these values, and they stand
    abbrev Adds : Stepped → Type 0
    Adds t = (values : List RecordValue) × (t.state.publications ≡ s.publications ++ model.Put (name_of unit.output) (record { unit = unit; values = values }) ∷ []) × ValuesStand name_of s.records unit.records values

    adds : Adds (change (dropped s lane) (dropped s lane) (model.Put (name_of unit.output) (stored_unit s unit))).plain
    adds = (values_of s.records unit.records, refl, values_stand name_of s.records unit.records (staged_stand name_of s h lane unit lease is staged))

    abbrev IsMade : Row → Type 0
    IsMade r = r.plain.outcome ≢ Clash → Adds r.plain

    by_output : (b : Bool) → IsMade (cond b (change (dropped s lane) (dropped s lane) (model.Put (name_of unit.output) (stored_unit s unit))) (sure Clash (dropped s lane)))
    by_output true = λ made. adds
    by_output false = λ made. absurd (made refl)

    by_other : (o : Option StoredUnit) → IsMade (publish_over s lane (name_of unit.output) unit o)
    by_other None = λ made. adds
    by_other (Some other) = by_output (bytes_eq other.unit.output unit.output)

    pub publish_adds : (stepped : Stepped) → step name_of s lane Publish Done ≡ Some stepped → stepped.outcome ≢ Clash → Adds stepped
    publish_adds stepped e =
        let own : staged_by s lane ≡ Some unit = ap (option_and_then (λ (l : Lease). l.staged)) is ∙ staged in
        let run : Some (publish_unit s lane (name_of unit.output) unit).plain ≡ Some stepped =
        subst (λ (o : Option UnitValue). option_and_then (λ (r : Row). flagged r Done) (option_map (λ (u : UnitValue). publish_unit s lane (name_of u.output) u) o) ≡ Some stepped) own e in
        let same : (publish_unit s lane (name_of unit.output) unit).plain ≡ stepped = cc in
        subst (λ (t : Stepped). t.outcome ≢ Clash → Adds t) same (by_other (unit_named (name_of unit.output) (visible s)))
