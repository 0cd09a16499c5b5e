-- Where a publish and an install may be made.
use Rattle.std.proofs.Common.{◌≡◌, ◌==◌, ℕ, Bool, true, false, cond, List, Option, Some, None, IsSome, option_map, refl, sym, ap, subst, ◌∙◌}
use Rattle.std.specs.Option.{option_and_then}
use Rattle.std.proofs.lemmas.Bool.{eqb-true, eq-eqb}
use Rattle.ix_unit.specs.declared.value.UnitValue.{UnitValue}
use Rattle.ix_machine.specs.declared.event.Outcome.TheVariants.{Done}
use Rattle.ix_machine.specs.Run.{OpenedImport}
use Rattle.ix_machine.specs.State.{Import, State}
use Rattle.ix_machine.specs.Step.{Row, Stepped, flagged, publish_unit, install_mark, install_import}

none_is : {X : Type 0} → false ≡ true → X
none_is e = absurd (cc)

-- what a call does that doesn't fail
abbrev unfailed : Option Row → Option Stepped
unfailed o = option_and_then (λ r. flagged r Done) o

module _ (name_of : List ℕ → List ℕ) (s : State) (lane : ℕ) where
  pub publishes : (o : Option UnitValue) → IsSome o → IsSome (unfailed (option_map (λ unit. publish_unit s lane (name_of unit.output) unit) o))
  publishes None e = none_is e
  publishes (Some unit) e = refl

  pub has_staged : (o : Option UnitValue) → IsSome (unfailed (option_map (λ unit. publish_unit s lane (name_of unit.output) unit) o)) → IsSome o
  has_staged None e = none_is e
  has_staged (Some unit) e = refl

module _ (s : State) (lane : ℕ) where
  pub installs : (o : Option Import) (i : Import) → o ≡ Some i → i.lane ≡ lane → IsSome (unfailed (install_import s lane o))
  installs None i e own = absurd (cc)
  installs (Some j) i e own =
      let same : j ≡ i = cc in
      let here : (j.lane == lane) ≡ true = eq-eqb j.lane lane (ap (λ (x : Import). x.lane) same ∙ own) in
      subst (λ (b : Bool). IsSome (unfailed (cond b (Some (install_mark s lane j.mark)) None))) (sym here) refl

  pub has_opened : (o : Option Import) → s.import ≡ o → IsSome (unfailed (install_import s lane o)) → OpenedImport s lane
  has_opened None is e = none_is e
  has_opened (Some j) is e = by_lane (j.lane == lane) refl e
    where
      by_lane : (b : Bool) → (j.lane == lane) ≡ b → IsSome (unfailed (cond b (Some (install_mark s lane j.mark)) None)) → OpenedImport s lane
      by_lane true own e = record { open_import = j; is_open = is; own = eqb-true j.lane lane own }
      by_lane false own e = none_is e
