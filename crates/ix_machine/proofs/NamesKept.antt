-- Units that stand under the names of their output paths do so in the whole run, whatever the files hold.
use Rattle.std.proofs.Common.{◌≡◌, ℕ, Bool, true, false, cond, List, [], ◌∷◌, map, option_map, Result, Ok, Err, refl, ap, ◌∙◌}
use Rattle.std.specs.List.{AllByRecursion, filter_map, cons_option}
use Rattle.std.specs.Result.{result_ok}
use Rattle.std.specs.Str.{bytes_eq}
use Rattle.ix_record.specs.declared.value.RecordValue.{RecordValue}
use Rattle.ix_unit.specs.declared.value.UnitValue.{UnitValue}
use Rattle.ix_model.specs.declared.publication.StoredUnit.{StoredUnit}
use Rattle.ix_model.specs.declared.publication.Publication.TheVariants as model
use Rattle.ix_model.specs.Units.{Units}
use Rattle.ix_machine.specs.declared.opened.UnitFault.{UnitFault}
use Rattle.ix_machine.specs.declared.opened.UnitFault.TheVariants.{WrongName}
use Rattle.ix_machine.specs.Laws.{AreNamed}
use Rattle.ix_machine.specs.Opening.{unit_of, values_in, stored, judged_unit, judged, sound_at}
use Rattle.ix_machine.specs.Run.{Opening, begun, Turn, Leads}
use Rattle.ix_machine.specs.State.{Files, State}
use Rattle.ix_machine.proofs.Lists.{same_bytes}
use Rattle.ix_machine.proofs.Named.{IsNamedPut, PutsAreNamed, led-named}

module _ (name_of : List ℕ → List ℕ) where
  module _ (records : Files) (name bytes : List ℕ) (found : StoredUnit) where
    by_values : (unit : UnitValue) → name ≡ name_of unit.output → (r : Result (List RecordValue) UnitFault) → stored unit r ≡ Ok found → name ≡ name_of found.unit.output
    by_values unit named (Ok values) e =
        let whole : StoredUnit = record { unit = unit; values = values } in
        let same : whole ≡ found = cc in
        named ∙ ap (λ (u : StoredUnit). name_of u.unit.output) same
    by_values unit named (Err fault) e = absurd (cc)

    by_name : (unit : UnitValue) → (b : Bool) → bytes_eq name (name_of unit.output) ≡ b → cond b (stored unit (values_in name_of records unit.records)) (Err WrongName) ≡ Ok found → name ≡ name_of found.unit.output
    by_name unit true is e = by_values unit (same_bytes name (name_of unit.output) is) (values_in name_of records unit.records) e
    by_name unit false is e = absurd (cc)

    by_unit : (r : Result UnitValue UnitFault) → judged_unit name_of records name r ≡ Ok found → name ≡ name_of found.unit.output
    by_unit (Err fault) e = absurd (cc)
    by_unit (Ok unit) e = by_name unit (bytes_eq name (name_of unit.output)) refl e

    judged_named : judged name_of records name bytes ≡ Ok found → name ≡ name_of found.unit.output
    judged_named e = by_unit (unit_of bytes) e

  pub found_named : (records units : Files) → AreNamed name_of (filter_map (sound_at name_of records) units)
  found_named records [] = tt
  found_named records (file ∷ units) =
      (elim (judged name_of records file.0 file.1) as (λ r. judged name_of records file.0 file.1 ≡ r
      → AreNamed name_of (cons_option (option_map (λ unit. (file.0, unit)) (result_ok r)) (filter_map (sound_at name_of records) units))) [
        | Ok found ↦ λ e. (judged_named records file.0 file.1 found e, found_named records units)
        | Err fault ↦ λ e. found_named records units
      ]) refl

  puts_named : (units : Units) → AreNamed name_of units → AllByRecursion (IsNamedPut name_of) (map (λ (e : List ℕ × StoredUnit). model.Put e.0 e.1) units)
  puts_named [] named = tt
  puts_named (e ∷ units) named = (named.0, puts_named units named.1)

  pub run_named : (found : Opening) (lanes : ℕ) (turns : List Turn) (s : State) → AreNamed name_of found.units → Leads name_of (begun found lanes) turns s → PutsAreNamed name_of s
  run_named found lanes turns s named leads = led-named name_of turns (begun found lanes) s (puts_named found.units named) leads
