-- An event shows its flag.
use Rattle.std.proofs.Common.{◌≡◌, ℕ, ◌==◌, if◌then◌else◌, Bool, true, false, List, [], ◌∷◌, Option, Some, None, IfSome, option_map, option_and_then, refl}
use Rattle.std.specs.Str.{bytes_eq}
use Rattle.std.specs.Map.{lookup}
use Rattle.std.specs.BTreeMap.{is_at}
use Rattle.ix_types.specs.Row.{text_cmp}
use Rattle.ix_record.specs.declared.body.Body.{Body}
use Rattle.ix_unit.specs.declared.value.UnitValue.{UnitValue}
use Rattle.ix_model.specs.declared.publication.Publication.TheVariants as model
use Rattle.ix_model.specs.declared.publication.StoredUnit.{StoredUnit}
use Rattle.ix_model.specs.Units.{unit_named}
use Rattle.ix_machine.specs.declared.event.Outcome.{Outcome}
use Rattle.ix_machine.specs.declared.event.Outcome.TheVariants.{Done, Written, Shared, Clash, Synced, Unsynced, NoUnit, At, Removed, Nothing, Fault, Lost, Damaged}
use Rattle.ix_machine.specs.Given.{Given}
use Rattle.ix_machine.specs.Given as given
use Rattle.ix_machine.specs.Needs.{loose, is_guarded, visible}
use Rattle.ix_machine.specs.State as state
use Rattle.ix_machine.specs.State.{State}
use Rattle.ix_machine.specs.Step.{Row, ended, flagged, row, step, staged_by, dropped, publish_over, publish_unit, change, sure, may_fault, noted, write, put_over, stored_unit, remove_named, name_with_output, install_import, install_mark, collect_first}
use Rattle.ix_replays.specs.Run.{flag_of}

-- without a flag an outcome shows none
abbrev Plain : Row → Type 0
Plain r = flag_of r.plain.outcome ≡ Done

module _ (r : Row) where
  behind : (outcome : Outcome) → flag_of outcome ≡ outcome → (o : Option State) → IfSome (option_map (ended outcome) o) (λ stepped. flag_of stepped.outcome ≡ outcome)
  behind outcome is None = tt
  behind outcome is (Some t) = is

  missed : (b : Bool) (outcome : Outcome) → flag_of outcome ≡ outcome → IfSome (if b then option_map (ended outcome) r.faulted else None) (λ stepped. flag_of stepped.outcome ≡ outcome)
  missed true outcome is = behind outcome is r.faulted
  missed false outcome is = tt

  flagged_shows : Plain r → (flag : Outcome) → IfSome (flagged r flag) (λ stepped. flag_of stepped.outcome ≡ flag)
  flagged_shows plain Done = plain
  flagged_shows plain Written = tt
  flagged_shows plain Shared = tt
  flagged_shows plain Clash = tt
  flagged_shows plain Synced = tt
  flagged_shows plain Unsynced = behind Unsynced refl r.unsynced
  flagged_shows plain NoUnit = tt
  flagged_shows plain (At mark) = tt
  flagged_shows plain (Removed name) = tt
  flagged_shows plain Nothing = tt
  flagged_shows plain Fault = behind Fault refl r.faulted
  flagged_shows plain (Lost name) = missed (r.misses name) (Lost name) refl
  flagged_shows plain (Damaged name) = missed (r.misses name) (Damaged name) refl

module _ (s : State) (lane : ℕ) where
  put_plain : (body : Body) (o : Option (List ℕ)) → Plain (put_over s lane body o)
  put_plain body None = refl
  put_plain body (Some bytes) =
      elim (bytes_eq bytes body.bytes) as (λ b. Plain (if b then may_fault Shared (noted s lane body.name) (dropped s lane) else (if is_guarded s lane body.name then may_fault Clash (dropped s lane) (dropped s lane) else write s lane body))) [
        | true ↦ refl
        | false ↦ elim (is_guarded s lane body.name) as (λ b. Plain (if b then may_fault Clash (dropped s lane) (dropped s lane) else write s lane body)) [
          | true ↦ refl
          | false ↦ refl
        ]
      ]

  publish_plain : (name : List ℕ) (unit : UnitValue) (o : Option StoredUnit) → Plain (publish_over s lane name unit o)
  publish_plain name unit None = refl
  publish_plain name unit (Some other) =
      elim (bytes_eq other.unit.output unit.output) as (λ b. Plain (if b then change (dropped s lane) (dropped s lane) (model.Put name (stored_unit s unit)) else sure Clash (dropped s lane))) [
        | true ↦ refl
        | false ↦ refl
      ]

  staged_plain : (name_of : List ℕ → List ℕ) (o : Option UnitValue) → IfSome (option_map (λ unit. publish_unit s lane (name_of unit.output) unit) o) Plain
  staged_plain name_of None = tt
  staged_plain name_of (Some unit) = publish_plain (name_of unit.output) unit (unit_named (name_of unit.output) (visible s))

  remove_plain : (o : Option (List ℕ)) → Plain (remove_named s o)
  remove_plain None = refl
  remove_plain (Some name) = refl

  install_plain : (o : Option state.Import) → IfSome (install_import s lane o) Plain
  install_plain None = tt
  install_plain (Some i) =
      elim (i.lane == lane) as (λ b. IfSome (if b then Some (install_mark s lane i.mark) else None) Plain) [
        | true ↦ refl
        | false ↦ tt
      ]

  collect_plain : (names : List (List ℕ)) → flag_of (collect_first s names).outcome ≡ Done
  collect_plain [] = refl
  collect_plain (name ∷ names) = refl

  row_plain : (name_of : List ℕ → List ℕ) (g : Given) → IfSome (row name_of s lane g) Plain
  row_plain name_of (given.Lease names) = refl
  row_plain name_of (given.Put body) = put_plain body (lookup (is_at (text_cmp body.name)) s.records)
  row_plain name_of (given.Stage unit) = refl
  row_plain name_of given.Publish = staged_plain name_of (staged_by s lane)
  row_plain name_of (given.Remove output) = remove_plain (name_with_output output (visible s))
  row_plain name_of given.Scan = refl
  row_plain name_of (given.Load name purpose) = refl
  row_plain name_of given.Install = install_plain s.import
  row_plain name_of given.Adopt = refl
  row_plain name_of given.Release = refl
  row_plain name_of given.Collect = collect_plain (loose s)

  rows_show : (o : Option Row) (flag : Outcome) → IfSome o Plain → IfSome (option_and_then (λ r. flagged r flag) o) (λ stepped. flag_of stepped.outcome ≡ flag)
  rows_show None flag p = tt
  rows_show (Some r) flag p = flagged_shows r p flag

  pub step_shows : (name_of : List ℕ → List ℕ) (g : Given) (flag : Outcome) → IfSome (step name_of s lane g flag) (λ stepped. flag_of stepped.outcome ≡ flag)
  step_shows name_of g flag = rows_show (row name_of s lane g) flag (row_plain name_of g)
