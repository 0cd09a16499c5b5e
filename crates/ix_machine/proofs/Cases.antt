-- The cases of each call: what holds in each of them holds of the call.
use Rattle.std.proofs.Common.{◌≡◌, ℕ, ◌==◌, Bool, true, false, cond, List, Option, Some, None, option_map, refl, subst}
use Rattle.std.specs.Map.{lookup}
use Rattle.std.specs.BTreeMap.{is_at}
use Rattle.std.specs.Str.{bytes_eq}
use Rattle.ix_types.specs.Row.{text_cmp}
use Rattle.ix_record.specs.declared.body.Body.{Body}
use Rattle.ix_unit.specs.declared.value.UnitValue.{UnitValue}
use Rattle.ix_model.specs.declared.publication.StoredUnit.{StoredUnit}
use Rattle.ix_model.specs.declared.publication.Publication.TheVariants.{Put, Gone}
use Rattle.ix_model.specs.Units.{unit_named}
use Rattle.ix_machine.specs.declared.event.Outcome.TheVariants.{Shared, Clash, NoUnit}
use Rattle.ix_machine.specs.Needs.{visible, is_guarded}
use Rattle.ix_machine.specs.State.{Import, State}
use Rattle.ix_machine.specs.Step.{Row, sure, may_fault, dropped, noted, write, put, put_over, stored_unit, change, publish, publish_unit, publish_over, staged_by, remove, remove_named, name_with_output, install, install_import, install_mark}

module _ (P : Row → Type 0) (s : State) (lane : ℕ) where
  -- a row that there is
  pub some_row : (a b : Row) → Some a ≡ Some b → P a → P b
  some_row a b e p = let same : a ≡ b = cc in subst P same p

  module _ (body : Body) (written : P (write s lane body)) (shared : P (may_fault Shared (noted s lane body.name) (dropped s lane))) (clashed : P (may_fault Clash (dropped s lane) (dropped s lane))) where
    by_guard : (b : Bool) → P (cond b (may_fault Clash (dropped s lane) (dropped s lane)) (write s lane body))
    by_guard true = clashed
    by_guard false = written

    by_bytes : (b : Bool) → P (cond b (may_fault Shared (noted s lane body.name) (dropped s lane)) (cond (is_guarded s lane body.name) (may_fault Clash (dropped s lane) (dropped s lane)) (write s lane body)))
    by_bytes true = shared
    by_bytes false = by_guard (is_guarded s lane body.name)

    by_file : (o : Option (List ℕ)) → P (put_over s lane body o)
    by_file None = written
    by_file (Some bytes) = by_bytes (bytes_eq bytes body.bytes)

    pub put_cases : P (put s lane body)
    put_cases = by_file (lookup (is_at (text_cmp body.name)) s.records)

  module _ (changed : (name : List ℕ) (unit : UnitValue) → P (change (dropped s lane) (dropped s lane) (Put name (stored_unit s unit)))) (clashed : P (sure Clash (dropped s lane))) where
    by_other : (name : List ℕ) (unit : UnitValue) (o : Option StoredUnit) → P (publish_over s lane name unit o)
    by_other name unit None = changed name unit
    by_other name unit (Some other) =
        elim (bytes_eq other.unit.output unit.output) as (λ b. P (cond b (change (dropped s lane) (dropped s lane) (Put name (stored_unit s unit))) (sure Clash (dropped s lane)))) [
          | true ↦ changed name unit
          | false ↦ clashed
        ]

    pub publish_cases : (name_of : List ℕ → List ℕ) (r : Row) → publish name_of s lane ≡ Some r → P r
    publish_cases name_of r e = by_staged (staged_by s lane) e
      where
        by_staged : (o : Option UnitValue) → option_map (λ unit. publish_unit s lane (name_of unit.output) unit) o ≡ Some r → P r
        by_staged None e = absurd (cc)
        by_staged (Some unit) e = some_row (publish_unit s lane (name_of unit.output) unit) r e (by_other (name_of unit.output) unit (unit_named (name_of unit.output) (visible s)))

  module _ (absent : P (sure NoUnit s)) (changed : (name : List ℕ) → P (change s s (Gone name))) where
    by_name : (o : Option (List ℕ)) → P (remove_named s o)
    by_name None = absent
    by_name (Some name) = changed name

    pub remove_cases : (output : List ℕ) → P (remove s output)
    remove_cases output = by_name (name_with_output output (visible s))

  pub install_cases : ((i : Import) → s.import ≡ Some i → P (install_mark s lane i.mark)) → (r : Row) → install s lane ≡ Some r → P r
  install_cases installed r e = by_import s.import refl e
    where
      by_lane : (i : Import) → s.import ≡ Some i → (b : Bool) → cond b (Some (install_mark s lane i.mark)) None ≡ Some r → P r
      by_lane i is true e = some_row (install_mark s lane i.mark) r e (installed i is)
      by_lane i is false e = absurd (cc)

      by_import : (o : Option Import) → s.import ≡ o → install_import s lane o ≡ Some r → P r
      by_import None is e = absurd (cc)
      by_import (Some i) is e = by_lane i is (i.lane == lane) e
