-- The rows of a unit that stands are among all rows.
use Rattle.std.proofs.Common.{◌≡◌, ℕ, Bool, true, false, List, [], ◌∷◌, ◌++◌, Some, Contains, refl, sym, ◌∙◌, subst}
use Rattle.std.specs.List.{AllZip}
use Rattle.std.specs.Map.{lookup}
use Rattle.std.proofs.lemmas.List.Elements.{Contains-append_left, Contains-append_right}
use Rattle.std.proofs.lemmas.Map.Entries.{lookup_head, lookup_tail}
use Rattle.ix_types.specs.declared.row.OccRow.{OccRow}
use Rattle.ix_record.specs.declared.body.Body.{Body}
use Rattle.ix_record.specs.declared.value.RecordValue.{RecordValue}
use Rattle.ix_record.specs.Spelling.{RecordSpelling}
use Rattle.ix_unit.specs.declared.value.RecordDep.{RecordDep}
use Rattle.ix_model.specs.declared.publication.StoredUnit.{StoredUnit}
use Rattle.ix_model.specs.Rows.{rows, rows_of_unit}
use Rattle.ix_model.specs.Units.{Units}
use Rattle.ix_machine.specs.Listed.{Lists}
use Rattle.ix_one_lane.specs.Sees.{IsSpelledIn}

same_unit : (a b : StoredUnit) → Some a ≡ Some b → a ≡ b
same_unit a b p = cc

module _ (test : List ℕ → Bool) (stored : StoredUnit) (row : OccRow) (of_unit : Contains (rows_of_unit stored) row) where
  pub rows_among : (units : Units) → lookup test units ≡ Some stored → Contains (rows units) row
  rows_among [] e = absurd (cc)
  rows_among (entry ∷ es) e =
      (elim (test entry.0) as (λ b. test entry.0 ≡ b → Contains (rows_of_unit entry.1 ++ rows es) row) [
        | true ↦ λ is. Contains-append_left (rows_of_unit entry.1) (rows es) row (subst (λ (s : StoredUnit). Contains (rows_of_unit s) row) (same_unit stored entry.1 (sym e ∙ lookup_head test entry es is)) of_unit)
        | false ↦ λ is. Contains-append_right (rows_of_unit entry.1) (rows es) row (rows_among es (sym (lookup_tail test entry es is) ∙ e))
      ]) refl

-- the files that spell the values, one by one
pub spelled_by : (files : List Body) (deps : List RecordDep) (values : List RecordValue) → AllZip (IsSpelledIn files) deps values
    → AllZip (λ (dep : RecordDep) (value : RecordValue). (body : Body) × Lists files body × (body.name ≡ dep.name) × RecordSpelling body.bytes value) deps values
spelled_by files [] [] all = tt
spelled_by files [] (value ∷ values) all = absurd all
spelled_by files (dep ∷ deps) [] all = absurd all
spelled_by files (dep ∷ deps) (value ∷ values) all = ((all.0.body, all.0.listed, all.0.named, all.0.spelled), spelled_by files deps values all.1)
