-- The rows of records, where one of the two lists has come to its end.
use Rattle.std.proofs.Common.{◌≡◌, ◌⊎◌, inl, inr, List, [], ◌∷◌, refl}
use Rattle.ix_unit.specs.declared.value.RecordDep.{RecordDep}
use Rattle.ix_record.specs.declared.value.RecordValue.{RecordValue}
use Rattle.ix_model.specs.Rows.{rows_of_records}

pub no_more_rows : (deps : List RecordDep) (values : List RecordValue) → (deps ≡ []) ⊎ (values ≡ []) → rows_of_records deps values ≡ []
no_more_rows [] values e = refl
no_more_rows (dep ∷ deps) [] e = refl
no_more_rows (dep ∷ deps) (value ∷ values) (inl e) = cc
no_more_rows (dep ∷ deps) (value ∷ values) (inr e) = cc
