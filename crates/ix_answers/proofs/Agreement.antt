-- What gives each record one value over two maps.
use Rattle.std.proofs.Common.{◌≡◌, ℕ, zero, suc, ◌⊎◌, inl, inr, List, [], ◌∷◌, ◌++◌, Some, sym, ap, ◌∙◌}
use Rattle.std.specs.List.{slice_get}
use Rattle.ix_record.specs.declared.value.RecordValue.{RecordValue}
use Rattle.ix_unit.specs.declared.value.RecordDep.{RecordDep}
use Rattle.ix_model.specs.declared.publication.StoredUnit.{StoredUnit}
use Rattle.ix_model.specs.Units.{Units}
use Rattle.ix_answers.specs.Agreement.{AgreeOnRecords, HasValuesByName}
use Rattle.ix_answers.specs.Batches.{HaveOneValue}
use Rattle.ix_answers.specs.Meanings.{IsRecord}
use Rattle.ix_answers.proofs.Members.{Has, has, contains, append-cases}

-- a record of two maps together is one of the first or one of the second
of_either : (before after : Units) (dep : RecordDep) (value : RecordValue) → IsRecord (before ++ after) dep value → IsRecord before dep value ⊎ IsRecord after dep value
of_either before after dep value r = by_place (append-cases before after r.entry (has (before ++ after) r.entry r.of_units))
  where
    by_place : Has before r.entry ⊎ Has after r.entry → IsRecord before dep value ⊎ IsRecord after dep value
    by_place (inl h) = inl (record { entry = r.entry; of_units = contains before r.entry h; place = r.place; lists = r.lists; has_value = r.has_value })
    by_place (inr h) = inr (record { entry = r.entry; of_units = contains after r.entry h; place = r.place; lists = r.lists; has_value = r.has_value })

pub parts-agree : (before after : Units) → AgreeOnRecords before before → AgreeOnRecords after after → AgreeOnRecords before after → HaveOneValue before after
parts-agree before after within later across first second value other a b e =
    by_maps (of_either before after first value a) (of_either before after second other b)
  where
    by_maps : IsRecord before first value ⊎ IsRecord after first value → IsRecord before second other ⊎ IsRecord after second other → value ≡ other
    by_maps (inl x) (inl y) = within first second value other x y e
    by_maps (inl x) (inr y) = across first second value other x y e
    by_maps (inr x) (inl y) = sym (across second first other value y x (sym e))
    by_maps (inr x) (inr y) = later first second value other x y e

values_agree : (value_of : List ℕ → RecordValue) (before after : Units) → HasValuesByName value_of before → HasValuesByName value_of after → AgreeOnRecords before after
values_agree value_of before after f g first second value other a b e = f first value a ∙ (ap value_of e ∙ sym (g second other b))

pub values-by-name : (value_of : List ℕ → RecordValue) (before after : Units) → HasValuesByName value_of before → HasValuesByName value_of after → HaveOneValue before after
values-by-name value_of before after f g =
    parts-agree before after (values_agree value_of before before f f) (values_agree value_of after after g g) (values_agree value_of before after f g)

-- the one value of a list
only : (value other : RecordValue) (place : ℕ) → slice_get (value ∷ []) place ≡ Some other → other ≡ value
only value other zero e = let p : value ≡ other = cc in sym p
only value other (suc k) e = absurd (cc)

pub unit-alone : (name : List ℕ) (stored : StoredUnit) (value : RecordValue) → stored.values ≡ value ∷ [] → HaveOneValue ((name, stored) ∷ []) ((name, stored) ∷ [])
unit-alone name stored value e = values-by-name (λ n. value) ((name, stored) ∷ []) ((name, stored) ∷ []) has_it has_it
  where
    by_place : (dep : RecordDep) (other : RecordValue) (r : IsRecord ((name, stored) ∷ []) dep other) → Has ((name, stored) ∷ []) r.entry → other ≡ value
    by_place dep other r (inl p) =
        only value other r.place (ap (λ (vs : List RecordValue). slice_get vs r.place) (sym e ∙ ap (λ (x : List ℕ × StoredUnit). x.1.values) p) ∙ r.has_value)
    by_place dep other r (inr h) = absurd h

    has_it : (dep : RecordDep) (other : RecordValue) → IsRecord ((name, stored) ∷ []) dep other → other ≡ value
    has_it dep other r = by_place dep other r (has ((name, stored) ∷ []) r.entry r.of_units)
