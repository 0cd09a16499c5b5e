-- What stands on disk, and what a crash may leave of it.
use Rattle.std.proofs.Common.{◌≡◌, ◌↔◌, ◌⊎◌, inl, inr, ℕ, zero, suc, true, false, ◌||◌, List, [], ◌∷◌, length, slice_get, Option, Some, None, IfSome, refl, sym, ap, subst, ◌∙◌, Contains}
use Rattle.std.specs.List.{AllByRecursion, list_any}
use Rattle.std.specs.FinMap.{get}
use Rattle.std.specs.Str.{bytes_eq}
use Rattle.std.proofs.lemmas.Option.{same_Some}
use Rattle.std.proofs.lemmas.Slice.Eq.{bytes_eq-Decides}
use Rattle.ix_dir.specs.declared.area.Area.TheVariants.{Units, Records}
use Rattle.ix_dir.specs.declared.moves.Move.{Move}
use Rattle.ix_dir.specs.Crash.{IsSettledIn, standing}
use Rattle.ix_dir.specs.Files.{bytes_at}
use Rattle.ix_dir.specs.Images.{Image, IsImage, Value, values_of}
use Rattle.ix_dir.specs.Moves.{area_after}
use Rattle.ix_record.specs.declared.value.RecordValue.{RecordValue}
use Rattle.ix_record.specs.Spelling.{RecordSpelling}
use Rattle.ix_unit.specs.declared.value.RecordDep.{RecordDep}
use Rattle.ix_unit.specs.declared.value.UnitValue.{UnitValue}
use Rattle.ix_unit.specs.Spelling.{UnitSpelling}
use Rattle.ix_model.specs.declared.publication.StoredUnit.{StoredUnit}
use Rattle.ix_model.specs.Units as model
use Rattle.ix_model.specs.Units.{unit_named, units_after, units_at}
use Rattle.ix_machine.specs.Needs.{has_name, option_any, units_need}
use Rattle.ix_machine.specs.Needs as machine
use Rattle.ix_machine.specs.Sound.{IsLeaseSound, NeededStand, RecordsStand, StandsAs, StandsWhole, ValuesStand}
use Rattle.ix_machine.specs.State as state
use Rattle.ix_machine.specs.State.{Files, Import, State, held_by, lease_of}
use Rattle.ix_stops.specs.OnDisk.{AreKept, OnePends}
use Rattle.ix_stops.specs.Stands.{StandsOnDisk}
use Rattle.ix_stops.specs.UnitFiles.{IsSpelledUnder, Spell}
use Rattle.ix_facts.specs.Given.{DiskLaws}
use Rattle.ix_facts.proofs.Entries.{any_at, found_any, found_passes, place_of}

same_bytes : (a b : List ℕ) → bytes_eq a b ≡ true → a ≡ b
same_bytes a b e = (bytes_eq-Decides a b).0 e

bytes_same : (a : List ℕ) → bytes_eq a a ≡ true
bytes_same a = (bytes_eq-Decides a a).1 refl

-- ---- values of records

-- a whole record that spells the value stands under the name
abbrev pub BodyAt : (List ℕ → List ℕ) → Value → List ℕ → RecordValue → Type 0
BodyAt name_of there name value = (bytes : List ℕ) × (there ≡ Some bytes) × (name ≡ name_of bytes) × RecordSpelling bytes value

module _ (name_of : List ℕ → List ℕ) (records : Files) where
  pub values_length : (deps : List RecordDep) (values : List RecordValue) → ValuesStand name_of records deps values → length values ≡ length deps
  values_length [] [] stand = refl
  values_length [] (v ∷ values) stand = absurd stand
  values_length (d ∷ deps) [] stand = absurd stand
  values_length (d ∷ deps) (v ∷ values) stand = ap suc (values_length deps values stand.1)

  pub value_at : (deps : List RecordDep) (values : List RecordValue) (place : ℕ) (dep : RecordDep) (value : RecordValue) → ValuesStand name_of records deps values → slice_get deps place ≡ Some dep → slice_get values place ≡ Some value
      → StandsAs name_of records dep.name value
  value_at [] [] place dep value stand at is = absurd (cc)
  value_at [] (v ∷ values) place dep value stand at is = absurd stand
  value_at (d ∷ deps) [] place dep value stand at is = absurd stand
  value_at (d ∷ deps) (v ∷ values) zero dep value stand at is =
      subst (λ (w : RecordValue). StandsAs name_of records dep.name w) (same_Some v value is) (subst (λ (e : RecordDep). StandsAs name_of records e.name v) (same_Some d dep at) stand.0)
  value_at (d ∷ deps) (v ∷ values) (suc place) dep value stand at is = value_at deps values place dep value stand.1 at is

  pub some_value : (deps : List RecordDep) (values : List RecordValue) (place : ℕ) (dep : RecordDep) → ValuesStand name_of records deps values → slice_get deps place ≡ Some dep → (value : RecordValue) × StandsAs name_of records dep.name value
  some_value [] values place dep stand at = absurd (cc)
  some_value (d ∷ deps) [] place dep stand at = absurd stand
  some_value (d ∷ deps) (v ∷ values) zero dep stand at = (v, subst (λ (e : RecordDep). StandsAs name_of records e.name v) (same_Some d dep at) stand.0)
  some_value (d ∷ deps) (v ∷ values) (suc place) dep stand at = some_value deps values place dep stand.1 at

  pub whole_put : (name : List ℕ) (names : List (List ℕ)) → AllByRecursion (StandsWhole name_of records) names → has_name name names ≡ true → StandsWhole name_of records name
  whole_put name [] all has = absurd (cc)
  whole_put name (n ∷ names) all has =
      (elim (bytes_eq n name) as (λ b. bytes_eq n name ≡ b → (b || has_name name names) ≡ true → StandsWhole name_of records name) [
        | true ↦ λ same h. subst (StandsWhole name_of records) (same_bytes n name same) all.0
        | false ↦ λ same h. whole_put name names all.1 h
      ]) refl has

-- ---- units that are spelled

module _ (laws : DiskLaws) (name_of : List ℕ → List ℕ) (name bytes : List ℕ) where
  abbrev pub IsUnitOf : Option StoredUnit → Type 0
  IsUnitOf o = (stored : StoredUnit) × (o ≡ Some stored) × (name ≡ name_of stored.unit.output) × UnitSpelling bytes stored.unit

  pub unit_there : (v : Value) (o : Option StoredUnit) → IsSpelledUnder name_of name v o → v ≡ Some bytes → IsUnitOf o
  unit_there None o spelled is = absurd (cc)
  unit_there (Some b) None spelled is = absurd spelled
  unit_there (Some b) (Some stored) spelled is = (stored, refl, spelled.1, subst (λ (bs : List ℕ). UnitSpelling bs stored.unit) (same_Some b bytes is) spelled.0)

  pub file_there : (v : Value) (o : Option StoredUnit) → IsSpelledUnder name_of name v o → IsUnitOf o → v ≡ Some bytes
  file_there None None spelled unit = absurd (let is = unit.1 in cc)
  file_there None (Some stored) spelled unit = absurd spelled
  file_there (Some b) None spelled unit = absurd spelled
  file_there (Some b) (Some stored) spelled unit =
      let same : stored ≡ unit.0 = same_Some stored unit.0 unit.1 in
      ap Some (laws.one_spelling b bytes unit.0.unit (subst (λ (u : StoredUnit). UnitSpelling b u.unit) same spelled.0) unit.3)

-- ---- a store

module _ (laws : DiskLaws) (name_of : List ℕ → List ℕ) (s : State) (moves : List Move) (stands : StandsOnDisk name_of s moves) where
  files_are : (name : List ℕ) → get (standing moves Units) name ≡ bytes_at (area_after moves Units) name
  files_are name = laws.contents (area_after moves Units) name

  pub unit_files : (name bytes : List ℕ) → (bytes_at (area_after moves Units) name ≡ Some bytes) ↔ IsUnitOf laws name_of name bytes (unit_named name (units_after s.publications))
  unit_files name bytes = (
    λ there. unit_there laws name_of name bytes (get (standing moves Units) name) (unit_named name (units_after s.publications)) (stands.disk.unit_files name) (files_are name ∙ there),
    λ unit. sym (files_are name) ∙ file_there laws name_of name bytes (get (standing moves Units) name) (unit_named name (units_after s.publications)) (stands.disk.unit_files name) unit,
  )

  pub body_at : (name : List ℕ) (value : RecordValue) → StandsAs name_of s.records name value → BodyAt name_of (bytes_at (area_after moves Records) name) name value
  body_at name value at = (at.bytes, sym (stands.records name) ∙ at.stands, at.named, at.spelled)

  -- the records of some units stand
  pub bodies_of : (units : model.Units) → RecordsStand name_of s.records units → (name : List ℕ) (stored : StoredUnit) → unit_named name units ≡ Some stored
      → (length stored.values ≡ length stored.unit.records) × ((place : ℕ) (dep : RecordDep) (value : RecordValue) → slice_get stored.unit.records place ≡ Some dep → slice_get stored.values place ≡ Some value
      → BodyAt name_of (bytes_at (area_after moves Records) dep.name) dep.name value)
  bodies_of units stand name stored found =
      let values = found_passes (λ (u : StoredUnit). ValuesStand name_of s.records u.unit.records u.values) name units stored stand found in (
        values_length name_of s.records stored.unit.records stored.values values,
        λ place dep value at is. body_at dep.name value (value_at name_of s.records stored.unit.records stored.values place dep value values at is),
      )

  -- where no change pends each name has one value
  pub none_waits : s.pending ≡ None → IsSettledIn Units moves
  none_waits none = subst (λ (p : Option ℕ). OnePends name_of p s.publications moves) none stands.disk.one_pending

  -- ---- images

  -- what a crash leaves of the unit files where nothing of them waits
  settled_spell : (units : model.Units) → IsSettledIn Units moves → Spell name_of (standing moves Units) units → (image : Image) → IsImage moves image → Spell name_of (image Units) units
  settled_spell units settled spell image left name =
      subst (λ (v : Value). IsSpelledUnder name_of name v (unit_named name units)) (files_are name ∙ sym (laws.settled moves Units image name settled left)) (spell name)

  abbrev pub Before : Image → Type 0
  Before image = (mark : ℕ) × (s.pending ≡ Some mark) × (suc mark ≡ length s.publications) × Spell name_of (image Units) (units_at s.publications mark)

  -- units that a crash leaves, whose records it leaves too
  record LeftUnits (image : Image) : Type 0 where
    pub units : model.Units
    pub spell : Spell name_of (image Units) units
    pub stand : RecordsStand name_of s.records units
    pub alone : AreKept name_of moves units

  module _ (needed : NeededStand name_of s) (image : Image) (left : IsImage moves image) where
    both : (o : Option ℕ) → s.pending ≡ o → OnePends name_of o s.publications moves → (Spell name_of (image Units) (units_after s.publications) ⊎ Before image) × LeftUnits image
    both None is settled =
        let spell = settled_spell (units_after s.publications) settled stands.disk.unit_files image left in
        (inl spell, record { units = units_after s.publications; spell = spell; stand = needed.visible_ones; alone = stands.disk.image_records })
    both (Some mark) is pends = elim pends as (λ _. (Spell name_of (image Units) (units_after s.publications) ⊎ Before image) × LeftUnits image) [
      | inl settled ↦ let spell = settled_spell (units_after s.publications) settled stands.disk.unit_files image left in
          (inl spell, record { units = units_after s.publications; spell = spell; stand = needed.visible_ones; alone = stands.disk.image_records })
      | inr behind ↦ elim (behind.left (image Units) (left Units)) as (λ _. (Spell name_of (image Units) (units_after s.publications) ⊎ Before image) × LeftUnits image) [
        | inl spell ↦ (inl spell, record { units = units_after s.publications; spell = spell; stand = needed.visible_ones; alone = stands.disk.image_records })
        | inr spell ↦ (
          inr (mark, is, behind.last, spell),
          record {
            units = units_at s.publications mark;
            spell = spell;
            stand = subst (λ (p : Option ℕ). IfSome p (λ m. RecordsStand name_of s.records (units_at s.publications m))) is needed.pending;
            alone = behind.kept;
          },
        )
      ]
    ]

    pub one_pending : Spell name_of (image Units) (units_after s.publications) ⊎ Before image
    one_pending = (both s.pending refl stands.disk.one_pending).0

    pub image_records : (name bytes : List ℕ) (unit : UnitValue) (dep : RecordDep) → get (image Units) name ≡ Some bytes → UnitSpelling bytes unit → Contains unit.records dep
        → (body : List ℕ) × (values_of moves Records dep.name ≡ Some body ∷ []) × (dep.name ≡ name_of body) × ((value : RecordValue) × RecordSpelling body value)
    image_records name bytes unit dep there spelled has =
        let l : LeftUnits image = (both s.pending refl stands.disk.one_pending).1 in
        let found : IsUnitOf laws name_of name bytes (unit_named name l.units) = unit_there laws name_of name bytes (get (image Units) name) (unit_named name l.units) (l.spell name) there in
        let stored : StoredUnit = found.0 in
        let same : unit ≡ stored.unit = laws.one_value bytes unit stored.unit spelled found.3 in
        let place = place_of stored.unit.records dep (subst (λ (u : UnitValue). Contains u.records dep) same has) in
        let values = found_passes (λ (u : StoredUnit). ValuesStand name_of s.records u.unit.records u.values) name l.units stored l.stand found.1 in
        let value = some_value name_of s.records stored.unit.records stored.values place.0 dep values place.1 in
        let body = body_at dep.name value.0 value.1 in
        let needs : units_need dep.name l.units ≡ true = found_any (λ (u : StoredUnit). list_any (λ (d : RecordDep). bytes_eq d.name dep.name) u.unit.records) name l.units stored found.1
        (any_at (λ (d : RecordDep). bytes_eq d.name dep.name) stored.unit.records place.0 dep place.1 (bytes_same dep.name)) in
        (body.0, l.alone.alone dep.name needs ∙ ap (λ (v : Value). v ∷ []) body.1, body.2, (value.0, body.3))

  -- ---- leases

  pub put_body : (lane : ℕ) (name : List ℕ) → IfSome (lease_of s lane) (IsLeaseSound name_of s.records) → machine.was_put s lane name ≡ true
      → (body : List ℕ) × (bytes_at (area_after moves Records) name ≡ Some body) × (name ≡ name_of body) × ((value : RecordValue) × RecordSpelling body value)
  put_body lane name sound put = go (lease_of s lane) sound put
    where
      go : (o : Option state.Lease) → IfSome o (IsLeaseSound name_of s.records) → option_any (λ (l : state.Lease). has_name name l.put) o ≡ true
          → (body : List ℕ) × (bytes_at (area_after moves Records) name ≡ Some body) × (name ≡ name_of body) × ((value : RecordValue) × RecordSpelling body value)
      go None sound put = absurd (cc)
      go (Some l) sound put =
          let whole = whole_put name_of s.records name l.put sound.whole put in
          let body = body_at name whole.0 whole.1 in
          (body.0, body.1, body.2, (whole.0, body.3))
