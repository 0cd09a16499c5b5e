-- Unit files that spell units whose records stand are found whole.
use Rattle.std.proofs.Common.{◌≡◌, ℕ, Bool, true, false, ◌||◌, List, [], ◌∷◌, refl, ap, subst, ◌∙◌, Option, Some, None, is_some, Ok}
use Rattle.std.specs.List.{AllByRecursion, list_any, filter_map, cons_option}
use Rattle.std.specs.Map.{lookup, keys_of}
use Rattle.std.specs.BTreeMap.{is_at}
use Rattle.std.specs.Result.{result_ok}
use Rattle.std.specs.Option.{option_map}
use Rattle.std.specs.Str.{bytes_eq}
use Rattle.std.specs.FinMap.{find, is_sorted, entries, entries_sorted, get, get-entries}
use Rattle.std.proofs.lemmas.Cmp.{nat_list_eq_equiv}
use Rattle.ix_types.specs.Row.{text_cmp}
use Rattle.ix_dir.specs.declared.area.Area.TheVariants.{Units, Records}
use Rattle.ix_dir.specs.Images.{Value, Image}
use Rattle.ix_dir.proofs.Door.{holds, same_keys}
use Rattle.ix_record.specs.declared.value.RecordValue.{RecordValue}
use Rattle.ix_unit.specs.declared.value.RecordDep.{RecordDep}
use Rattle.ix_model.specs.declared.publication.StoredUnit.{StoredUnit}
use Rattle.ix_model.specs.Units as model
use Rattle.ix_model.specs.Units.{NamesRise, unit_named}
use Rattle.ix_machine.specs.declared.opened.Refused.{Refused}
use Rattle.ix_machine.specs.Needs.{units_need}
use Rattle.ix_machine.specs.Opening.{judged, sound_at, refusal}
use Rattle.ix_machine.specs.Sound.{StandsAs, ValuesStand, RecordsStand}
use Rattle.ix_machine.specs.State.{Files}
use Rattle.ix_opening.specs.Found.{opening_of}
use Rattle.ix_stops.specs.UnitFiles.{IsSpelledUnder, Spell}
use Rattle.ix_stops.proofs.ByName.{lookup_is_find, IsIn, all_in, rising_sorted}
use Rattle.ix_stops.specs.Given.{Laws}

-- ---- records that stand go on standing where their files stay

abbrev pub Stays : Files → Files → List ℕ → Type 0
Stays before after name = lookup (is_at (text_cmp name)) after ≡ lookup (is_at (text_cmp name)) before

left_or : (a b : Bool) → a ≡ true → (a || b) ≡ true
left_or true b e = refl
left_or false b e = cc

pub right_or : (a b : Bool) → b ≡ true → (a || b) ≡ true
right_or true b e = refl
right_or false b e = e

-- a record dependency has the name
abbrev pub has : List ℕ → RecordDep → Bool
has name dep = bytes_eq dep.name name

module _ (name_of : List ℕ → List ℕ) (before after : Files) where
  stands_on : (name : List ℕ) (value : RecordValue) → Stays before after name → StandsAs name_of before name value → StandsAs name_of after name value
  stands_on name value stays h = record { bytes = h.bytes; stands = stays ∙ h.stands; named = h.named; spelled = h.spelled }

  pub values_on : (deps : List RecordDep) (values : List RecordValue) → ((name : List ℕ) → list_any (has name) deps ≡ true → Stays before after name)
      → ValuesStand name_of before deps values → ValuesStand name_of after deps values
  values_on [] [] stay h = tt
  values_on [] (value ∷ values) stay h = h
  values_on (dep ∷ deps) [] stay h = h
  values_on (dep ∷ deps) (value ∷ values) stay h = (
    stands_on dep.name value (stay dep.name (left_or (has dep.name dep) (list_any (has dep.name) deps) (nat_list_eq_equiv.refl dep.name))) h.0,
    values_on deps values (λ name e. stay name (right_or (has name dep) (list_any (has name) deps) e)) h.1,
  )

  pub records_on : (units : model.Units) → ((name : List ℕ) → units_need name units ≡ true → Stays before after name) → RecordsStand name_of before units → RecordsStand name_of after units
  records_on [] stay h = tt
  records_on (entry ∷ units) stay h = (
    values_on entry.1.unit.records entry.1.values (λ name e. stay name (left_or (list_any (has name) entry.1.unit.records) (units_need name units) e)) h.0,
    records_on units (λ name e. stay name (right_or (list_any (has name) entry.1.unit.records) (units_need name units) e)) h.1,
  )

-- ---- files that spell units

module _ (laws : Laws) (name_of : List ℕ → List ℕ) (records : Files) where
  abbrev sound_in : Files → model.Units
  sound_in files = filter_map (sound_at name_of records) files

  abbrev refused_in : Files → List Refused
  refused_in files = filter_map (λ (file : List ℕ × List ℕ). refusal file.0 (judged name_of records file.0 file.1)) files

  is_judged : (name bytes : List ℕ) (stored : StoredUnit) → IsSpelledUnder name_of name (Some bytes) (Some stored) → ValuesStand name_of records stored.unit.records stored.values → judged name_of records name bytes ≡ Ok stored
  is_judged name bytes stored spelled values = laws.found name_of records name bytes stored (record { spelled = spelled.0; named = spelled.1; values = values })

  there : (name : List ℕ) (file : Value) (unit : Option StoredUnit) → IsSpelledUnder name_of name file unit → is_some file ≡ is_some unit
  there name None None h = refl
  there name None (Some u) h = absurd h
  there name (Some b) None h = absurd h
  there name (Some b) (Some u) h = refl

  abbrev Sound : Files → model.Units → Type 0
  Sound files units = (sound_in files ≡ units) × (refused_in files ≡ [])

  module _ (whole_files : Files) (whole_units : model.Units) (spelled : (q : List ℕ) → IsSpelledUnder name_of q (find text_cmp q whole_files) (find text_cmp q whole_units)) where
    one_more : (f : List ℕ × List ℕ) (u : List ℕ × StoredUnit) (files : Files) (units : model.Units) → f.0 ≡ u.0 → judged name_of records f.0 f.1 ≡ Ok u.1 → Sound files units → Sound (f ∷ files) (u ∷ units)
    one_more f u files units same is rest = (
      ap (λ r. cons_option (option_map (λ (unit : StoredUnit). (f.0, unit)) (result_ok r)) (sound_in files)) is ∙ (ap (λ (n : List ℕ). (n, u.1) ∷ sound_in files) same ∙ ap (λ us. u ∷ us) rest.0),
      ap (λ r. cons_option (refusal f.0 r) (refused_in files)) is ∙ rest.1,
    )

    side_by_side : (files : Files) (units : model.Units) → keys_of files ≡ keys_of units → AllByRecursion (IsIn whole_files) files → AllByRecursion (IsIn whole_units) units
        → RecordsStand name_of records units → Sound files units
    side_by_side [] [] keys files_in units_in stand = (refl, refl)
    side_by_side [] (u ∷ units) keys files_in units_in stand = absurd (cc)
    side_by_side (f ∷ files) [] keys files_in units_in stand = absurd (cc)
    side_by_side (f ∷ files) (u ∷ units) keys files_in units_in stand =
        let same : f.0 ≡ u.0 = cc in
        let rest : keys_of files ≡ keys_of units = cc in
        let file : find text_cmp f.0 whole_files ≡ Some f.1 = files_in.0 in
        let unit : find text_cmp f.0 whole_units ≡ Some u.1 = ap (λ n. find text_cmp n whole_units) same ∙ units_in.0 in
        let here : IsSpelledUnder name_of f.0 (Some f.1) (Some u.1) =
        subst (λ v. IsSpelledUnder name_of f.0 v (Some u.1)) file (subst (λ o. IsSpelledUnder name_of f.0 (find text_cmp f.0 whole_files) o) unit (spelled f.0)) in
        one_more f u files units same (is_judged f.0 f.1 u.1 here stand.0) (side_by_side files units rest files_in.1 units_in.1 stand.1)

  all_found : (files : Files) (units : model.Units) → is_sorted text_cmp files ≡ true → is_sorted text_cmp units ≡ true
      → ((q : List ℕ) → IsSpelledUnder name_of q (find text_cmp q files) (find text_cmp q units)) → RecordsStand name_of records units → Sound files units
  all_found files units files_rise units_rise spelled stand =
      let keys = same_keys files units files_rise units_rise (λ q. there q (find text_cmp q files) (find text_cmp q units) (spelled q)) in
      side_by_side files units spelled files units keys (all_in files files_rise) (all_in units units_rise) stand

-- ---- an image

-- the units are what an opening of the image finds, and it refuses none
pub found_in : (laws : Laws) (name_of : List ℕ → List ℕ) (image : Image) (units : model.Units) → NamesRise units → Spell name_of (image Units) units → RecordsStand name_of (entries (image Records)) units
    → ((opening_of name_of image).units ≡ units) × ((opening_of name_of image).refused ≡ [])
found_in laws name_of image units rise spell stand =
    all_found laws name_of (entries (image Records)) (entries (image Units)) units (holds _ (entries_sorted (image Units))) (rising_sorted units rise)
    (λ q. subst (λ v. IsSpelledUnder name_of q v (find text_cmp q units)) (get-entries (image Units) q)
    (subst (λ o. IsSpelledUnder name_of q (get (image Units) q) o) (lookup_is_find q units) (spell q)))
    stand
