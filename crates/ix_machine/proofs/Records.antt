-- Records that stand go on standing where the files under their names stay.
use Rattle.std.proofs.Common.{◌≡◌, ℕ, Bool, true, List, [], ◌∷◌, Option, Some, None, IfSome, refl}
use Rattle.std.specs.List.{list_any}
use Rattle.std.specs.Map.{lookup}
use Rattle.std.specs.BTreeMap.{is_at}
use Rattle.std.specs.Str.{bytes_eq}
use Rattle.ix_types.specs.Row.{text_cmp}
use Rattle.ix_record.specs.declared.value.RecordValue.{RecordValue}
use Rattle.ix_unit.specs.declared.value.RecordDep.{RecordDep}
use Rattle.ix_model.specs.Units.{Units, units_at}
use Rattle.ix_machine.specs.Needs.{units_need, visible, seen_at, is_needed}
use Rattle.ix_machine.specs.Sound.{StandsAs, ValuesStand, RecordsStand, NeededStand}
use Rattle.ix_machine.specs.State.{Files, State, held_by}
use Rattle.ix_machine.proofs.Lists.{or_left, or_right}
use Rattle.ix_machine.proofs.Needed.{needed_visible, needed_pending, needed_import, needed_current, needed_held}
use Rattle.std.proofs.lemmas.Cmp.{nat_list_eq_equiv}

-- what stands under the name stays there
abbrev pub Stays : Files → Files → List ℕ → Type 0
Stays before after name = (bytes : List ℕ) → lookup (is_at (text_cmp name)) before ≡ Some bytes → lookup (is_at (text_cmp name)) after ≡ Some bytes

module _ (name_of : List ℕ → List ℕ) (before after : Files) where
  pub stands-stays : (name : List ℕ) (value : RecordValue) → Stays before after name → StandsAs name_of before name value → StandsAs name_of after name value
  stands-stays name value stays h = record { bytes = h.bytes; stands = stays h.bytes h.stands; named = h.named; spelled = h.spelled }

  abbrev dep_is : List ℕ → RecordDep → Bool
  dep_is name dep = bytes_eq dep.name name

  values-stay : (deps : List RecordDep) (values : List RecordValue) → ((name : List ℕ) → list_any (dep_is name) deps ≡ true → Stays before after name)
      → ValuesStand name_of before deps values → ValuesStand name_of after deps values
  values-stay [] [] stay h = tt
  values-stay [] (value ∷ values) stay h = h
  values-stay (dep ∷ deps) [] stay h = h
  values-stay (dep ∷ deps) (value ∷ values) stay h = (
    stands-stays dep.name value (stay dep.name (or_left (list_any (dep_is dep.name) deps) (nat_list_eq_equiv.refl dep.name))) h.0,
    values-stay deps values (λ name e. stay name (or_right (dep_is name dep) e)) h.1,
  )

  pub records-stay : (units : Units) → ((name : List ℕ) → units_need name units ≡ true → Stays before after name) → RecordsStand name_of before units → RecordsStand name_of after units
  records-stay [] stay h = tt
  records-stay (entry ∷ units) stay h = (
    values-stay entry.1.unit.records entry.1.values (λ name e. stay name (or_left (units_need name units) e)) h.0,
    records-stay units (λ name e. stay name (or_right (list_any (dep_is name) entry.1.unit.records) e)) h.1,
  )

-- the same state with other record files
abbrev pub with_records : State → Files → State
with_records s records = record s { records = records }

-- to split an option and keep what it is
pub if_some : {X : Type 0} (P Q : X → Type 0) (o : Option X) → ((x : X) → o ≡ Some x → P x → Q x) → IfSome o P → IfSome o Q
if_some P Q None f h = tt
if_some P Q (Some x) f h = f x refl h

module _ (name_of : List ℕ → List ℕ) (s : State) (after : Files) (stay : (name : List ℕ) → is_needed s name ≡ true → Stays s.records after name) where
  over : (units : Units) → ((name : List ℕ) → units_need name units ≡ true → is_needed s name ≡ true) → RecordsStand name_of s.records units → RecordsStand name_of after units
  over units need = records-stay name_of s.records after units (λ name e. stay name (need name e))

  pub needed-stay : NeededStand name_of s → NeededStand name_of (with_records s after)
  needed-stay h = record {
    visible_ones = over (visible s) (λ name. needed_visible s name) h.visible_ones;
    pending = if_some (λ mark. RecordsStand name_of s.records (units_at s.publications mark)) (λ mark. RecordsStand name_of after (units_at s.publications mark)) s.pending
        (λ mark is. over (units_at s.publications mark) (λ name. needed_pending s name mark is)) h.pending;
    imported = if_some (λ i. RecordsStand name_of s.records (seen_at s i.mark)) (λ i. RecordsStand name_of after (seen_at s i.mark)) s.import
        (λ i is. over (seen_at s i.mark) (λ name. needed_import s name i is)) h.imported;
    current = over (seen_at s s.current) (λ name. needed_current s name) h.current;
    held = λ lane. if_some (λ mark. RecordsStand name_of s.records (seen_at s mark)) (λ mark. RecordsStand name_of after (seen_at s mark)) (held_by s lane)
        (λ mark is. over (seen_at s mark) (λ name. needed_held s name lane mark is)) (h.held lane);
  }
