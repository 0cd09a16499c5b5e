-- What a load and a scan of the files say of the state that they hold.
use Rattle.std.proofs.Common.{◌≡◌, ◌≢◌, ℕ, zero, suc, ◌+◌, ◌≤◌, ◌<◌, Bool, true, false, ◌||◌, List, [], ◌∷◌, ◌++◌, length, take, drop, map, refl, sym, ap, subst, ◌∙◌, Option, Some, None, is_some, IfSome, IsSome, Contains, All, eqb, arith}
use Rattle.std.specs.FinMap.{get, get-empty, empty}
use Rattle.std.specs.List.{list_any}
use Rattle.std.specs.Map.{lookup}
use Rattle.std.specs.BTreeMap.{is_at}
use Rattle.std.specs.Option.{option_map}
use Rattle.std.specs.Str.{bytes_eq}
use Rattle.std.proofs.lemmas.Bool.{eqb-true, eq-eqb}
use Rattle.std.proofs.lemmas.List.{length-append, take-append-drop, take-append-le}
use Rattle.std.proofs.lemmas.Slice.Eq.{bytes_eq-Decides}
use Rattle.std.proofs.Math.Seq.{take-length}
use Rattle.ix_types.specs.Row.{text_cmp}
use Rattle.ix_dir.specs.declared.area.Area.TheVariants.{Units, Records}
use Rattle.ix_dir.specs.declared.moves.Move.{Move}
use Rattle.ix_dir.specs.Crash.{standing}
use Rattle.ix_dir.specs.Files.{File, Files, bytes_at}
use Rattle.ix_dir.specs.Images.{Value}
use Rattle.ix_dir.specs.Moves.{area_after}
use Rattle.ix_dir.specs.Stamps.{HasFreshStamps}
use Rattle.ix_dir.specs.WhatAChangeLeaves.{Adds}
use Rattle.ix_record.specs.declared.value.RecordValue.{RecordValue}
use Rattle.ix_record.specs.Spelling.{RecordSpelling}
use Rattle.ix_unit.specs.declared.batch.UnitPut.{UnitPut}
use Rattle.ix_unit.specs.declared.value.RecordDep.{RecordDep}
use Rattle.ix_unit.specs.declared.value.UnitValue.{UnitValue}
use Rattle.ix_unit.specs.Spelling.{UnitSpelling}
use Rattle.ix_shelf.specs.Answers as shelf
use Rattle.ix_cabinet.specs.Scan.{StampMap, stamps_in, changed, gone, IsChanged, IsGone, IsUnitAt}
use Rattle.ix_model.specs.declared.publication.StoredUnit.{StoredUnit}
use Rattle.ix_model.specs.Units as model
use Rattle.ix_model.specs.Units.{unit_named}
use Rattle.ix_machine.specs.Needs.{units_need, visible}
use Rattle.ix_machine.specs.Sound.{StandsAs, ValuesStand, RecordsStand}
use Rattle.ix_machine.specs.State as machine
use Rattle.ix_machine.specs.State.{State}
use Rattle.ix_stops.specs.Stands.{StandsOnDisk}
use Rattle.ix_stops.specs.UnitFiles.{IsSpelledUnder, Spell}
use Rattle.ix_shelf.specs.Shelf.{OnShelf}
use Rattle.ix_changes.specs.Given.{LookLaws}
use Rattle.ix_changes.specs.Holds.{Holds}
use Rattle.ix_changes.specs.Stamps.{AreStampsOf}

-- ---- a record that units need

module _ (name_of : List ℕ → List ℕ) (records : machine.Files) (name : List ℕ) where
  abbrev Stands : Type 0
  Stands = (value : RecordValue) × StandsAs name_of records name value

  abbrev has : RecordDep → Bool
  has dep = bytes_eq dep.name name

  of_values : (deps : List RecordDep) (values : List RecordValue) → ValuesStand name_of records deps values → list_any has deps ≡ true → Stands
  of_values [] values h needed = absurd (cc)
  of_values (dep ∷ deps) [] h needed = absurd h
  of_values (dep ∷ deps) (value ∷ values) h needed =
      (elim (has dep) as (λ b. has dep ≡ b → (b || list_any has deps) ≡ true → Stands) [
        | true ↦ λ is needed. let same : dep.name ≡ name = (bytes_eq-Decides dep.name name).0 is in (value, subst (λ n. StandsAs name_of records n value) same h.0)
        | false ↦ λ is needed. of_values deps values h.1 needed
      ]) refl needed

  pub needed_stands : (units : model.Units) → RecordsStand name_of records units → units_need name units ≡ true → Stands
  needed_stands [] h needed = absurd (cc)
  needed_stands (u ∷ units) h needed =
      (elim (list_any has u.1.unit.records) as (λ b. list_any has u.1.unit.records ≡ b → (b || units_need name units) ≡ true → Stands) [
        | true ↦ λ is needed. of_values u.1.unit.records u.1.values h.0 is
        | false ↦ λ is needed. needed_stands units h.1 needed
      ]) refl needed

module _ (name_of : List ℕ → List ℕ) (s : State) (moves : List Move) (stands : StandsOnDisk name_of s moves) (name : List ℕ) where
  pub stands_whole : (value : RecordValue) → StandsAs name_of s.records name value → shelf.StandsWhole name_of name moves
  stands_whole value h = record { bytes = h.bytes; stands = sym (stands.records name) ∙ h.stands; whole = record { named = h.named; spelled = (value, h.spelled) } }

  pub same_value : LookLaws → (value expected : RecordValue) → StandsAs name_of s.records name expected → shelf.IsRecordOf name_of name (Some moves) value → value ≡ expected
  same_value laws value expected h loaded =
      let there : Some loaded.bytes ≡ Some h.bytes = sym loaded.stands ∙ sym (stands.records name) ∙ h.stands in
      let same : loaded.bytes ≡ h.bytes = cc in
      laws.one_record h.bytes value expected (subst (λ b. RecordSpelling b value) same loaded.spelled) h.spelled

-- ---- a scan

contains_named : (puts : List UnitPut) (name : List ℕ) → Contains (map (λ (p : UnitPut). p.name) puts) name → (put : UnitPut) × Contains puts put × (put.name ≡ name)
contains_named [] name (k, small, is) = absurd (omega (arith, small))
contains_named (p ∷ puts) name (zero, small, is) = (p, (0, omega arith, refl), is)
contains_named (p ∷ puts) name (suc k, small, is) =
    let rest = contains_named puts name (k, omega (arith, small), is) in
    let at = rest.1 in
    let below = at.1 in
    (rest.0, (suc at.0, omega (arith, below), at.2), rest.2)

module _ (laws : LookLaws) (name_of : List ℕ → List ℕ) (s : State) (moves : List Move) (stands : StandsOnDisk name_of s moves) where
  abbrev unit_at : List ℕ → model.Units → Option UnitValue
  unit_at name units = option_map (λ (stored : StoredUnit). stored.unit) (unit_named name units)

  abbrev files : Files
  files = area_after moves Units

  spelled_at : (ms : List Move) (units : model.Units) (name : List ℕ) → Spell name_of (standing ms Units) units → IsSpelledUnder name_of name (bytes_at (area_after ms Units) name) (unit_named name units)
  spelled_at ms units name spell = subst (λ v. IsSpelledUnder name_of name v (unit_named name units)) (laws.contents (area_after ms Units) name) (spell name)

  of_bytes : (name bytes : List ℕ) (unit : UnitValue) (value : Value) (stored : Option StoredUnit) → value ≡ Some bytes → UnitSpelling bytes unit → IsSpelledUnder name_of name value stored → option_map (λ (u : StoredUnit). u.unit) stored ≡ Some unit
  of_bytes name bytes unit None stored is spelled h = absurd (cc)
  of_bytes name bytes unit (Some b) None is spelled h = absurd h
  of_bytes name bytes unit (Some b) (Some stored) is spelled h = let same : b ≡ bytes = cc in ap Some (laws.one_unit bytes stored.unit unit (subst (λ x. UnitSpelling x stored.unit) same h.0) spelled)

  pub scan_puts : (put : UnitPut) → IsUnitAt files put → unit_at put.name (visible s) ≡ Some put.unit.value
  scan_puts put at = of_bytes put.name at.bytes put.unit.value (bytes_at files put.name) (unit_named put.name (visible s)) at.stands at.spelled (spelled_at moves (visible s) put.name stands.disk.unit_files)

  of_none : (name : List ℕ) (value : Value) (stored : Option StoredUnit) → value ≡ None → IsSpelledUnder name_of name value stored → stored ≡ None
  of_none name None None is h = refl
  of_none name None (Some stored) is h = absurd h
  of_none name (Some b) stored is h = absurd (cc)

  no_file : (ms : List Move) (name : List ℕ) → get (stamps_in (area_after ms Units)) name ≡ None → bytes_at (area_after ms Units) name ≡ None
  no_file ms name none = by_file (get (area_after ms Units) name) (sym (laws.stamp_of (area_after ms Units) name) ∙ none)
    where
      by_file : (o : Option File) → option_map (λ (f : File). f.stamp) o ≡ None → option_map (λ (f : File). f.bytes) o ≡ None
      by_file None e = refl
      by_file (Some f) e = absurd (cc)

  pub scan_goes : (known now : StampMap) (name : List ℕ) → now ≡ stamps_in files → Contains (gone known now) name → unit_named name (visible s) ≡ None
  scan_goes known now name is there =
      let none = ap (λ m. get m name) (sym is) ∙ ((laws.is_gone known now name).0 there).is_gone in
      of_none name (bytes_at files name) (unit_named name (visible s)) (no_file moves name none) (spelled_at moves (visible s) name stands.disk.unit_files)

  module _ (before : model.Units) (known now : StampMap) (stamps : AreStampsOf name_of before known moves) (is_now : now ≡ stamps_in files) (name : List ℕ) where
    abbrev earlier : List Move
    earlier = take stamps.moment moves

    abbrev Same : Type 0
    Same = unit_at name (visible s) ≡ unit_at name before

    both_none : bytes_at files name ≡ None → bytes_at (area_after earlier Units) name ≡ None → Same
    both_none none was_none =
        ap (option_map (λ (u : StoredUnit). u.unit)) (of_none name (bytes_at files name) (unit_named name (visible s)) none (spelled_at moves (visible s) name stands.disk.unit_files)
        ∙ sym (of_none name (bytes_at (area_after earlier Units) name) (unit_named name before) was_none (spelled_at earlier before name stamps.spelled)))

    alike : (here there : Value) (stored was : Option StoredUnit) → here ≡ there → IsSpelledUnder name_of name here stored → IsSpelledUnder name_of name there was → option_map (λ (u : StoredUnit). u.unit) stored ≡ option_map (λ (u : StoredUnit). u.unit) was
    alike None there None None same h k = refl
    alike None there None (Some w) same h k = absurd (subst (λ v. IsSpelledUnder name_of name v (Some w)) (sym same) k)
    alike None there (Some u) was same h k = absurd h
    alike (Some b) there None was same h k = absurd h
    alike (Some b) there (Some u) None same h k = absurd (subst (λ v. IsSpelledUnder name_of name v None) (sym same) k)
    alike (Some b) there (Some u) (Some w) same h k = let both = subst (λ v. IsSpelledUnder name_of name v (Some w)) (sym same) k in ap Some (laws.one_unit b u.unit w.unit h.0 both.0)

    same_bytes : bytes_at files name ≡ bytes_at (area_after earlier Units) name → Same
    same_bytes same = alike (bytes_at files name) (bytes_at (area_after earlier Units) name) (unit_named name (visible s)) (unit_named name before) same (spelled_at moves (visible s) name stands.disk.unit_files) (spelled_at earlier before name stamps.spelled)

    adds : Adds earlier moves
    adds = record { more = drop stamps.moment moves; added = sym (take-append-drop stamps.moment moves) }

    module _ (fresh : HasFreshStamps moves) where
      same_files : (o w : Option File) (stamp : ℕ) → get files name ≡ o → get (area_after earlier Units) name ≡ w → option_map (λ (f : File). f.stamp) o ≡ Some stamp → option_map (λ (f : File). f.stamp) w ≡ Some stamp → o ≡ w
      same_files None w stamp here there e k = absurd (cc)
      same_files (Some f) None stamp here there e k = absurd (cc)
      same_files (Some f) (Some g) stamp here there e k =
          let a : f.stamp ≡ stamp = cc in
          let b : g.stamp ≡ stamp = cc in
          ap Some (sym (laws.same_file earlier moves Units name g f adds fresh there here (b ∙ sym a)))

      same_stamp : (stamp : ℕ) → get now name ≡ Some stamp → get known name ≡ Some stamp → Same
      same_stamp stamp here there =
          let a = sym (laws.stamp_of files name) ∙ ap (λ m. get m name) (sym is_now) ∙ here in
          let b = sym (laws.stamp_of (area_after earlier Units) name) ∙ ap (λ m. get m name) (sym stamps.stamped) ∙ there in
          same_bytes (ap (option_map (λ (f : File). f.bytes)) (same_files (get files name) (get (area_after earlier Units) name) stamp refl refl a b))

      module _ (not_changed : IsChanged known now name → ⊥) (not_gone : IsGone known now name → ⊥) where
        by_known : (here there : Option ℕ) → get now name ≡ here → get known name ≡ there → Same
        by_known None None here there =
            both_none (no_file moves name (ap (λ m. get m name) (sym is_now) ∙ here)) (no_file earlier name (ap (λ m. get m name) (sym stamps.stamped) ∙ there))
        by_known None (Some k) here there = absurd (not_gone (record { is_known = ap is_some there; is_gone = here }))
        by_known (Some n) None here there = absurd (not_changed (record { stamp = n; is_now = here; not_known = λ e. let no : None ≡ Some n = sym there ∙ e in absurd (cc) }))
        by_known (Some n) (Some k) here there =
            (elim (eqb k n) as (λ b. eqb k n ≡ b → Same) [
              | true ↦ λ is. same_stamp n here (there ∙ ap Some (eqb-true k n is))
              | false ↦ λ is. absurd (not_changed (record {
                stamp = n;
                is_now = here;
                not_known = λ e. let both : Some k ≡ Some n = sym there ∙ e in let same : k ≡ n = cc in let no : true ≡ false = sym (eq-eqb k n same) ∙ is in absurd (cc);
              }))
            ]) refl

      pub scan_stays : (puts : List UnitPut) → map (λ (p : UnitPut). p.name) puts ≡ changed known now → ((put : UnitPut) → Contains puts put → put.name ≢ name) → (Contains (gone known now) name → ⊥) → Same
      scan_stays puts names not_put not_gone =
          by_known
          (λ is_changed. let put = contains_named puts name (subst (λ ns. Contains ns name) (sym names) ((laws.is_changed known now name).1 is_changed)) in not_put put.0 put.1 put.2)
          (λ is_gone. not_gone ((laws.is_gone known now name).1 is_gone))
          (get now name) (get known name) refl refl

-- ---- stamps

pub stamps_now : (name_of : List ℕ → List ℕ) (s : State) (moves : List Move) → StandsOnDisk name_of s moves → AreStampsOf name_of (visible s) (stamps_in (area_after moves Units)) moves
stamps_now name_of s moves stands =
    let all = take-length moves in
    record {
      moment = length moves;
      within = omega arith;
      stamped = ap (λ ms. stamps_in (area_after ms Units)) (sym all);
      spelled = subst (λ ms. Spell name_of (standing ms Units) (visible s)) (sym all) stands.disk.unit_files;
    }

pub stamps_stay : (name_of : List ℕ → List ℕ) (units : model.Units) (stamps : StampMap) (before now : List Move) → AreStampsOf name_of units stamps before → Adds before now → AreStampsOf name_of units stamps now
stamps_stay name_of units stamps before now are adds =
    let front : take are.moment now ≡ take are.moment before = ap (take are.moment) adds.added ∙ take-append-le are.moment before adds.more are.within in
    let n : length now ≡ length before + length adds.more = ap length adds.added ∙ length-append before adds.more in
    let within = are.within in
    record {
      moment = are.moment;
      within = omega (arith, n, within);
      stamped = are.stamped ∙ ap (λ ms. stamps_in (area_after ms Units)) (sym front);
      spelled = subst (λ ms. Spell name_of (standing ms Units) units) (sym front) are.spelled;
    }

-- what is held of told moves is on disk
pub on_disk : (name_of : List ℕ → List ℕ) (s : State) (on_shelf : OnShelf) (moves : List Move) → Holds name_of s on_shelf (Some moves) → StandsOnDisk name_of s moves
on_disk name_of s on_shelf moves holds = let is = holds.is in let same : holds.told ≡ moves = cc in subst (StandsOnDisk name_of s) same holds.stands
