-- What an opening leaves is where a run begins.
use Rattle.std.proofs.Common.{◌≡◌, ℕ, Bool, true, false, cond, List, [], ◌∷◌, ◌++◌, length, map, take, fold, refl, sym, ap, subst, ◌∙◌, Option, Some, None, Result, Ok, Err, arith}
use Rattle.std.specs.List.{filter_map, cons_option}
use Rattle.std.specs.Option.{option_map}
use Rattle.std.specs.Result.{result_ok}
use Rattle.std.specs.Str.{bytes_eq}
use Rattle.std.specs.Ordering.{eq_by_cmp}
use Rattle.std.specs.Cmp.Lexicographic.{texts_ties, same_text}
use Rattle.std.specs.FinMap.{find, entries, get, get-entries}
use Rattle.std.proofs.lemmas.List.Sums.{fold-append}
use Rattle.std.proofs.Math.Seq.{take-length, drop-length}
use Rattle.ix_types.specs.Row.{text_cmp}
use Rattle.ix_dir.specs.declared.area.Area.TheVariants.{Units, Records}
use Rattle.ix_dir.specs.declared.moves.Move.{Move}
use Rattle.ix_dir.specs.declared.moves.Move.TheVariants.{Removed, Synced}
use Rattle.ix_dir.specs.Crash.{standing}
use Rattle.ix_dir.specs.Images.{Value}
use Rattle.ix_dir.specs.Moves.{area_after, same_name}
use Rattle.ix_record.specs.declared.value.RecordValue.{RecordValue}
use Rattle.ix_unit.specs.declared.value.UnitValue.{UnitValue}
use Rattle.ix_unit.specs.Spelling.{UnitSpelling}
use Rattle.ix_unit.proofs.Door.{spelled_is_read}
use Rattle.ix_cabinet.specs.Scan.{IsUnitFile, HoldsUnits}
use Rattle.ix_model.specs.declared.publication.StoredUnit.{StoredUnit}
use Rattle.ix_model.specs.Units as model
use Rattle.ix_model.specs.Units.{units_after, unit_named}
use Rattle.ix_machine.specs.declared.opened.Refused.{Refused}
use Rattle.ix_machine.specs.declared.opened.UnitFault.{UnitFault}
use Rattle.ix_machine.specs.declared.opened.UnitFault.TheVariants.{WrongName}
use Rattle.ix_machine.specs.Counts.{changes_after}
use Rattle.ix_machine.specs.Needs.{visible}
use Rattle.ix_machine.specs.Opening.{sealed, sealed_unit, unit_of, values_in, stored, judged_unit, judged, sound_at, refusal}
use Rattle.ix_machine.specs.Run.{Opening, begun, IsSoundOpening}
use Rattle.ix_machine.specs.Sound.{RecordsStand}
use Rattle.ix_machine.specs.State.{Files, State}
use Rattle.ix_opening.specs.AfterOpening.{removals, names_of, opening_moves}
use Rattle.ix_opening.specs.Found.{opening_of}
use Rattle.ix_stops.specs.Changes.{units_moves, waiting_step, waiting}
use Rattle.ix_stops.specs.Given.{Laws, OpeningLaws}
use Rattle.ix_stops.specs.Prefixes.{CountsFrom}
use Rattle.ix_stops.specs.Stands.{StandsOnDisk}
use Rattle.ix_stops.specs.UnitFiles.{IsSpelledUnder, Spell}
use Rattle.ix_stops.proofs.ByName.{lookup_is_find}

-- ---- files of which none is refused

module _ (name_of : List ℕ → List ℕ) (records : Files) where
  abbrev sound_in : Files → model.Units
  sound_in files = filter_map (sound_at name_of records) files

  abbrev refused_in : Files → List Refused
  refused_in files = filter_map (λ (file : List ℕ × List ℕ). refusal file.0 (judged name_of records file.0 file.1)) files

  abbrev IsJudgedAs : List ℕ → Value → Option StoredUnit → Type 0
  IsJudgedAs name None None = Unit {0}
  IsJudgedAs name None (Some unit) = ⊥
  IsJudgedAs name (Some bytes) None = ⊥
  IsJudgedAs name (Some bytes) (Some unit) = judged name_of records name bytes ≡ Ok unit

  abbrev Alike : List ℕ → Files → model.Units → Type 0
  Alike q files units = IsJudgedAs q (find text_cmp q files) (find text_cmp q units)

  one_first : (q : List ℕ) (f : List ℕ × List ℕ) (unit : StoredUnit) (files : Files) (units : model.Units) → judged name_of records f.0 f.1 ≡ Ok unit → Alike q files units → Alike q (f ∷ files) ((f.0, unit) ∷ units)
  one_first q f unit files units is rest =
      (elim (same_name q f.0) as (λ b. b ≡ same_name q f.0 → Alike q (f ∷ files) ((f.0, unit) ∷ units)) [
        | true ↦ λ same.
            let ties : eq_by_cmp text_cmp q f.0 ≡ true = sym (texts_ties q f.0) ∙ sym same in
            let own : judged name_of records q f.1 ≡ Ok unit = ap (λ n. judged name_of records n f.1) (same_text q f.0 same) ∙ is in
            subst (λ (b : Bool). IsJudgedAs q (cond b (Some f.1) (find text_cmp q files)) (cond b (Some unit) (find text_cmp q units))) (sym ties) own
        | false ↦ λ same.
            let ties : eq_by_cmp text_cmp q f.0 ≡ false = sym (texts_ties q f.0) ∙ sym same in
            subst (λ (b : Bool). IsJudgedAs q (cond b (Some f.1) (find text_cmp q files)) (cond b (Some unit) (find text_cmp q units))) (sym ties) rest
      ]) refl

  all_judged : (files : Files) → refused_in files ≡ [] → (q : List ℕ) → Alike q files (sound_in files)
  all_judged [] none q = tt
  all_judged (f ∷ files) none q =
      (elim (judged name_of records f.0 f.1) as (λ r. judged name_of records f.0 f.1 ≡ r → cons_option (refusal f.0 r) (refused_in files) ≡ []
      → Alike q (f ∷ files) (cons_option (option_map (λ (unit : StoredUnit). (f.0, unit)) (result_ok r)) (sound_in files))) [
        | Ok unit ↦ λ is none. one_first q f unit files (sound_in files) is (all_judged files none q)
        | Err fault ↦ λ is none. absurd (cc)
      ]) refl none

  -- ---- the unit of a judged file

  spelled_unit : (bytes : List ℕ) (unit : UnitValue) → UnitSpelling bytes unit → unit_of bytes ≡ Ok unit
  spelled_unit bytes unit spelled = let read = spelled_is_read bytes unit spelled in ap (sealed_unit bytes) read.1.0 ∙ ap (sealed unit) read.1.1

  of_values : (unit : UnitValue) (found : StoredUnit) (r : Result (List RecordValue) UnitFault) → stored unit r ≡ Ok found → unit ≡ found.unit
  of_values unit found (Ok values) e =
      let whole : StoredUnit = record { unit = unit; values = values } in
      let same : whole ≡ found = cc in
      ap (λ (u : StoredUnit). u.unit) same
  of_values unit found (Err fault) e = absurd (cc)

  of_name : (unit : UnitValue) (found : StoredUnit) (b : Bool) → cond b (stored unit (values_in name_of records unit.records)) (Err WrongName) ≡ Ok found → unit ≡ found.unit
  of_name unit found true e = of_values unit found (values_in name_of records unit.records) e
  of_name unit found false e = absurd (cc)

  is_of_unit : (name bytes : List ℕ) (found : StoredUnit) → judged name_of records name bytes ≡ Ok found → (file : IsUnitFile name_of name bytes) → file.unit ≡ found.unit
  is_of_unit name bytes found is file =
      of_name file.unit found (bytes_eq name (name_of file.unit.output)) (sym (ap (judged_unit name_of records name) (spelled_unit bytes file.unit file.spelled)) ∙ is)

  spelled_so : (name : List ℕ) (file : Value) (unit : Option StoredUnit) → IsJudgedAs name file unit → ((bytes : List ℕ) → file ≡ Some bytes → IsUnitFile name_of name bytes) → IsSpelledUnder name_of name file unit
  spelled_so name None None h holds = tt
  spelled_so name None (Some unit) h holds = absurd h
  spelled_so name (Some bytes) None h holds = absurd h
  spelled_so name (Some bytes) (Some unit) h holds =
      let file = holds bytes refl in
      subst (λ (u : UnitValue). UnitSpelling bytes u × (name ≡ name_of u.output)) (is_of_unit name bytes unit h file) (file.spelled, file.named)

-- ---- nothing waits

none_behind : (n : ℕ) (names : List (List ℕ)) → fold waiting_step 0 (removals names) ≡ 0
none_behind n [] = refl
none_behind n (name ∷ names) = fold-append waiting_step 0 (map (Removed Units) (name ∷ names)) (Synced Units ∷ [])

-- ---- all of it

module _ (laws : Laws) (name_of : List ℕ → List ℕ) (before : List Move) (opens : OpeningLaws name_of before) (lanes : ℕ) (holds : HoldsUnits name_of (before ++ opening_moves name_of before))
    (sound : IsSoundOpening name_of (opening_of name_of (standing before))) where
  abbrev now : List Move
  now = before ++ opening_moves name_of before

  abbrev found : Opening
  found = opening_of name_of (standing before)

  abbrev first : State
  first = begun found lanes

  files_spell : Spell name_of (standing now Units) (visible first)
  files_spell q =
      let judged_so = all_judged name_of (entries (standing now Records)) (entries (standing now Units)) opens.refused q in
      let names : find text_cmp q (opening_of name_of (standing now)).units ≡ unit_named q (visible first) =
      ap (find text_cmp q) (opens.units ∙ sym (opens.visible_ones lanes)) ∙ sym (lookup_is_find q (visible first)) in
      let there = sym (get-entries (standing now Units) q) in
      spelled_so name_of (entries (standing now Records)) q (get (standing now Units) q) (unit_named q (visible first))
      (subst (λ o. IsJudgedAs name_of (entries (standing now Records)) q (get (standing now Units) q) o) names
      (subst (λ v. IsJudgedAs name_of (entries (standing now Records)) q v (find text_cmp q (opening_of name_of (standing now)).units)) there judged_so))
      (λ bytes is. holds q bytes (sym (laws.contents (area_after now Units) q) ∙ is))

  records_stand : RecordsStand name_of (entries (standing now Records)) (visible first)
  records_stand =
      subst (λ c. RecordsStand name_of (entries c) (visible first)) (sym opens.records)
      (subst (RecordsStand name_of (entries (standing before Records))) (sym (opens.visible_ones lanes)) sound.stand)

  pub begins_on_disk : StandsOnDisk name_of first now
  begins_on_disk = record {
    records = λ q.
        lookup_is_find q (entries (standing before Records)) ∙ sym (get-entries (standing before Records) q)
        ∙ ap (λ c. get c q) (sym opens.records) ∙ laws.contents (area_after now Records) q;
    disk = record {
      unit_files = files_spell;
      image_records = record { stand = records_stand; alone = λ name _. opens.settled_records name };
      one_pending = opens.settled_units;
    };
  }

  pub counts_from_opening : CountsFrom (length now) (length first.publications) first.publications now
  counts_from_opening =
      let all : take (length now) now ≡ now = take-length now in
      let n : ℕ = waiting before in
      let none : waiting now ≡ 0 = fold-append waiting_step 0 before (opening_moves name_of before) ∙ none_behind n (names_of found.refused) in
      record {
        within = omega arith;
        none_waits = ap waiting all ∙ none;
        each = ap (λ (ms : List Move). (changes_after (length first.publications) (units_moves ms)).made) (drop-length now);
      }
