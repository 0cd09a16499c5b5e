-- At its end an opening leaves a units area of units alone.
use Rattle.std.proofs.Common.{◌≡◌, ℕ, suc, Bool, true, false, cond, ◌||◌, List, [], ◌∷◌, map, refl, sym, ap, subst, ◌∙◌, Option, Some, None, is_some, option_and_then, IfSome, IfOk, OnOk, All, Result, Ok, Err, is_ok, arith}
use Rattle.std.specs.List.{list_any}
use Rattle.std.specs.Result.{result_ok}
use Rattle.std.specs.Map.{keys_of}
use Rattle.std.specs.Ordering.{eq_by_cmp}
use Rattle.std.specs.Cmp.Lexicographic.{texts_ties, same_text}
use Rattle.std.specs.FinMap.{find, entries, entries_sorted, get-entries}
use Rattle.std.specs.FinMap.Entries.{is_some-find}
use Rattle.std.proofs.lemmas.Option.{same_Some}
use Rattle.ix_types.specs.Row.{text_cmp}
use Rattle.ix_dir.specs.declared.area.Area.TheVariants.{Units, Records}
use Rattle.ix_dir.specs.declared.moves.Move.{Move}
use Rattle.ix_dir.specs.Crash.{standing}
use Rattle.ix_dir.specs.Files.{bytes_at}
use Rattle.ix_dir.specs.Images.{Value}
use Rattle.ix_dir.specs.Moves.{area_after, same_name}
use Rattle.ix_dir.specs.WhatAChangeLeaves.{IfTold}
use Rattle.ix_dir.proofs.Door.{holds}
use Rattle.ix_unit.specs.declared.batch.UnitPut.{UnitPut}
use Rattle.ix_unit.specs.Spelling.{UnitSpelling}
use Rattle.ix_cabinet.specs.Scan.{IsNamedUnit, IsUnitAt, IsUnitFile, HoldsUnits}
use Rattle.ix_model.specs.declared.publication.StoredUnit.{StoredUnit}
use Rattle.ix_machine.specs.declared.opened.UnitFault.{UnitFault}
use Rattle.ix_machine.specs.Opening.{judged}
use Rattle.ix_machine.specs.State.{Files}
use Rattle.ix_opening.specs.declared.looking.Found.{Found}
use Rattle.ix_opening.specs.AfterOpening.{sound_bytes}
use Rattle.ix_opening.specs.Found.{opening_of, Tells}
use Rattle.ix_opening.proofs.AllFound.{put_names, unit_names}
use Rattle.ix_opening.proofs.FilesThatStand.{in_contents}
use Rattle.ix_opening.proofs.SameUnits.{sound_in, find_sound}

all_tail : {A : Type 0} (P : A → Type 0) (x : A) (xs : List A) → All P (x ∷ xs) → All P xs
all_tail P x xs all = λ k d small. all (suc k) d (omega arith)

-- one of the units has the name
member : (P Q : UnitPut → Type 0) (name : List ℕ) (puts : List UnitPut) → All P puts → All Q puts → list_any (eq_by_cmp text_cmp name) (map (λ p. p.name) puts) ≡ true
    → (put : UnitPut) × (put.name ≡ name) × P put × Q put
member P Q name [] all also listed = cc
member P Q name (p ∷ puts) all also listed =
    (elim (same_name name p.name) as (λ b. b ≡ same_name name p.name → (b || list_any (eq_by_cmp text_cmp name) (map (λ p. p.name) puts)) ≡ true → (put : UnitPut) × (put.name ≡ name) × P put × Q put) [
      | true ↦ λ same listed. (p, sym (same_text name p.name same), all 0 p (omega arith), also 0 p (omega arith))
      | false ↦ λ same listed. member P Q name puts (all_tail P p puts all) (all_tail Q p puts also) listed
    ]) refl (ap (λ (b : Bool). b || list_any (eq_by_cmp text_cmp name) (map (λ p. p.name) puts)) (texts_ties name p.name) ∙ listed)

module _ (name_of : List ℕ → List ℕ) (before : List Move) (found : Found) (tells : Tells found (opening_of name_of (standing before)))
    (at : All (IsUnitAt (area_after before Units)) found.units) (named : All (IsNamedUnit name_of) found.units) where
  abbrev records : Files
  records = entries (standing before Records)

  -- a sound file is that of a unit that was found
  sound_is_found : (name bytes : List ℕ) (unit : StoredUnit) → bytes_at (area_after before Units) name ≡ Some bytes → judged name_of records name bytes ≡ Ok unit → IsUnitFile name_of name bytes
  sound_is_found name bytes unit stands is =
      let es = entries (standing before Units) in
      let there : find text_cmp name es ≡ Some bytes = sym (get-entries (standing before Units) name) ∙ (in_contents (area_after before Units) name ∙ stands) in
      let kept : find text_cmp name (sound_in name_of records es) ≡ Some unit =
      find_sound name_of records name es (holds _ (entries_sorted (standing before Units)))
      ∙ (ap (option_and_then (λ (b : List ℕ). result_ok (judged name_of records name b))) there ∙ ap result_ok is) in
      let listed : list_any (eq_by_cmp text_cmp name) (keys_of (sound_in name_of records es)) ≡ true = sym (is_some-find text_cmp name (sound_in name_of records es)) ∙ ap is_some kept in
      let names : map (λ p. p.name) found.units ≡ keys_of (sound_in name_of records es) = put_names found.units ∙ (ap keys_of tells.units ∙ unit_names (sound_in name_of records es)) in
      let one = member (IsUnitAt (area_after before Units)) (IsNamedUnit name_of) name found.units at named (ap (list_any (eq_by_cmp text_cmp name)) names ∙ listed) in
      let same : one.2.bytes ≡ bytes = same_Some one.2.bytes bytes (sym one.2.stands ∙ (ap (bytes_at (area_after before Units)) one.1 ∙ stands)) in
      record { unit = one.0.unit.value; spelled = subst (λ b. UnitSpelling b one.0.unit.value) same one.2.spelled; named = sym one.1 ∙ one.3.named }

  by_bytes : (name bytes there : List ℕ) (r : Result StoredUnit UnitFault) → bytes_at (area_after before Units) name ≡ Some there → judged name_of records name there ≡ r
      → cond (is_ok r) (Some there) None ≡ Some bytes → IsUnitFile name_of name bytes
  by_bytes name bytes there (Ok unit) stands is e = subst (IsUnitFile name_of name) (same_Some there bytes e) (sound_is_found name there unit stands is)
  by_bytes name bytes there (Err fault) stands is e = cc

  by_value : (name bytes : List ℕ) (v : Value) → bytes_at (area_after before Units) name ≡ v → sound_bytes name_of records name v ≡ Some bytes → IsUnitFile name_of name bytes
  by_value name bytes None stands e = cc
  by_value name bytes (Some there) stands e = by_bytes name bytes there (judged name_of records name there) stands refl e

  pub units_alone : (now : List Move) → ((name : List ℕ) → bytes_at (area_after now Units) name ≡ sound_bytes name_of records name (bytes_at (area_after before Units) name)) → HoldsUnits name_of now
  units_alone now left name bytes is = by_value name bytes (bytes_at (area_after before Units) name) refl (sym (left name) ∙ is)

-- where the moves are told, and the opening was answered
pub told_alone : (name_of : List ℕ → List ℕ) (before now : Option (List Move)) (found : Found)
    → IfSome before (λ m. Tells found (opening_of name_of (standing m))) → IfSome before (λ m. All (IsUnitAt (area_after m Units)) found.units) → All (IsNamedUnit name_of) found.units
    → IfTold before now (λ b n. (name : List ℕ) → bytes_at (area_after n Units) name ≡ sound_bytes name_of (entries (standing b Records)) name (bytes_at (area_after b Units) name))
    → IfTold before now (λ b n. HoldsUnits name_of n)
told_alone name_of None now found tells at named left = tt
told_alone name_of (Some b) None found tells at named left = tt
told_alone name_of (Some b) (Some n) found tells at named left = units_alone name_of b found tells at named n left

pub ok_alone : {E : Type 0} (r : Result Found E) (name_of : List ℕ → List ℕ) (before now : Option (List Move))
    → IfOk r (λ found. IfSome before (λ m. Tells found (opening_of name_of (standing m)))) → IfOk r (λ found. IfSome before (λ m. All (IsUnitAt (area_after m Units)) found.units)) → IfOk r (λ found. All (IsNamedUnit name_of) found.units)
    → OnOk r (IfTold before now (λ b n. (name : List ℕ) → bytes_at (area_after n Units) name ≡ sound_bytes name_of (entries (standing b Records)) name (bytes_at (area_after b Units) name)))
    → OnOk r (IfTold before now (λ b n. HoldsUnits name_of n))
ok_alone (Ok found) name_of before now tells at named left = told_alone name_of before now found tells at named left
ok_alone (Err e) name_of before now tells at named left = tt
