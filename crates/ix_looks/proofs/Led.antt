-- What a scan of the files says of the state that they hold.
use Rattle.std.proofs.Common.{◌≡◌, ℕ, List, map, sym, ap, subst, Option, Some, None, Result, Ok, Err, IfOk, IfSome, Contains, All}
use Rattle.std.specs.Option.{option_map}
use Rattle.std.proofs.lemmas.List.Elements.{All-contains}
use Rattle.ix_dir.specs.declared.area.Area.TheVariants.{Units as UnitsArea}
use Rattle.ix_dir.specs.declared.moves.Move.{Move}
use Rattle.ix_dir.specs.Files.{bytes_at}
use Rattle.ix_dir.specs.Images.{Value}
use Rattle.ix_dir.specs.Moves.{area_after}
use Rattle.ix_dir.specs.Stamps.{HasFreshStamps}
use Rattle.ix_unit.specs.declared.batch.UnitPut.{UnitPut}
use Rattle.ix_shelf.specs.Shelf.{OnShelf}
use Rattle.ix_cabinet.specs.declared.fault.ScanError.{ScanError}
use Rattle.ix_cabinet.specs.declared.scanning.Scanned.{Scanned}
use Rattle.ix_cabinet.specs.Scan.{StampMap, stamps_in, changed, gone, IsUnitAt, IsUnitFile, HoldsUnits}
use Rattle.ix_model.specs.declared.publication.StoredUnit.{StoredUnit}
use Rattle.ix_model.specs.Units as model
use Rattle.ix_model.specs.Units.{unit_named}
use Rattle.ix_answers.specs.Batches.{LeadsTo}
use Rattle.ix_machine.specs.Needs.{visible}
use Rattle.ix_machine.specs.State.{State}
use Rattle.ix_stops.specs.Stands.{StandsOnDisk}
use Rattle.ix_stops.specs.UnitFiles.{IsSpelledUnder}
use Rattle.ix_changes.specs.Holds.{Holds}
use Rattle.ix_changes.specs.Stamps.{AreStampsOf}
use Rattle.ix_looks.specs.Given.{Laws}

-- what is held of told moves is on disk
pub on_disk : (name_of : List ℕ → List ℕ) (s : State) (shelf : OnShelf) (moves : List Move) → Holds name_of s shelf (Some moves) → StandsOnDisk name_of s moves
on_disk name_of s shelf moves holds = let is = holds.is in let same : holds.told ≡ moves = cc in subst (StandsOnDisk name_of s) same holds.stands

-- ---- the unit files

spelled_is_file : (name_of : List ℕ → List ℕ) (name bytes : List ℕ) (value : Value) (stored : Option StoredUnit) → value ≡ Some bytes → IsSpelledUnder name_of name value stored → IsUnitFile name_of name bytes
spelled_is_file name_of name bytes None stored is h = absurd (cc)
spelled_is_file name_of name bytes (Some b) None is h = absurd h
spelled_is_file name_of name bytes (Some b) (Some stored) is h =
    let same : b ≡ bytes = cc in
    subst (λ x. IsUnitFile name_of name x) same (record { unit = stored.unit; spelled = h.0; named = h.1 })

module _ (laws : Laws) (name_of : List ℕ → List ℕ) (s : State) (shelf : OnShelf) where
  told_units : (moves : List Move) → Holds name_of s shelf (Some moves) → HoldsUnits name_of moves
  told_units moves holds name bytes stands =
      spelled_is_file name_of name bytes (bytes_at (area_after moves UnitsArea) name) (unit_named name (visible s)) stands
      (subst (λ v. IsSpelledUnder name_of name v (unit_named name (visible s))) (laws.contents (area_after moves UnitsArea) name) ((on_disk name_of s shelf moves holds).disk.unit_files name))

  pub held_units : (moves : Option (List Move)) → Holds name_of s shelf moves → IfSome moves (HoldsUnits name_of)
  held_units None holds = tt
  held_units (Some moves) holds = told_units moves holds

  -- ---- a scan

  module _ (before : model.Units) (known now : StampMap) (puts : List UnitPut) (gone_names : List (List ℕ)) (names : map (λ (p : UnitPut). p.name) puts ≡ changed known now) (are_gone : gone_names ≡ gone known now) where
    told_leads : (moves : List Move) → Holds name_of s shelf (Some moves) → AreStampsOf name_of before known moves → now ≡ stamps_in (area_after moves UnitsArea) → HasFreshStamps moves
        → All (IsUnitAt (area_after moves UnitsArea)) puts → LeadsTo puts gone_names before (visible s)
    told_leads moves holds are is fresh at = record {
      come = λ put there. laws.come name_of s shelf moves put holds (All-contains (IsUnitAt (area_after moves UnitsArea)) puts put at there);
      go = λ name there. ap (option_map (λ (u : StoredUnit). u.unit)) (laws.go name_of s shelf moves known now name holds is (subst (λ ns. Contains ns name) are_gone there));
      stay = λ name untouched. laws.stay name_of s shelf moves before known now puts name holds fresh are is names untouched.not_put (λ there. untouched.not_gone (subst (λ ns. Contains ns name) (sym are_gone) there));
    }

    leads : (moves : Option (List Move)) → Holds name_of s shelf moves → IfSome moves (AreStampsOf name_of before known) → IfSome moves (λ m. now ≡ stamps_in (area_after m UnitsArea)) → IfSome moves HasFreshStamps
        → IfSome moves (λ m. All (IsUnitAt (area_after m UnitsArea)) puts) → LeadsTo puts gone_names before (visible s)
    leads None holds are is fresh at = let is_told : None ≡ Some holds.told = holds.is in absurd (cc)
    leads (Some moves) holds are is fresh at = told_leads moves holds are is fresh at

  pub scan_leads : (before : model.Units) (known : StampMap) (moves : Option (List Move)) (r : Result Scanned ScanError) → Holds name_of s shelf moves → IfSome moves (AreStampsOf name_of before known)
      → IfOk r (λ scanned. map (λ (p : UnitPut). p.name) scanned.batch.puts ≡ changed known scanned.stamps) → IfOk r (λ scanned. scanned.batch.gone ≡ gone known scanned.stamps)
      → IfOk r (λ scanned. IfSome moves (λ m. scanned.stamps ≡ stamps_in (area_after m UnitsArea))) → IfOk r (λ _. IfSome moves HasFreshStamps)
      → IfOk r (λ scanned. IfSome moves (λ m. All (IsUnitAt (area_after m UnitsArea)) scanned.batch.puts))
      → IfOk r (λ scanned. LeadsTo scanned.batch.puts scanned.batch.gone before (visible s))
  scan_leads before known moves (Ok scanned) holds are names are_gone is fresh at =
      leads before known scanned.stamps scanned.batch.puts scanned.batch.gone names are_gone moves holds are is fresh at
  scan_leads before known moves (Err e) holds are names are_gone is fresh at = tt

  stamped : (now : StampMap) (moves : Option (List Move)) → Holds name_of s shelf moves → IfSome moves (λ m. now ≡ stamps_in (area_after m UnitsArea)) → IfSome moves (AreStampsOf name_of (visible s) now)
  stamped now None holds is = tt
  stamped now (Some moves) holds is = subst (λ stamps. AreStampsOf name_of (visible s) stamps moves) (sym is) (laws.stamps_now name_of s shelf moves holds)

  pub scan_stamps : (before after : Option (List Move)) (r : Result Scanned ScanError) → Holds name_of s shelf before → after ≡ before → IfOk r (λ scanned. IfSome before (λ m. scanned.stamps ≡ stamps_in (area_after m UnitsArea)))
      → IfOk r (λ scanned. IfSome after (AreStampsOf name_of (visible s) scanned.stamps))
  scan_stamps before after (Ok scanned) holds same is = subst (λ m. IfSome m (AreStampsOf name_of (visible s) scanned.stamps)) (sym same) (stamped scanned.stamps before holds is)
  scan_stamps before after (Err e) holds same is = tt
