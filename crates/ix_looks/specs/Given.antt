-- Laws of the crates below, in one record.
use Rattle.std.specs.Prelude.{◌≡◌, ◌≢◌, ℕ, List, map, true, Some, None, Contains}
use Rattle.std.specs.FinMap.{get}
use Rattle.std.specs.Option.{option_map}
use Rattle.ix_dir.specs.declared.area.Area.TheVariants.{Units as UnitsArea}
use Rattle.ix_dir.specs.declared.moves.Move.{Move}
use Rattle.ix_dir.specs.Files.{Files, bytes_at, contents_of}
use Rattle.ix_dir.specs.Moves.{area_after}
use Rattle.ix_dir.specs.Stamps.{HasFreshStamps}
use Rattle.ix_types.specs.Row.{text_cmp}
use Rattle.ix_record.specs.declared.value.RecordValue.{RecordValue}
use Rattle.ix_record.specs.Laws as record_laws
use Rattle.ix_unit.specs.declared.batch.UnitPut.{UnitPut}
use Rattle.ix_shelf.specs.Answers.{StandsWhole, IsRecordOf}
use Rattle.ix_shelf.specs.Shelf.{OnShelf}
use Rattle.ix_cabinet.specs.Scan.{StampMap, stamps_in, changed, gone, IsUnitAt}
use Rattle.ix_model.specs.SortedSet.{IsSortedSetOf, sorted_set}
use Rattle.ix_model.specs.Units.{Units, unit_named}
use Rattle.ix_answers.specs.Agreement.{AgreeOnRecords}
use Rattle.ix_answers.specs.Batches.{HaveOneValue}
use Rattle.ix_machine.specs.Needs.{units_need, visible}
use Rattle.ix_machine.specs.Sound.{StandsAs, RecordsStand}
use Rattle.ix_machine.specs.State.{State}
use Rattle.ix_changes.specs.Holds.{Holds}
use Rattle.ix_changes.specs.Stamps.{AreStampsOf}

pub record Laws : Type 0 where
  pub contents : (files : Files) (name : List ℕ) → get (contents_of files) name ≡ bytes_at files name
  pub come : (name_of : List ℕ → List ℕ) (s : State) (shelf : OnShelf) (moves : List Move) (put : UnitPut) → Holds name_of s shelf (Some moves) → IsUnitAt (area_after moves UnitsArea) put → option_map (λ stored. stored.unit) (unit_named put.name (visible s)) ≡ Some put.unit.value
  pub go : (name_of : List ℕ → List ℕ) (s : State) (shelf : OnShelf) (moves : List Move) (known now : StampMap) (name : List ℕ) → Holds name_of s shelf (Some moves) → now ≡ stamps_in (area_after moves UnitsArea) → Contains (gone known now) name → unit_named name (visible s) ≡ None
  pub stay : (name_of : List ℕ → List ℕ) (s : State) (shelf : OnShelf) (moves : List Move) (before : Units) (known now : StampMap) (puts : List UnitPut) (name : List ℕ) → Holds name_of s shelf (Some moves) → HasFreshStamps moves → AreStampsOf name_of before known moves → now ≡ stamps_in (area_after moves UnitsArea) → map (λ p. p.name) puts ≡ changed known now → ((put : UnitPut) → Contains puts put → put.name ≢ name) → (Contains (gone known now) name → ⊥) → option_map (λ stored. stored.unit) (unit_named name (visible s)) ≡ option_map (λ stored. stored.unit) (unit_named name before)
  pub stamps_now : (name_of : List ℕ → List ℕ) (s : State) (shelf : OnShelf) (moves : List Move) → Holds name_of s shelf (Some moves) → AreStampsOf name_of (visible s) (stamps_in (area_after moves UnitsArea)) moves
  pub whole : (name_of : List ℕ → List ℕ) (s : State) (shelf : OnShelf) (moves : List Move) (units : Units) (name : List ℕ) → Holds name_of s shelf (Some moves) → RecordsStand name_of s.records units → units_need name units ≡ true → StandsWhole name_of name moves
  pub value : (name_of : List ℕ → List ℕ) (s : State) (shelf : OnShelf) (moves : List Move) (name : List ℕ) (value expected : RecordValue) → Holds name_of s shelf (Some moves) → StandsAs name_of s.records name expected → IsRecordOf name_of name (Some moves) value → value ≡ expected
  pub names_set : (texts : List (List ℕ)) → IsSortedSetOf text_cmp texts (sorted_set text_cmp texts)
  pub one_record : record_laws.OneValue
  pub parts : (before after : Units) → AgreeOnRecords before before → AgreeOnRecords after after → AgreeOnRecords before after → HaveOneValue before after
