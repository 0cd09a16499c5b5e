-- What opening finds of a directory.
use Rattle.std.specs.Prelude.{◌≡◌, ℕ, List, map, Option, IfSome}
use Rattle.std.specs.List.Sorted.{IsStrictlySortedBy}
use Rattle.std.specs.Map.{keys_of}
use Rattle.std.specs.FinMap.{entries}
use Rattle.ix_types.specs.Row.{text_cmp}
use Rattle.ix_dir.specs.declared.area.Area.TheVariants.{Units, Records}
use Rattle.ix_dir.specs.declared.moves.Move.{Move}
use Rattle.ix_dir.specs.Crash.{standing}
use Rattle.ix_dir.specs.Images.{Image}
use Rattle.ix_unit.specs.declared.batch.UnitPut.{UnitPut}
use Rattle.ix_unit.specs.declared.value.UnitValue.{UnitValue}
use Rattle.ix_model.specs.declared.publication.StoredUnit.{StoredUnit}
use Rattle.ix_machine.specs.Opening.{opening}
use Rattle.ix_machine.specs.Run.{Opening, IsSoundOpening}
use Rattle.ix_machine.specs.State.{Files}
use Rattle.ix_opening.specs.declared.looking.Found.{Found}

-- what opening finds of the files of both areas
abbrev pub opening_of : (List ℕ → List ℕ) → Image → Opening
opening_of name_of image = opening name_of (entries (image Units)) (entries (image Records))

-- a unit under its name
abbrev pub put_row : UnitPut → List ℕ × UnitValue
put_row put = (put.name, put.unit.value)

abbrev pub unit_row : List ℕ × StoredUnit → List ℕ × UnitValue
unit_row entry = (entry.0, entry.1.unit)

-- what was found is the opening: its units under their names, and its refused ones with their causes
pub record Tells (found : Found) (opened : Opening) : Type 0 where
  pub units : map put_row found.units ≡ map unit_row opened.units
  pub refused : found.refused ≡ opened.refused

-- files that were read, the units rising by name: what was found is the opening of these, and where the moves are told they are those that stand
pub record IsFound (name_of : List ℕ → List ℕ) (moves : Option (List Move)) (found : Found) : Type 0 where
  pub units : Files
  pub records : Files
  pub tells : Tells found (opening name_of units records)
  pub sound : IsSoundOpening name_of (opening name_of units records)
  pub rising : IsStrictlySortedBy text_cmp (keys_of units)
  pub stand : IfSome moves (λ m. (units ≡ entries (standing m Units)) × (records ≡ entries (standing m Records)))
