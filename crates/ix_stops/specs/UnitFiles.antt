-- Unit files that are the spellings of units.
use Rattle.std.specs.Prelude.{◌≡◌, ℕ, List, Option, Some, None}
use Rattle.std.specs.FinMap.{get}
use Rattle.ix_dir.specs.Files.{Contents}
use Rattle.ix_dir.specs.Images.{Value}
use Rattle.ix_unit.specs.Spelling.{UnitSpelling}
use Rattle.ix_model.specs.declared.publication.StoredUnit.{StoredUnit}
use Rattle.ix_model.specs.Units.{Units, unit_named}

-- neither a file nor a unit, or the unit's spelling under the name of its output path
abbrev pub IsSpelledUnder : (List ℕ → List ℕ) → List ℕ → Value → Option StoredUnit → Type 0
IsSpelledUnder name_of name None None = Unit {0}
IsSpelledUnder name_of name None (Some stored) = ⊥
IsSpelledUnder name_of name (Some bytes) None = ⊥
IsSpelledUnder name_of name (Some bytes) (Some stored) = UnitSpelling bytes stored.unit × (name ≡ name_of stored.unit.output)

-- the files are the spellings of the units under their names, and no others
abbrev pub Spell : (List ℕ → List ℕ) → Contents → Units → Type 0
Spell name_of contents units = (name : List ℕ) → IsSpelledUnder name_of name (get contents name) (unit_named name units)
