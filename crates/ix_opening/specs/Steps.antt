-- A look through the unit files, file by file.
use Rattle.std.specs.Prelude.{◌≡◌, ℕ, List, [], ◌∷◌, ◌++◌, map, Option, None, Some, IfSome}
use Rattle.ix_dir.specs.declared.area.Area.TheVariants.{Units}
use Rattle.ix_dir.specs.declared.dir.Listed.{Listed}
use Rattle.ix_dir.specs.declared.moves.Move.{Move}
use Rattle.ix_dir.specs.Files.{bytes_at}
use Rattle.ix_dir.specs.Moves.{area_after}
use Rattle.ix_unit.specs.declared.batch.UnitPut.{UnitPut}
use Rattle.ix_machine.specs.declared.opened.Refused.{Refused}
use Rattle.ix_machine.specs.Opening.{opening}
use Rattle.ix_machine.specs.Sound.{RecordsStand}
use Rattle.ix_machine.specs.State.{Files}
use Rattle.ix_opening.specs.declared.looking.Progress.{Progress}
use Rattle.ix_opening.specs.declared.units.Judged.{Judged}
use Rattle.ix_opening.specs.declared.units.Judged.TheVariants as judged
use Rattle.ix_opening.specs.Found.{put_row, unit_row}
use Rattle.ix_opening.specs.Known.{Agrees}

-- a file of this name, where a read gave bytes
abbrev pub given_file : List ℕ → Option (List ℕ) → Files
given_file name None = []
given_file name (Some bytes) = (name, bytes) ∷ []

-- the first of the files is that of this name, where a read gave it, and of the others this holds
pub record BeginsWith (moves : Option (List Move)) (name : List ℕ) (Others : Files → Type 0) (files : Files) : Type 0 where
  pub given : Option (List ℕ)
  pub others : Files
  pub parts : files ≡ given_file name given ++ others
  pub stands : IfSome moves (λ m. given ≡ bytes_at (area_after m Units) name)
  pub behind : Others others

-- the files that reads of the listed names gave, in their order
abbrev pub AreGiven : Option (List Move) → List Listed → Files → Type 0
AreGiven moves [] files = files ≡ []
AreGiven moves (one ∷ listed) files = BeginsWith moves one.name (AreGiven moves listed) files

-- what was found so far is the opening of these files
pub record IsSoFar (name_of : List ℕ → List ℕ) (files records : Files) (look : Progress) : Type 0 where
  pub units : map put_row look.units.items ≡ map unit_row (opening name_of files records).units
  pub refused : look.refused.items ≡ (opening name_of files records).refused
  pub stand : RecordsStand name_of records (opening name_of files records).units

-- a read of the name gave a file or none, and with it what was found is the opening of one file more
pub record NotesFile (name_of : List ℕ → List ℕ) (moves : Option (List Move)) (name : List ℕ) (before now : Progress) : Type 0 where
  pub given : Option (List ℕ)
  pub stands : IfSome moves (λ m. given ≡ bytes_at (area_after m Units) name)
  pub more : (files records : Files) → Agrees name_of now.known.entries records → IsSoFar name_of files records before
      → IsSoFar name_of (files ++ given_file name given) records now

-- the unit, where the file was taken for sound
abbrev pub puts_of : List ℕ → Judged → List UnitPut
puts_of name (judged.Sound unit) = record { name = name; unit = unit } ∷ []
puts_of name (judged.Refused fault) = []

-- the refused file, where it was refused
abbrev pub refusals_of : List ℕ → Judged → List Refused
refusals_of name (judged.Sound unit) = []
refusals_of name (judged.Refused fault) = record { name = name; cause = fault } ∷ []
