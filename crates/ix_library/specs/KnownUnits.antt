-- What is known of the unit files: the stamps that they had at the marks of the current version and of the open import.
use Rattle.std.specs.Prelude.{ℕ, List, Option, Some, None}
use Rattle.ix_dir.specs.declared.moves.Move.{Move}
use Rattle.ix_cabinet.specs.Scan.{StampMap}
use Rattle.ix_machine.specs.Needs.{seen_at}
use Rattle.ix_machine.specs.State.{Import, State}
use Rattle.ix_changes.specs.Stamps.{AreStampsOf}
use Rattle.ix_library.specs.declared.known.KnownStamps.{KnownStamps}

-- stamps are known for an import exactly where one is open, and they are those of the units that it sees
abbrev pub AreStampsOfImport : (List ℕ → List ℕ) → State → Option Import → Option StampMap → List Move → Type 0
AreStampsOfImport name_of s None None moves = Unit {0}
AreStampsOfImport name_of s None (Some stamps) moves = ⊥
AreStampsOfImport name_of s (Some open_import) None moves = ⊥
AreStampsOfImport name_of s (Some open_import) (Some stamps) moves = AreStampsOf name_of (seen_at s open_import.mark) stamps moves

-- the stamps that are known are those of the units that are seen at the current version, and of those that the open import sees
pub record KnowsUnits (name_of : List ℕ → List ℕ) (s : State) (known : KnownStamps) (moves : List Move) : Type 0 where
  pub current : AreStampsOf name_of (seen_at s s.current) known.current moves
  pub import : AreStampsOfImport name_of s s.import known.import moves
