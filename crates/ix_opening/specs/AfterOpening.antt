-- The moves that opening makes, and what they leave.
use Rattle.std.specs.Prelude.{◌≡◌, ℕ, List, [], ◌∷◌, ◌++◌, map, take, Option, Some, None, if◌then◌else◌, is_ok}
use Rattle.std.specs.Option.{option_map}
use Rattle.ix_dir.specs.declared.area.Area.TheVariants.{Units, Records}
use Rattle.ix_dir.specs.declared.moves.Move.{Move}
use Rattle.ix_dir.specs.declared.moves.Move.TheVariants.{Removed, Synced}
use Rattle.ix_dir.specs.Calls.{moves_removed}
use Rattle.ix_dir.specs.Crash.{standing}
use Rattle.ix_dir.specs.Images.{Value}
use Rattle.ix_machine.specs.declared.opened.Refused.{Refused}
use Rattle.ix_machine.specs.Opening.{judged}
use Rattle.ix_machine.specs.State.{Files}
use Rattle.ix_opening.specs.Found.{opening_of}

abbrev pub names_of : List Refused → List (List ℕ)
names_of refused = map (λ r. r.name) refused

-- ---- in one list

-- a removal of each of the files, and a sync of their area behind them where there are any
abbrev pub removals : List (List ℕ) → List Move
removals [] = []
removals (name ∷ names) = map (Removed Units) (name ∷ names) ++ Synced Units ∷ []

-- both areas are synced, the records first, and then the refused files are removed
abbrev pub opening_moves : (List ℕ → List ℕ) → List Move → List Move
opening_moves name_of moves = Synced Records ∷ Synced Units ∷ removals (names_of (opening_of name_of (standing moves)).refused)

-- ---- call by call

abbrev pub synced_both : List Move → List Move
synced_both moves = (moves ++ Synced Records ∷ []) ++ Synced Units ∷ []

-- after removals of these names, one by one
abbrev pub without : List (List ℕ) → List Move → List Move
without [] moves = moves
without (name ∷ names) moves = without names (moves_removed Units name moves)

-- after a sync behind them, too, where there are any
abbrev pub cleaned : List (List ℕ) → List Move → List Move
cleaned [] moves = moves
cleaned (name ∷ names) moves = without (name ∷ names) moves ++ Synced Units ∷ []

-- after removals of some of the files, the first of them first
pub record IsCleanedInPart (refused : List Refused) (before now : Option (List Move)) : Type 0 where
  pub count : ℕ
  pub removed : now ≡ option_map (without (names_of (take count refused))) before

-- ---- what is left

-- the bytes of a unit file, where it is sound
abbrev pub sound_bytes : (List ℕ → List ℕ) → Files → List ℕ → Value → Value
sound_bytes name_of records name None = None
sound_bytes name_of records name (Some bytes) = if is_ok (judged name_of records name bytes) then Some bytes else None

-- ---- where it stopped

-- the first of an opening's moves were made
pub record IsFront (name_of : List ℕ → List ℕ) (before now : List Move) : Type 0 where
  pub count : ℕ
  pub made : now ≡ before ++ take count (opening_moves name_of before)

-- moves are told now exactly where they were before, and then the first of an opening's were made
abbrev pub MakesFront : (List ℕ → List ℕ) → Option (List Move) → Option (List Move) → Type 0
MakesFront name_of None None = Unit {0}
MakesFront name_of None (Some now) = ⊥
MakesFront name_of (Some before) None = ⊥
MakesFront name_of (Some before) (Some now) = IsFront name_of before now
