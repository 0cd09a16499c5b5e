-- A directory in memory, as contracts see it.
use Rattle.std.specs.Prelude.{ℕ, ◌-◌, ◌==◌, if◌then◌else◌, Bool, List, [], ◌∷◌, ◌++◌, length, Option, Some, nat_eq}
use Rattle.std.specs.List.{list_any}
use Rattle.std.specs.Map.{lookup}
use Rattle.ix_dir.specs.declared.area.Area.{Area}
use Rattle.ix_types.specs.Count.{counted}
use Rattle.ix_dir.specs.Moves.{Move, Placed}
use Rattle.ix_dir.specs.State.{DirState}

pub record InMemory : Type 0 where
  -- all moves so far
  pub moves : List Move
  -- the staged slots, each with its bytes
  pub slots : List (ℕ × List ℕ)
  -- how many renames, removals and syncs may follow
  pub spare : ℕ
  -- the numbers of the calls that fail
  pub fails : List ℕ
  -- how many calls were made
  pub calls : ℕ
  pub faults : ℕ
  pub listings : ℕ
  pub finds : ℕ

-- whether the next call fails: calls are numbered from 1
abbrev pub next_fails : InMemory → Bool
next_fails d = list_any (λ number. number == counted d.calls) d.fails

-- once a call is counted, and its fault, where it fails
abbrev pub begun : InMemory → InMemory
begun d = record d { calls = counted d.calls; faults = if next_fails d then counted d.faults else d.faults }

-- after one of the calls for which room was made, with these moves where it didn't fail
abbrev pub moved : List Move → InMemory → InMemory
moved moves d = record (begun d) { moves = if next_fails d then d.moves else moves; spare = d.spare - 1 }

-- the bytes of a slot, None where it isn't staged
abbrev pub slot_at : InMemory → ℕ → Option (List ℕ)
slot_at d slot = lookup (nat_eq slot) d.slots

-- what contracts see of it as of any directory
abbrev pub state_of : InMemory → DirState
state_of d = record { moves = Some d.moves; slots = slot_at d; spare = d.spare; faults = d.faults; listings = d.listings; finds = d.finds }

-- an empty directory of which the calls of these numbers fail
abbrev pub new_one : List ℕ → InMemory
new_one fails = record { moves = []; slots = []; spare = 0; fails = fails; calls = 0; faults = 0; listings = 0; finds = 0 }

-- with a file that was placed, which has the number of the moves before it as its stamp
abbrev pub placed : InMemory → Area → List ℕ → List ℕ → InMemory
placed d area name bytes = record d { moves = d.moves ++ Placed area name bytes (length d.moves) ∷ [] }
