-- A library over a directory that tells its moves stands for a state of the machine.
use Rattle.std.specs.Prelude.{◌≡◌, ℕ, true, List, Some, IfSome, IsSome}
use Rattle.ix_dir.specs.State.{DirState, is_staged, staged_bytes}
use Rattle.ix_dir.specs.WhatAChangeLeaves.{AddsTo, IfTold}
use Rattle.ix_unit.specs.declared.value.UnitValue.{UnitValue}
use Rattle.ix_unit.specs.Spelling.{UnitSpelling}
use Rattle.ix_shelf.specs.Shelf.{OnShelf}
use Rattle.ix_machine.specs.declared.event.Outcome.{Outcome}
use Rattle.ix_machine.specs.Given.{Given}
use Rattle.ix_machine.specs.State.{State}
use Rattle.ix_machine.specs.Step.{step, ended}
use Rattle.ix_ledger.specs.Kept.{Kept, staged_in}
use Rattle.ix_ledger.specs.OfState.{Keeps}
use Rattle.ix_stops.specs.Prefixes.{LeavesPrefixes}
use Rattle.ix_changes.specs.Holds.{Holds, Waits}
use Rattle.ix_library.specs.declared.known.KnownStamps.{KnownStamps}
use Rattle.ix_library.specs.KnownUnits.{KnowsUnits}

-- the slot of each lane that has staged a unit is staged, whether or not the directory tells its moves
abbrev pub HasSlots : Kept → DirState → Type 0
HasSlots kept dir = (lane : ℕ) → IsSome (staged_in kept lane) → is_staged dir lane ≡ true

-- the slot of each lane that has staged a unit has its spelling
abbrev pub HasStaged : Kept → DirState → Type 0
HasStaged kept dir = (lane : ℕ) (unit : UnitValue) → staged_in kept lane ≡ Some unit → (is_staged dir lane ≡ true) × UnitSpelling (staged_bytes dir lane) unit

-- What is kept in memory is the state's, which is sound: need lists, bodies that are needed and put, marks in order. The directory and its shelf hold the
-- state: unit files, records of each image, at most one pending change. Staged units stand in their slots. The known stamps are those of the units at
-- the current mark and at the open import's.
pub record StandsFor (name_of : List ℕ → List ℕ) (s : State) (kept : Kept) (shelf : OnShelf) (known : KnownStamps) (dir : DirState) : Type 0 where
  pub keeps : Keeps name_of kept s
  pub holds : Holds name_of s shelf dir.moves
  pub staged : HasStaged kept dir
  pub knows : IfSome dir.moves (KnowsUnits name_of s known)

-- The machine takes the call with this flag and ends it so; the library stands for the state after; moves are only added, and at each moment of the step
-- a crash leaves a prefix of its publications. Where at most the change that pends waited for a sync before, it is so now.
pub record Takes (name_of : List ℕ → List ℕ) (s : State) (lane : ℕ) (given : Given) (flag outcome : Outcome) (before : DirState) (kept : Kept) (shelf : OnShelf) (known : KnownStamps) (dir : DirState) : Type 0 where
  pub next : State
  pub taken : step name_of s lane given flag ≡ Some (ended outcome next)
  pub stands : StandsFor name_of next kept shelf known dir
  pub adds : AddsTo before.moves dir.moves
  pub leaves : IfTold before.moves dir.moves (LeavesPrefixes name_of s.publications next.publications)
  pub waits : IfSome before.moves (Waits s) → IfSome dir.moves (Waits next)
