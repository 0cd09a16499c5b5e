-- What a directory that tells its moves, and its shelf, hold of a state of the machine.
use Rattle.std.specs.Prelude.{◌≡◌, ℕ, suc, ◌≤◌, List, length, Option, Some, None, IfSome}
use Rattle.ix_dir.specs.declared.moves.Move.{Move}
use Rattle.ix_dir.specs.WhatAChangeLeaves.{IfTold}
use Rattle.ix_shelf.specs.Shelf.{OnShelf, Knows}
use Rattle.ix_machine.specs.State.{State}
use Rattle.ix_stops.specs.Changes.{waiting}
use Rattle.ix_stops.specs.Prefixes.{LeavesPrefixes}
use Rattle.ix_stops.specs.Stands.{StandsOnDisk}

-- the areas hold the state, and the shelf knows whether a change of the records waits for a sync
pub record Holds (name_of : List ℕ → List ℕ) (s : State) (shelf : OnShelf) (moves : Option (List Move)) : Type 0 where
  pub told : List Move
  pub is : moves ≡ Some told
  pub stands : StandsOnDisk name_of s told
  pub knows : Knows shelf moves

-- at most one change of the units waits for a sync, and none where the state says that none pends. The mark that pends is the one before the last publication
pub record Waits (s : State) (moves : List Move) : Type 0 where
  pub none : s.pending ≡ None → waiting moves ≡ 0
  pub one : waiting moves ≤ 1
  pub last : (mark : ℕ) → s.pending ≡ Some mark → suc mark ≡ length s.publications

-- The directory and the shelf hold the next state, and at each moment between a crash leaves a prefix of its publications. Where at most the change that
-- pends waited for a sync before, it is so now.
pub record Leads (name_of : List ℕ → List ℕ) (s next : State) (before now : Option (List Move)) (shelf : OnShelf) : Type 0 where
  pub holds : Holds name_of next shelf now
  pub leaves : IfTold before now (LeavesPrefixes name_of s.publications next.publications)
  pub waits : IfSome before (Waits s) → IfSome now (Waits next)

-- the states have the same publications, pending change and record files
pub record IsAlikeOnDisk (s next : State) : Type 0 where
  pub publications : next.publications ≡ s.publications
  pub pending : next.pending ≡ s.pending
  pub records : next.records ≡ s.records
