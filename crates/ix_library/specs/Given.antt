-- Laws of the crates below, in one record.
use Rattle.std.specs.Prelude.{◌≡◌, ℕ, ◌≤◌, List, ◌++◌, length, Option}
use Rattle.ix_dir.specs.declared.moves.Move.{Move}
use Rattle.ix_dir.specs.WhatAChangeLeaves.{Adds}
use Rattle.ix_cabinet.specs.Scan.{StampMap}
use Rattle.ix_model.specs.declared.publication.Publication.{Publication}
use Rattle.ix_model.specs.Units.{Units, units_at}
use Rattle.ix_machine.specs.State.{State}
use Rattle.ix_shelf.specs.Shelf.{OnShelf}
use Rattle.ix_changes.specs.Holds.{Holds, Leads, IsAlikeOnDisk}
use Rattle.ix_changes.specs.Stamps.{AreStampsOf}

pub record Laws : Type 0 where
  pub stay : (name_of : List ℕ → List ℕ) (units : Units) (stamps : StampMap) (before now : List Move) → AreStampsOf name_of units stamps before → Adds before now → AreStampsOf name_of units stamps now
  pub prefix : (earlier later : List Publication) (n : ℕ) → n ≤ length earlier → units_at (earlier ++ later) n ≡ units_at earlier n
  pub unmoved : (name_of : List ℕ → List ℕ) (s next : State) (shelf : OnShelf) (moves : Option (List Move)) → Holds name_of s shelf moves → IsAlikeOnDisk s next → Leads name_of s next moves moves shelf
