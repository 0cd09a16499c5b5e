use Rattle.std.proofs.Common.{ℕ, List, [], ◌∷◌, ◌++◌, Option, Some, None, sym, subst}
use Rattle.std.specs.Option.{IfSome}
use Rattle.ix_dir.specs.declared.area.Area.{Area}
use Rattle.ix_dir.specs.declared.area.Area.TheVariants.{Records}
use Rattle.ix_dir.specs.Calls.{with_move}
use Rattle.ix_dir.specs.WhatAChangeLeaves.{LeavesAt}
use Rattle.ix_dir.specs.declared.moves.Move.{Move}
use Rattle.ix_dir.specs.declared.moves.Move.TheVariants.{Renamed}
use Rattle.ix_record.specs.declared.body.Body.{Body}
use Rattle.ix_record.specs.Whole.{IsWhole}
use Rattle.ix_shelf.specs.Answers.{StandsWhole}
use Rattle.ix_shelf.proofs.laws.put_record_stands_whole.Goals as goal

-- the bytes of a rename stand at the name
abbrev RenameStands : Type 0
RenameStands = (moves : List Move) (area : Area) (name bytes : List ℕ) (stamp : ℕ) → LeavesAt area name (Some bytes) moves (moves ++ Renamed area name bytes stamp ∷ [])

whole_after : RenameStands → (name_of : List ℕ → List ℕ) (body : Body) (before : Option (List Move)) (stamp : ℕ) → IsWhole name_of body → IfSome (with_move before (Renamed Records body.name body.bytes stamp)) (StandsWhole name_of body.name)
whole_after stands name_of body None stamp whole = tt
whole_after stands name_of body (Some moves) stamp whole = record {
  bytes = body.bytes;
  stands = (stands moves Records body.name body.bytes stamp).here;
  whole = whole;
}

pub returns : goal.returns
returns c name_of body before now renames whole =
    subst (λ moves. IfSome moves (StandsWhole name_of body.name)) (sym renames.move) (whole_after c.rename_leaves.ensures name_of body before renames.stamp whole)
