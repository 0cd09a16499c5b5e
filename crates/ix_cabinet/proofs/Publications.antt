-- What a publication does to moves that are told.
use Rattle.std.proofs.Common.{◌≡◌, ℕ, List, [], ◌∷◌, ◌++◌, ap, ◌∙◌, Option, Some}
use Rattle.std.proofs.lemmas.Option.{same_Some}
use Rattle.std.proofs.lemmas.List.{append_assoc}
use Rattle.ix_dir.specs.declared.area.Area.TheVariants.{Units}
use Rattle.ix_dir.specs.Calls.{with_move}
use Rattle.ix_dir.specs.declared.moves.Move.{Move}
use Rattle.ix_dir.specs.declared.moves.Move.TheVariants.{Renamed, Synced}
use Rattle.ix_dir.specs.Stamps.{IsFresh}
use Rattle.ix_dir.specs.WhatAChangeLeaves.{AddsTo}
use Rattle.ix_cabinet.specs.declared.change.Settled.{Settled}
use Rattle.ix_cabinet.specs.declared.change.Settled.TheVariants as settled
use Rattle.ix_cabinet.specs.Changes.{Publishes, settled_by}

abbrev pub RenamesOnce : List ℕ → List ℕ → List Move → List Move → List Move → Type 0
RenamesOnce name bytes before behind now = (stamp : ℕ) × (now ≡ before ++ Renamed Units name bytes stamp ∷ behind) × IsFresh before name stamp

pub unsynced : (name bytes : List ℕ) (before now : List Move) → Publishes settled.Unsynced name bytes (Some before) (Some now) → RenamesOnce name bytes before [] now
unsynced name bytes before now p = (p.renamed.stamp, same_Some _ _ (p.synced ∙ p.renamed.move), p.renamed.fresh)

pub synced : (name bytes : List ℕ) (before now : List Move) → Publishes settled.Synced name bytes (Some before) (Some now) → RenamesOnce name bytes before (Synced Units ∷ []) now
synced name bytes before now p =
    let both : Some now ≡ with_move (with_move (Some before) (Renamed Units name bytes p.renamed.stamp)) (Synced Units) = p.synced ∙ ap (λ o. with_move o (Synced Units)) p.renamed.move in
    (p.renamed.stamp, same_Some _ _ both ∙ append_assoc before (Renamed Units name bytes p.renamed.stamp ∷ []) (Synced Units ∷ []), p.renamed.fresh)

-- the sync behind a change adds its move, or nothing
pub settled_adds : ((moves : Option (List Move)) (move : Move) → AddsTo moves (with_move moves move)) → ((moves : Option (List Move)) → AddsTo moves moves) → (s : Settled) (moves : Option (List Move)) → AddsTo moves (settled_by s moves)
settled_adds more same settled.Synced moves = more moves (Synced Units)
settled_adds more same settled.Unsynced moves = same moves
