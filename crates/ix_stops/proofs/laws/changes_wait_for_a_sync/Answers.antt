use Rattle.std.proofs.Common.{◌≡◌, ℕ, suc, ◌+◌, [], ◌∷◌, ◌++◌, refl, ◌∙◌, arith}
use Rattle.std.proofs.lemmas.List.Sums.{fold-append}
use Rattle.ix_dir.specs.declared.area.Area.TheVariants.{Units, Records}
use Rattle.ix_dir.specs.declared.moves.Move.TheVariants.{Renamed, Removed, Synced}
use Rattle.ix_stops.specs.Changes.{waiting, waiting_step}
use Rattle.ix_stops.proofs.laws.changes_wait_for_a_sync.Goals as goal

one_more : (n : ℕ) → suc n ≡ n + 1
one_more n = omega arith

pub returns-clause-none : goal.returns-clause-none
returns-clause-none c = refl

pub returns-clause-synced : goal.returns-clause-synced
returns-clause-synced c moves = fold-append waiting_step 0 moves (Synced Units ∷ [])

pub returns-clause-renamed : goal.returns-clause-renamed
returns-clause-renamed c moves name bytes stamp = fold-append waiting_step 0 moves (Renamed Units name bytes stamp ∷ []) ∙ one_more (waiting moves)

pub returns-clause-removed : goal.returns-clause-removed
returns-clause-removed c moves name = fold-append waiting_step 0 moves (Removed Units name ∷ []) ∙ one_more (waiting moves)

pub returns-clause-records : goal.returns-clause-records
returns-clause-records c moves name bytes stamp =
    fold-append waiting_step 0 ((moves ++ Renamed Records name bytes stamp ∷ []) ++ Removed Records name ∷ []) (Synced Records ∷ [])
    ∙ fold-append waiting_step 0 (moves ++ Renamed Records name bytes stamp ∷ []) (Removed Records name ∷ [])
    ∙ fold-append waiting_step 0 moves (Renamed Records name bytes stamp ∷ [])

pub returns-clause-counted : goal.returns-clause-counted
returns-clause-counted c name bytes stamp = refl
