-- The number of the moves so far is a stamp that no file had.
use Rattle.std.proofs.Common.{ℕ, ◌+◌, ◌<◌, ◌≤◌, Bool, true, false, cond, List, [], ◌∷◌, length, All, arith}
use Rattle.std.proofs.lemmas.List.Elements.{All-append, All-cons}
use Rattle.ix_dir.specs.Moves.{Move, Renamed, Removed, Synced, Placed, same_name}
use Rattle.ix_dir.specs.Stamps.{stamps_of, IsFresh}
use Rattle.ix_dir.specs.IndexInvariant.{IsNumbered}

all_none : (P : ℕ → Type 0) → All P []
all_none P k d h = absurd (omega arith)

-- a stamp, where there is one
given_below : (b : Bool) (stamp n : ℕ) → stamp < n → All (λ s. s < n) (cond b (stamp ∷ []) [])
given_below true stamp n h = All-cons (λ s. s < n) stamp [] h (all_none (λ s. s < n))
given_below false stamp n h = all_none (λ s. s < n)

below : (n : ℕ) (moves : List Move) (name : List ℕ) (top : ℕ) → IsNumbered n moves → n + length moves ≤ top → All (λ s. s < top) (stamps_of moves name)
below n [] name top h le = all_none (λ s. s < top)
below n (Renamed area q bytes stamp ∷ moves) name top h le =
    All-append (λ s. s < top) _ (stamps_of moves name) (given_below (same_name q name) stamp top (omega (arith, h.0))) (below (n + 1) moves name top h.1 (omega arith))
below n (Removed area q ∷ moves) name top h le = below (n + 1) moves name top h (omega arith)
below n (Synced area ∷ moves) name top h le = below (n + 1) moves name top h (omega arith)
below n (Placed area q bytes stamp ∷ moves) name top h le =
    All-append (λ s. s < top) _ (stamps_of moves name) (given_below (same_name q name) stamp top (omega (arith, h.0))) (below (n + 1) moves name top h.1 (omega arith))

pub numbered_fresh : (moves : List Move) (name : List ℕ) → IsNumbered 0 moves → IsFresh moves name (length moves)
numbered_fresh moves name h k d small same =
    let low = below 0 moves name (length moves) h (omega arith) k d small in
    omega (arith, low, same)
