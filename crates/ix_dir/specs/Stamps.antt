-- The stamps that files of a name had.
use Rattle.std.specs.Prelude.{ℕ, ◌≡◌, ◌≢◌, Some, slice_get, List, [], ◌∷◌, if◌then◌else◌, flat_map, All}
use Rattle.ix_dir.specs.Moves.{Move, Renamed, Removed, Synced, Placed, same_name}

-- the stamp that a move gave the name, if it did
abbrev pub stamp_given : List ℕ → Move → List ℕ
stamp_given name (Renamed a n bytes stamp) = if same_name n name then stamp ∷ [] else []
stamp_given name (Removed a n) = []
stamp_given name (Synced a) = []
stamp_given name (Placed a n bytes stamp) = if same_name n name then stamp ∷ [] else []

-- the stamps that files of the name had in the directory, in order of time
abbrev pub stamps_of : List Move → List ℕ → List ℕ
stamps_of moves name = flat_map (stamp_given name) moves

-- no earlier file of the name had the stamp
abbrev pub IsFresh : List Move → List ℕ → ℕ → Type 0
IsFresh moves name stamp = All (λ earlier. earlier ≢ stamp) (stamps_of moves name)

-- no stamp was given to a name twice
unfoldable pub HasFreshStamps : List Move → Type 0
HasFreshStamps moves =
    (name : List ℕ) (j k stamp : ℕ) → slice_get (stamps_of moves name) j ≡ Some stamp → slice_get (stamps_of moves name) k ≡ Some stamp → j ≡ k
