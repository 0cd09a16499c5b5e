-- The values of all names of an area, noted in one walk over the moves. A sync isn't noted at each name: a name's values but the
-- last count no more where they were noted before it.
use Rattle.std.specs.Prelude.{◌≡◌, ℕ, ◌+◌, ◌<◌, ◌≤◌, nat_le, if◌then◌else◌, Bool, List, [], ◌∷◌, map, Option, None, Some, is_some, IfSome, IsSorted}
use Rattle.std.specs.List.{list_any}
use Rattle.std.specs.HashMap.{get, keys, IsUnique}
use Rattle.std.specs.Cmp.Lexicographic.{slice_cmp}
use Rattle.std.specs.Ordering.{nat_cmp}
use Rattle.ix_dir.specs.declared.area.Area.{Area}
use Rattle.ix_dir.specs.declared.values_by_name.ValuesByName.{ValuesByName}
use Rattle.ix_dir.specs.NotedOfName.{NotedOfName}
use Rattle.ix_dir.specs.Images.{values_of, last_alone}
use Rattle.ix_dir.specs.Moves.{Move, same_name}
use Rattle.ix_dir.specs.ValuesByNumber.{value_at, numbers_step}

-- the numbers that count, where the first move after the last sync has this number
abbrev pub held_by : ℕ → Option NotedOfName → List (Option ℕ)
held_by synced None = None ∷ []
held_by synced (Some h) = if nat_le synced h.last then h.numbers else last_alone h.numbers

abbrev pub noted_of : ValuesByName → List ℕ → Option NotedOfName
noted_of pending name = get same_name pending.noted name

-- the numbers of the values of a name since the last sync
abbrev pub held : ValuesByName → List ℕ → List (Option ℕ)
held pending name = held_by pending.synced (noted_of pending name)

-- whether the name had a file since the last sync
abbrev pub is_there : List Move → ValuesByName → List ℕ → Bool
is_there moves pending name = list_any is_some (map (value_at moves) (held pending name))

-- the name has these numbers now, the last of them by the move of this number, and all other names what they had
pub record SetsNumbers (old new : ValuesByName) (name : List ℕ) (numbers : List (Option ℕ)) (number : ℕ) : Type 0 where
  pub noted : (q : List ℕ) → noted_of new q ≡ (if same_name name q then Some (record { numbers = numbers; last = number }) else noted_of old q)
  pub synced : new.synced ≡ old.synced

-- before the move of this number, these numbers of values are held of a name
pub record Holds (number synced : ℕ) (noted : Option NotedOfName) (numbers : List (Option ℕ)) : Type 0 where
  pub held : held_by synced noted ≡ numbers
  pub later : synced ≤ number
  pub older : IfSome noted (λ h. h.last < number)

-- the move of this number was noted
abbrev pub NotesMove : Area → ℕ → Move → ValuesByName → ValuesByName → Type 0
NotesMove area number move old new =
    (q : List ℕ) (numbers : List (Option ℕ)) → Holds number old.synced (noted_of old q) numbers → Holds (number + 1) new.synced (noted_of new q) (numbers_step area q numbers number move)

-- the values of all names since the area's last sync, the names in rising order
pub record IsPending (moves : List Move) (area : Area) (pending : ValuesByName) : Type 0 where
  pub values : (q : List ℕ) → map (value_at moves) (held pending q) ≡ values_of moves area q
  pub sorted : IsSorted (slice_cmp nat_cmp) (keys pending.noted)
  pub unique : IsUnique same_name pending.noted
