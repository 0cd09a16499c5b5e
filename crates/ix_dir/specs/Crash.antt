-- The one image that a pick chooses.
use Rattle.std.specs.Prelude.{◌≡◌, ◌≢◌, ℕ, ◌+◌, ◌-◌, ◌%◌, List, [], ◌∷◌, length, fold, filter, slice_get, Bool, if◌then◌else◌, is_some, Some, None, unwrap_or}
use Rattle.std.specs.List.{list_any}
use Rattle.std.specs.FinMap.{empty, insert, keys}
use Rattle.ix_dir.specs.declared.area.Area.{Area}
use Rattle.ix_dir.specs.declared.pick.Pick.{Pick}
use Rattle.ix_dir.specs.declared.pick.Pick.TheVariants.{Oldest, Newest, Nth}
use Rattle.ix_dir.specs.Files.{Files, Contents, bytes_at, contents_of}
use Rattle.ix_dir.specs.Images.{Value, values_of, Image}
use Rattle.ix_dir.specs.Moves.{Move, Renamed, Removed, Synced, Placed, same_area, area_after}

abbrev pub puts_step : Area → Contents → Move → Contents
puts_step area puts (Renamed a name bytes stamp) = if same_area area a then insert puts name bytes else puts
puts_step area puts (Removed a name) = puts
puts_step area puts (Synced a) = puts
puts_step area puts (Placed a name bytes stamp) = if same_area area a then insert puts name bytes else puts

-- every name that ever had a file in the area, with the bytes that came there last
abbrev pub puts : List Move → Area → Contents
puts moves area = fold (puts_step area) empty moves

-- the name had a file at some time since the area's last sync, that moment included
abbrev pub was_there : List Move → Area → List ℕ → Bool
was_there moves area name = list_any is_some (values_of moves area name)

-- the names that had a file since the area's last sync, in rising order
abbrev pub names_since : List Move → Area → List (List ℕ)
names_since moves area = filter (was_there moves area) (keys (puts moves area))

-- the number of the value that the name of number i takes, of so many
abbrev pub number_for : Pick → ℕ → ℕ → ℕ
number_for Oldest i count = 0
number_for Newest i count = count - 1
number_for (Nth n) i count = (n + i) % count

abbrev pub value_for : Pick → ℕ → List Value → Value
value_for pick i values = unwrap_or (slice_get values (number_for pick i (length values))) None

-- each of these names has the value that the pick chooses for it, and no other name has a file
pub record LeavesOf (pick : Pick) (moves : List Move) (area : Area) (names : List (List ℕ)) (files : Files) : Type 0 where
  pub picked : (i : ℕ) (name : List ℕ) → slice_get names i ≡ Some name → bytes_at files name ≡ value_for pick i (values_of moves area name)
  pub no_other : (name : List ℕ) → ((i : ℕ) → slice_get names i ≢ Some name) → bytes_at files name ≡ None

-- both areas after the crash: of each name that was there since the last sync the value that the pick chooses
abbrev pub IsPicked : Pick → List Move → List Move → Type 0
IsPicked pick moves left = (area : Area) → LeavesOf pick moves area (names_since moves area) (area_after left area)

-- what stands after the moves, in both areas
abbrev pub standing : List Move → Image
standing moves area = contents_of (area_after moves area)

-- nothing of the area is pending: a crash leaves there what stands
abbrev pub IsSettledIn : Area → List Move → Type 0
IsSettledIn area moves = (name : List ℕ) → values_of moves area name ≡ bytes_at (area_after moves area) name ∷ []

-- nothing is pending
abbrev pub IsSettled : List Move → Type 0
IsSettled moves = (area : Area) → IsSettledIn area moves
