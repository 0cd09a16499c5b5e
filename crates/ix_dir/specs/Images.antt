-- What a crash may leave of a directory, as a function of its moves up to that moment.
use Rattle.std.specs.Prelude.{ℕ, ◌-◌, List, [], ◌∷◌, ◌++◌, fold, drop, length, if◌then◌else◌, ◌&&◌, Option, None, Some, Contains}
use Rattle.std.specs.FinMap.{get}
use Rattle.ix_dir.specs.declared.area.Area.{Area}
use Rattle.ix_dir.specs.Files.{Contents}
use Rattle.ix_dir.specs.Moves.{Move, Renamed, Removed, Synced, Placed, same_area, same_name}

-- what stands under a name at some moment: bytes, or nothing
abbrev pub Value : Type 0
Value = Option (List ℕ)

-- the last element alone
abbrev pub last_alone : {A : Type 0} → List A → List A
last_alone xs = drop (length xs - 1) xs

-- the values of a name after one move more
abbrev pub values_step : Area → List ℕ → List Value → Move → List Value
values_step area name values (Renamed a n bytes stamp) = if same_area area a && same_name n name then values ++ Some bytes ∷ [] else values
values_step area name values (Removed a n) = if same_area area a && same_name n name then values ++ None ∷ [] else values
values_step area name values (Synced a) = if same_area area a then last_alone values else values
values_step area name values (Placed a n bytes stamp) = if same_area area a && same_name n name then Some bytes ∷ [] else values

-- The values that a name had in an area since its last sync, in order of time: the value at that sync first, and then one
-- for each rename to the name and each removal. At first a name is absent. A file that was placed is synced by that.
abbrev pub values_of : List Move → Area → List ℕ → List Value
values_of moves area name = fold (values_step area name) (None ∷ []) moves

-- What a crash after these moves may leave in an area: each name, independently of the others, has one of its values.
abbrev pub IsImageIn : Area → List Move → Contents → Type 0
IsImageIn area moves contents = (name : List ℕ) → Contains (values_of moves area name) (get contents name)

-- what a crash leaves: bytes by name, for each area
abbrev pub Image : Type 0
Image = Area → Contents

-- A crash after these moves may leave the image, in both areas.
abbrev pub IsImage : List Move → Image → Type 0
IsImage moves image = (area : Area) → IsImageIn area moves (image area)
