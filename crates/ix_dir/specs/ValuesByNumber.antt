-- The values of a name as the numbers of the moves that put them.
use Rattle.std.specs.Prelude.{ℕ, List, [], ◌∷◌, ◌++◌, Bool, false, ◌&&◌, if◌then◌else◌, Option, Some, None, option_and_then}
use Rattle.std.specs.Option.{option_map}
use Rattle.ix_dir.specs.declared.area.Area.{Area}
use Rattle.ix_dir.specs.Images.{Value, last_alone}
use Rattle.ix_dir.specs.InMemory.{InMemory, placed}
use Rattle.ix_dir.specs.IndexInvariant.{file_at}
use Rattle.ix_dir.specs.Moves.{Move, Renamed, Removed, Synced, Placed, same_area, same_name}

-- the bytes that the move of a number put
abbrev pub bytes_put : List Move → ℕ → Value
bytes_put moves number = option_map (λ f. f.bytes) (file_at moves number)

-- the value that a number stands for, absent where there is none
abbrev pub value_at : List Move → Option ℕ → Value
value_at moves number = option_and_then (bytes_put moves) number

-- the numbers of the values after the move of this number
abbrev pub numbers_step : Area → List ℕ → List (Option ℕ) → ℕ → Move → List (Option ℕ)
numbers_step area name numbers number (Renamed a n bytes stamp) = if same_area area a && same_name n name then numbers ++ Some number ∷ [] else numbers
numbers_step area name numbers number (Removed a n) = if same_area area a && same_name n name then numbers ++ None ∷ [] else numbers
numbers_step area name numbers number (Synced a) = if same_area area a then last_alone numbers else numbers
numbers_step area name numbers number (Placed a n bytes stamp) = if same_area area a && same_name n name then Some number ∷ [] else numbers

-- whether a move puts a file at the name
abbrev pub puts_name : Area → List ℕ → Move → Bool
puts_name area name (Renamed a n bytes stamp) = same_area area a && same_name n name
puts_name area name (Removed a n) = false
puts_name area name (Synced a) = false
puts_name area name (Placed a n bytes stamp) = same_area area a && same_name n name

-- with the value at the name, where it is one
abbrev pub left_with : InMemory → Area → List ℕ → Value → InMemory
left_with d area name None = d
left_with d area name (Some bytes) = placed d area name bytes
