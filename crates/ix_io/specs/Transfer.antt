-- What is read up to a limit, and what a transfer took.
use Rattle.std.specs.Prelude.{◌≡◌, ℕ, ◌<◌, ◌≤◌, nat_le, if◌then◌else◌, List, ◌++◌, length, take, Option}
use Rattle.std.specs.Io.KnownBytes.{Consumes, Appends}
use Rattle.ix_io.specs.declared.transfer.Intake.{Intake}
use Rattle.ix_io.specs.declared.transfer.Intake.TheVariants.{All, TooLarge}

-- all the bytes, where they are within the limit
abbrev pub intake_of : ℕ → List ℕ → Intake
intake_of limit bytes = if nat_le (length bytes) limit then All bytes else TooLarge

-- an input that was read whole is within the limit
abbrev pub IsWithin : ℕ → Intake → Type 0
IsWithin limit (All bytes) = length bytes ≤ limit
IsWithin limit TooLarge = Unit {0}

-- where the bytes are told, a front of at most n of them was taken
abbrev pub TakesAtMost : Option (List ℕ) → Option (List ℕ) → ℕ → Type 0
TakesAtMost old new n = (front : List ℕ) × Consumes old new front × (length front ≤ n)

-- n bytes went from what was left to the end of a list
abbrev pub Gains : Option (List ℕ) → Option (List ℕ) → List ℕ → List ℕ → ℕ → Type 0
Gains old new list longer n = (piece : List ℕ) × Consumes old new piece × (longer ≡ list ++ piece) × (length piece ≡ n)

-- where the contents are told, they grew by a front of the bytes, and not by all
abbrev pub AppendsPart : Option (List ℕ) → Option (List ℕ) → List ℕ → Type 0
AppendsPart old new bytes = (n : ℕ) × Appends old new (take n bytes) × (n < length bytes)
