-- What is said of the bytes that a source held.
use Rattle.std.specs.Prelude.{ℕ, List, Option, Some, None}

-- it holds of the bytes that the source tells, or of some bytes where it tells none
abbrev pub OfInput : Option (List ℕ) → (List ℕ → Type 0) → Type 0
OfInput None Holds = (bytes : List ℕ) × Holds bytes
OfInput (Some bytes) Holds = Holds bytes
