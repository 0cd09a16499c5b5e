-- What a reader gives, and a reader behind another. Each format has a type E of its own for faults.
use Rattle.std.specs.Prelude.{◌≡◌, ◌⊎◌, Result, Ok, Err}
use Rattle.ix_wire.specs.Input.{Input}

-- a value and what is left, or the first fault
abbrev pub Read : Type 0 → Type 0 → Type 0
Read E A = Result (A × Input) E

infixl 10 ◌>>=◌
abbrev pub ◌>>=◌ : {E A B : Type 0} → Read E A → (A × Input → Read E B) → Read E B
(Ok x) >>= f = f x
(Err e) >>= f = Err e

-- ---- what a function returned is what reading gives, unless memory ran out

-- the fault is the first one
abbrev pub Fails : {E A : Type 0} → E → E → Read E A → Type 0
Fails memory e read = (e ≡ memory) ⊎ (read ≡ Err e)

-- the value is what was read, and the place is behind it
abbrev pub Gives : {E A : Type 0} → E → Result A E → Input → Read E A → Type 0
Gives memory (Ok x) to read = read ≡ Ok (x, to)
Gives memory (Err e) to read = Fails memory e read
