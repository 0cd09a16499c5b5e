-- What a reader makes of the front of some bytes.
use Rattle.std.specs.Prelude.{◌≡◌, ◌⊎◌, List, ◌++◌, ℕ, Ok, Err}
use Rattle.ix_wire.specs.declared.fault.WireError.{WireError}
use Rattle.ix_wire.specs.declared.fault.WireError.TheVariants.{Short}
use Rattle.ix_wire.specs.Input.{Input}
use Rattle.ix_wire.specs.Read.{Read}

-- the same place, with more bytes behind those that are left
abbrev pub with_more : List ℕ → Input → Input
with_more more from = record { at = from.at; rest = from.rest ++ more }

-- what was read, with more bytes behind what is left
abbrev pub read_with_more : {E X : Type 0} → List ℕ → Read E X → Read E X
read_with_more more (Ok x) = Ok (x.0, with_more more x.1)
read_with_more more (Err e) = Err e

-- reading the front runs short, or gives what reading all of the bytes gives
abbrev pub IsShortOrSame : {E X : Type 0} → E → List ℕ → Read E X → Read E X → Type 0
IsShortOrSame short more front all = (front ≡ Err short) ⊎ (all ≡ read_with_more more front)

-- so it is wherever the bytes are cut
abbrev pub ReadsFronts : {E X : Type 0} → E → (Input → Read E X) → Type 0
ReadsFronts short read = (more : List ℕ) (from : Input) → IsShortOrSame short more (read from) (read (with_more more from))

-- the same of a field, whose fault has the field's place
abbrev pub FieldReadsFronts : {X : Type 0} → (Input → Read WireError X) → Type 0
FieldReadsFronts read = (more : List ℕ) (from : Input) → IsShortOrSame (Short from.at) more (read from) (read (with_more more from))
