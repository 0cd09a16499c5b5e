-- What holds of units and their bytes.
use Rattle.std.specs.Prelude.{◌≡◌, List, ℕ, ◌<◌, ◌++◌, length, Some, MatchOption}
use Rattle.ix_wire.specs.Spelling.{IsBytes}
use Rattle.ix_unit.specs.declared.fault.UnitError.TheVariants.{Short}
use Rattle.ix_unit.specs.declared.value.UnitValue.{UnitValue}
use Rattle.ix_unit.specs.Reading.{unit_fault}
use Rattle.ix_unit.specs.Spelling.{UnitSpelling}

-- bytes have a fault exactly where they spell no value
abbrev pub FaultWhereNothingIsSpelled : Type 0
FaultWhereNothingIsSpelled =
    (bytes : List ℕ) → IsBytes bytes → MatchOption (unit_fault bytes) ((v : UnitValue) × UnitSpelling bytes v) (λ _. (v : UnitValue) → UnitSpelling bytes v → ⊥)

-- a value has one spelling
abbrev pub OneSpelling : Type 0
OneSpelling = (a b : List ℕ) (v : UnitValue) → UnitSpelling a v → UnitSpelling b v → a ≡ b

-- a spelling has one value
abbrev pub OneValue : Type 0
OneValue = (bytes : List ℕ) (v w : UnitValue) → UnitSpelling bytes v → UnitSpelling bytes w → v ≡ w

-- a proper front of a spelling runs short
abbrev pub ShortWhereCut : Type 0
ShortWhereCut = (front more : List ℕ) (v : UnitValue) → 0 < length more → UnitSpelling (front ++ more) v → unit_fault front ≡ Some Short
