-- What holds of records and their bytes.
use Rattle.std.specs.Prelude.{◌≡◌, ◌↔◌, List, ℕ, None, ◌<◌, ◌++◌, length, Some, MatchOption}
use Rattle.ix_wire.specs.Spelling.{IsBytes}
use Rattle.ix_record.specs.declared.fault.RecordError.TheVariants.{Short}
use Rattle.ix_types.specs.declared.format.Format.TheVariants.{One, Two}
use Rattle.ix_record.specs.declared.value.RecordValue.{RecordValue}
use Rattle.ix_record.specs.declared.body.Body.{Body}
use Rattle.ix_record.specs.Reading.{record_fault}
use Rattle.ix_record.specs.Spelling.{RecordSpelling}
use Rattle.ix_record.specs.Whole.{IsWhole}

-- bytes have a fault exactly where they spell no value
abbrev pub FaultWhereNothingIsSpelled : Type 0
FaultWhereNothingIsSpelled =
    (bytes : List ℕ) → IsBytes bytes → MatchOption (record_fault bytes) ((v : RecordValue) × RecordSpelling bytes v) (λ _. (v : RecordValue) → RecordSpelling bytes v → ⊥)

-- a value has one spelling
abbrev pub OneSpelling : Type 0
OneSpelling = (a b : List ℕ) (v : RecordValue) → RecordSpelling a v → RecordSpelling b v → a ≡ b

-- a spelling has one value
abbrev pub OneValue : Type 0
OneValue = (bytes : List ℕ) (v w : RecordValue) → RecordSpelling bytes v → RecordSpelling bytes w → v ≡ w

-- no bytes spell a value of each format
abbrev pub OneFormat : Type 0
OneFormat = (bytes : List ℕ) (v w : RecordValue) → v.format ≡ One → w.format ≡ Two → RecordSpelling bytes v → RecordSpelling bytes w → ⊥

-- a proper front of a spelling runs short
abbrev pub ShortWhereCut : Type 0
ShortWhereCut = (front more : List ℕ) (v : RecordValue) → 0 < length more → RecordSpelling (front ++ more) v → record_fault front ≡ Some Short

-- a record file is whole exactly where its name is that of its bytes, and these have no fault
abbrev pub WholeWhereNoFault : Type 0
WholeWhereNoFault = (name_of : List ℕ → List ℕ) (body : Body) → IsBytes body.bytes → IsWhole name_of body ↔ ((body.name ≡ name_of body.bytes) × (record_fault body.bytes ≡ None))
