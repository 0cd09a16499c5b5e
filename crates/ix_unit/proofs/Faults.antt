-- A unit is read, or its first fault is met.
use Rattle.std.proofs.Common.{◌≡◌, ℕ, ◌+◌, ◌≤◌, List, ◌++◌, length, Option, Ok, Err, Some, None, ◌⊎◌, inl, inr, refl, sym, ap, ◌∙◌, arith}
use Rattle.std.specs.Prelude.{MatchOption}
use Rattle.std.proofs.lemmas.List.{length-append}
use Rattle.sha2.specs.Sha256.{sha256}
use Rattle.ix_wire.specs.Input.{Input, start}
use Rattle.ix_wire.specs.Spelling.{IsBytes}
use Rattle.ix_wire.proofs.Door.{same_value}
use Rattle.ix_unit.specs.declared.fault.UnitError.{UnitError}
use Rattle.ix_unit.specs.declared.fault.UnitError.TheVariants.{Memory}
use Rattle.ix_unit.specs.declared.value.UnitValue.{UnitValue}
use Rattle.ix_unit.specs.Gives.{Fails}
use Rattle.ix_unit.specs.Laws.{FaultWhereNothingIsSpelled, OneSpelling, OneValue}
use Rattle.ix_unit.specs.Reading.{Read, fault_of, unit_fields_at, seal_fault, unit_fault}
use Rattle.ix_unit.specs.Spelling.{unit_bytes, UnitSpelling}
use Rattle.ix_unit.proofs.Grammar.{unit_read, unit_was_spelled}
use Rattle.ix_unit.proofs.Seal.{sealed, was_sealed}

-- the value is read, and the digest stands behind it
abbrev pub IsRead : List ℕ → UnitValue → Input → Type 0
IsRead bytes v to = (unit_fields_at (start bytes) ≡ Ok (v, to)) × (seal_fault bytes to.at ≡ None)

-- behind the fields of the value
abbrev pub behind : UnitValue → Input
behind v = record { at = 0 + length (unit_bytes v); rest = sha256 (unit_bytes v) }

pub fields_are_read : (bytes : List ℕ) (v : UnitValue) → UnitSpelling bytes v → unit_fields_at (start bytes) ≡ Ok (v, behind v)
fields_are_read bytes v spelled = unit_read (start bytes) (behind v) v spelled.valid (record { parts = spelled.fields; moved = refl })

pub spelled_is_read : (bytes : List ℕ) (v : UnitValue) → UnitSpelling bytes v → (to : Input) × IsRead bytes v to
spelled_is_read bytes v spelled =
    let body = unit_bytes v in
    let read : IsRead bytes v (behind v) = (fields_are_read bytes v spelled, rw spelled.fields (sealed body (0 + length body) (omega arith))) in
    (behind v, read)

pub read_was_spelled : (bytes : List ℕ) (v : UnitValue) (to : Input) → IsBytes bytes → IsRead bytes v to → UnitSpelling bytes v
read_was_spelled bytes v to fits read =
    let h = unit_was_spelled (start bytes) to v fits read.0 in
    let body = unit_bytes v in
    let len : length body ≡ to.at = omega (arith, h.1.moved) in
    let no_fault : seal_fault (body ++ to.rest) to.at ≡ None = rw (← h.1.parts) read.1 in
    record { valid = h.0; fields = h.1.parts ∙ ap (λ (rest : List ℕ). body ++ rest) (was_sealed body to.rest to.at len no_fault) }

pub place_is_inside : (bytes : List ℕ) (v : UnitValue) (to : Input) → IsBytes bytes → unit_fields_at (start bytes) ≡ Ok (v, to) → to.at ≤ length bytes
place_is_inside bytes v to fits read =
    let h = unit_was_spelled (start bytes) to v fits read in
    let len : length bytes ≡ length (unit_bytes v ++ to.rest) = ap (λ (bs : List ℕ). length bs) h.1.parts in
    omega (arith, h.1.moved, len, length-append (unit_bytes v) to.rest)

pub one_value : OneValue
one_value bytes v w sv sw =
    let a = spelled_is_read bytes v sv in
    let b = spelled_is_read bytes w sw in
    same_value v w a.0 b.0 (sym a.1.0 ∙ b.1.0)

pub one_spelling : OneSpelling
one_spelling a b v sa sb = sa.fields ∙ sym sb.fields

-- what is spelled has no fault
no_fault : (bytes : List ℕ) (v : UnitValue) → UnitSpelling bytes v → unit_fault bytes ≡ None
unfolding unit_fault
no_fault bytes v spelled =
    let h = spelled_is_read bytes v spelled in
    ap (fault_of bytes) h.1.0 ∙ h.1.1

no_value_at_fault : (bytes : List ℕ) (e : UnitError) (v : UnitValue) → unit_fault bytes ≡ Some e → UnitSpelling bytes v → ⊥
no_value_at_fault bytes e v failed spelled =
    let none = no_fault bytes v spelled in
    cc

-- the fault of the fields
pub fields_failed : (bytes : List ℕ) (e : UnitError) → Fails e (unit_fields_at (start bytes)) → (e ≡ Memory) ⊎ (unit_fault bytes ≡ Some e)
unfolding unit_fault
fields_failed bytes e (inl memory) = inl memory
fields_failed bytes e (inr failed) = inr (ap (fault_of bytes) failed)

-- the fault behind the fields
pub seal_failed : (bytes : List ℕ) (v : UnitValue) (to : Input) (e : UnitError) → unit_fields_at (start bytes) ≡ Ok (v, to) → seal_fault bytes to.at ≡ Some e → unit_fault bytes ≡ Some e
unfolding unit_fault
seal_failed bytes v to e read failed = ap (fault_of bytes) read ∙ failed

pub spelled_is_decoded : (bytes : List ℕ) (v w : UnitValue) (to : Input) → unit_fields_at (start bytes) ≡ Ok (w, to) → UnitSpelling bytes v → w ≡ v
spelled_is_decoded bytes v w to read spelled =
    let h = spelled_is_read bytes v spelled in
    same_value w v to h.0 (sym read ∙ h.1.0)

pub only_memory : (bytes : List ℕ) (e : UnitError) (v : UnitValue) → (e ≡ Memory) ⊎ (unit_fault bytes ≡ Some e) → UnitSpelling bytes v → e ≡ Memory
only_memory bytes e v (inl memory) spelled = memory
only_memory bytes e v (inr failed) spelled = absurd (no_value_at_fault bytes e v failed spelled)

no_value_at_fields : (bytes : List ℕ) (e : UnitError) (v : UnitValue) → unit_fields_at (start bytes) ≡ Err e → UnitSpelling bytes v → ⊥
no_value_at_fields bytes e v failed spelled =
    let read = (spelled_is_read bytes v spelled).1.0 in
    cc

seal_cases : (bytes : List ℕ) (v : UnitValue) (to : Input) (o : Option UnitError) → IsBytes bytes → unit_fields_at (start bytes) ≡ Ok (v, to) → seal_fault bytes to.at ≡ o
    → MatchOption o ((w : UnitValue) × UnitSpelling bytes w) (λ _. (w : UnitValue) → UnitSpelling bytes w → ⊥)
seal_cases bytes v to None fits read e = (v, read_was_spelled bytes v to fits (read, e))
seal_cases bytes v to (Some f) fits read e = λ w spelled. no_value_at_fault bytes f w (seal_failed bytes v to f read e) spelled

fault_cases : (bytes : List ℕ) (r : Read UnitValue) → IsBytes bytes → unit_fields_at (start bytes) ≡ r → MatchOption (fault_of bytes r) ((v : UnitValue) × UnitSpelling bytes v) (λ _. (v : UnitValue) → UnitSpelling bytes v → ⊥)
fault_cases bytes (Ok x) fits e = seal_cases bytes x.0 x.1 (seal_fault bytes x.1.at) fits e refl
fault_cases bytes (Err d) fits e = λ v spelled. no_value_at_fields bytes d v e spelled

pub fault_where_nothing_is_spelled : FaultWhereNothingIsSpelled
unfolding unit_fault
fault_where_nothing_is_spelled bytes fits = fault_cases bytes (unit_fields_at (start bytes)) fits refl
