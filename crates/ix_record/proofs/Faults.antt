-- A record is read, or its first fault is met.
use Rattle.std.proofs.Common.{◌≡◌, ℕ, List, Result, Ok, Err, Option, Some, None, ◌⊎◌, inl, inr, refl, sym, ap, ◌∙◌}
use Rattle.std.specs.Prelude.{IfOk, IfErr, MatchOption}
use Rattle.ix_wire.specs.Input.{Input, start}
use Rattle.ix_wire.specs.Spelling.{IsBytes}
use Rattle.ix_wire.proofs.Door.{same_value}
use Rattle.ix_record.specs.declared.fault.RecordError.{RecordError}
use Rattle.ix_record.specs.declared.fault.RecordError.TheVariants.{Memory}
use Rattle.ix_record.specs.declared.value.RecordValue.{RecordValue}
use Rattle.ix_record.specs.Gives.{Gives}
use Rattle.ix_record.specs.Laws.{FaultWhereNothingIsSpelled, OneFormat, OneSpelling, OneValue, WholeWhereNoFault}
use Rattle.ix_record.specs.Reading.{Read, fault_of, record_at, record_fault}
use Rattle.ix_record.specs.Spelling.{RecordSpelling}
use Rattle.ix_record.proofs.Grammar.{spelled_is_read, read_was_spelled}

pub one_value : OneValue
one_value bytes v w sv sw =
    let a = spelled_is_read bytes v sv in
    let b = spelled_is_read bytes w sw in
    same_value v w a.0 b.0 (sym a.1 ∙ b.1)

pub one_spelling : OneSpelling
one_spelling a b v sa sb = sa.fields ∙ sym sb.fields

pub one_format : OneFormat
one_format bytes v w one two sv sw =
    let same = ap (λ (x : RecordValue). x.format) (one_value bytes v w sv sw) in
    cc

no_value_at_fault : (bytes : List ℕ) (e : RecordError) (v : RecordValue) → record_at (start bytes) ≡ Err e → RecordSpelling bytes v → ⊥
no_value_at_fault bytes e v failed spelled =
    let read = (spelled_is_read bytes v spelled).1 in
    cc

fault_cases : (bytes : List ℕ) (r : Read RecordValue) → IsBytes bytes → record_at (start bytes) ≡ r → MatchOption (fault_of r) ((v : RecordValue) × RecordSpelling bytes v) (λ _. (v : RecordValue) → RecordSpelling bytes v → ⊥)
fault_cases bytes (Ok x) fits e = (x.0, read_was_spelled bytes x.0 x.1 fits e)
fault_cases bytes (Err d) fits e = λ v spelled. no_value_at_fault bytes d v e spelled

pub fault_where_nothing_is_spelled : FaultWhereNothingIsSpelled
unfolding record_fault
fault_where_nothing_is_spelled bytes fits = fault_cases bytes (record_at (start bytes)) fits refl

spelled_has_no_fault : (bytes : List ℕ) (v : RecordValue) → RecordSpelling bytes v → record_fault bytes ≡ None
unfolding record_fault
spelled_has_no_fault bytes v spelled = ap fault_of (spelled_is_read bytes v spelled).1

value_of_no_fault : (bytes : List ℕ) (o : Option RecordError) → MatchOption o ((v : RecordValue) × RecordSpelling bytes v) (λ _. (v : RecordValue) → RecordSpelling bytes v → ⊥) → o ≡ None → (v : RecordValue) × RecordSpelling bytes v
value_of_no_fault bytes None found e = found
value_of_no_fault bytes (Some fault) found e = absurd cc

pub whole_where_no_fault : WholeWhereNoFault
whole_where_no_fault name_of body fits = (
  λ whole. (whole.named, spelled_has_no_fault body.bytes whole.spelled.0 whole.spelled.1),
  λ h. record { named = h.0; spelled = value_of_no_fault body.bytes (record_fault body.bytes) (fault_where_nothing_is_spelled body.bytes fits) h.1 },
)

pub decoded_is_spelled : (bytes : List ℕ) (r : Result RecordValue RecordError) (to : Input) → IsBytes bytes → Gives r to (record_at (start bytes)) → IfOk r (RecordSpelling bytes)
decoded_is_spelled bytes (Ok v) to fits given = read_was_spelled bytes v to fits given
decoded_is_spelled bytes (Err e) to fits given = tt

pub spelled_is_decoded : (bytes : List ℕ) (r : Result RecordValue RecordError) (to : Input) → Gives r to (record_at (start bytes)) → (v : RecordValue) → RecordSpelling bytes v → (r ≡ Ok v) ⊎ (r ≡ Err Memory)
spelled_is_decoded bytes (Ok w) to given v spelled =
    let read = spelled_is_read bytes v spelled in
    inl (ap (λ (x : RecordValue). Ok x) (same_value w v to read.0 (sym given ∙ read.1)))
spelled_is_decoded bytes (Err e) to (inl memory) v spelled = inr (ap (λ (x : RecordError). Err x) memory)
spelled_is_decoded bytes (Err e) to (inr failed) v spelled = absurd (no_value_at_fault bytes e v failed spelled)

pub fault_is_answered : (bytes : List ℕ) (r : Result RecordValue RecordError) (to : Input) → Gives r to (record_at (start bytes)) → IfErr r (λ e. (e ≡ Memory) ⊎ (record_fault bytes ≡ Some e))
unfolding record_fault
fault_is_answered bytes (Ok v) to given = tt
fault_is_answered bytes (Err e) to (inl memory) = inl memory
fault_is_answered bytes (Err e) to (inr failed) = inr (ap fault_of failed)
