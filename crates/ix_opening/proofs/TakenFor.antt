-- What a unit file is taken for.
use Rattle.std.proofs.Common.{◌≡◌, ◌≢◌, ◌⊎◌, inl, inr, ℕ, List, Bool, true, false, not, cond, refl, sym, ap, ◌∙◌, Some, Ok, Err}
use Rattle.std.specs.Cmp.Lexicographic.{same_text}
use Rattle.std.specs.Str.{bytes_eq}
use Rattle.ix_wire.specs.Input.{start}
use Rattle.ix_unit.specs.declared.fault.UnitError.{UnitError}
use Rattle.ix_unit.specs.declared.fault.UnitError.TheVariants.{Memory}
use Rattle.ix_unit.specs.declared.value.UnitValue.{UnitValue}
use Rattle.ix_unit.specs.Reading.{Read, fault_of, unit_fields_at, unit_fault}
use Rattle.ix_unit.specs.Spelling.{UnitSpelling}
use Rattle.ix_unit.proofs.Door.{spelled_is_read}
use Rattle.ix_machine.specs.declared.opened.UnitFault.{UnitFault}
use Rattle.ix_machine.specs.declared.opened.UnitFault.TheVariants.{WrongName}
use Rattle.ix_machine.specs.Opening.{cause, sealed, sealed_unit, unit_of, stored, values_in, judged_unit, judged}
use Rattle.ix_machine.specs.State.{Files}

unit_refused : (bytes : List ℕ) (error : UnitError) → unit_fault bytes ≡ Some error → unit_of bytes ≡ Err (cause error)
unfolding unit_fault
unit_refused bytes error fault = by_read (unit_fields_at (start bytes)) fault
  where
    by_read : (r : Read UnitValue) → fault_of bytes r ≡ Some error → sealed_unit bytes r ≡ Err (cause error)
    by_read (Ok v) is = ap (sealed v.0) is
    by_read (Err e) is = let same : e ≡ error = cc in ap (λ (x : UnitError). Err (cause x)) same

unit_read : (bytes : List ℕ) (unit : UnitValue) → UnitSpelling bytes unit → unit_of bytes ≡ Ok unit
unit_read bytes unit spelled = let read = spelled_is_read bytes unit spelled in ap (sealed_unit bytes) read.1.0 ∙ ap (sealed unit) read.1.1

pub same_bytes : (a b : List ℕ) → bytes_eq a b ≡ true → a ≡ b
same_bytes a b e = same_text a b (sym e)

pub is_false : (b : Bool) → not b ≡ true → b ≡ false
is_false true h = cc
is_false false h = refl

pub is_true : (b : Bool) → not b ≡ false → b ≡ true
is_true true h = refl
is_true false h = cc

module _ (name_of : List ℕ → List ℕ) (records : Files) (name bytes : List ℕ) where
  pub refused_unread : (error : UnitError) → unit_fault bytes ≡ Some error → judged name_of records name bytes ≡ Err (cause error)
  refused_unread error fault = ap (judged_unit name_of records name) (unit_refused bytes error fault)

  pub refused_by : (error : UnitError) (fault : UnitFault) → error ≢ Memory → (error ≡ Memory) ⊎ (unit_fault bytes ≡ Some error) → fault ≡ cause error → judged name_of records name bytes ≡ Err fault
  refused_by error fault other (inl is) gives = absurd (other is)
  refused_by error fault other (inr is) gives = refused_unread error is ∙ ap Err (sym gives)

  module _ (unit : UnitValue) (spelled : UnitSpelling bytes unit) where
    by_name : (b : Bool) → bytes_eq name (name_of unit.output) ≡ b → judged name_of records name bytes ≡ cond b (stored unit (values_in name_of records unit.records)) (Err WrongName)
    by_name b is =
        ap (judged_unit name_of records name) (unit_read bytes unit spelled)
        ∙ ap (λ (x : Bool). cond x (stored unit (values_in name_of records unit.records)) (Err WrongName)) is

    pub refused_name : bytes_eq name (name_of unit.output) ≡ false → judged name_of records name bytes ≡ Err WrongName
    refused_name other = by_name false other

    pub refused_record : bytes_eq name (name_of unit.output) ≡ true → (fault : UnitFault) → values_in name_of records unit.records ≡ Err fault → judged name_of records name bytes ≡ Err fault
    refused_record same fault is = by_name true same ∙ ap (stored unit) is
