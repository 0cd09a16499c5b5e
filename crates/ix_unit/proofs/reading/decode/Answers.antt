use Rattle.std.proofs.Common.{◌≡◌, Some, None, Ok, Err, inl, inr, ap, ◌∙◌, arith}
use Rattle.std.proofs.lemmas.Result.{err_from_is_err_and}
use Rattle.ix_wire.specs.Input.{start}
use Rattle.ix_wire.specs.Spelling.{IsBytes}
use Rattle.ix_unit.specs.declared.fault.UnitError.{UnitError}
use Rattle.ix_unit.specs.declared.value.UnitValue.{UnitValue}
use Rattle.ix_unit.specs.Gives.{Fails}
use Rattle.ix_unit.specs.Reading.{unit_fields_at, seal_fault}
use Rattle.ix_unit.proofs.Faults.{read_was_spelled, place_is_inside, fields_failed, seal_failed, spelled_is_decoded, only_memory}
use Rattle.ix_unit.proofs.reading.decode.Goals as goal

pub returns-in_err-unit-clause-only : goal.returns-in_err-unit-clause-only
returns-in_err-unit-clause-only c = λ v spelled.
    let p = err_from_is_err_and c.from_residual.result c.from_residual.ensures.1 in
    let e = c.in_err-unit.field-0.0 in
    let failed : Fails e (unit_fields_at (start c.args.bytes.now)) = rw (← c.new-cursor.ensures) c.in_err-unit.ensures in
    inr (p.1 ∙ ap (λ (x : UnitError). Err x) (p.2 ∙ only_memory c.args.bytes.now e v (fields_failed c.args.bytes.now e failed) spelled))

pub returns-in_err-unit-clause-fault : goal.returns-in_err-unit-clause-fault
returns-in_err-unit-clause-fault c =
    let p = err_from_is_err_and c.from_residual.result c.from_residual.ensures.1 in
    let e = c.in_err-unit.field-0.0 in
    let failed : Fails e (unit_fields_at (start c.args.bytes.now)) = rw (← c.new-cursor.ensures) c.in_err-unit.ensures in
    rw (p.1, p.2) (fields_failed c.args.bytes.now e failed)

pub check_seal-requires : goal.check_seal-requires
check_seal-requires c =
    let fits : IsBytes c.args.bytes.now = λ i. omega (arith, c.type_inv.bytes i) in
    let read : unit_fields_at (start c.args.bytes.now) ≡ Ok (c.in_ok-unit.unit, c.read_unit.new.cursor) = rw (← c.new-cursor.ensures) c.in_ok-unit.ensures in
    rw c.at.ensures (place_is_inside c.args.bytes.now c.in_ok-unit.unit c.read_unit.new.cursor fits read)

pub returns-in_err-check_seal-clause-only : goal.returns-in_err-check_seal-clause-only
returns-in_err-check_seal-clause-only c = λ v spelled.
    let p = err_from_is_err_and c.from_residual-in_err-check_seal.result c.from_residual-in_err-check_seal.ensures.1 in
    let e = c.in_err-check_seal.field-0.0 in
    let read : unit_fields_at (start c.args.bytes.now) ≡ Ok (c.in_ok-unit.unit, c.read_unit.new.cursor) = rw (← c.new-cursor.ensures) c.in_ok-unit.ensures in
    let failed : seal_fault c.args.bytes.now c.read_unit.new.cursor.at ≡ Some e = rw (← c.at.ensures) c.in_err-check_seal.ensures in
    let fault = seal_failed c.args.bytes.now c.in_ok-unit.unit c.read_unit.new.cursor e read failed in
    inr (p.1 ∙ ap (λ (x : UnitError). Err x) (p.2 ∙ only_memory c.args.bytes.now e v (inr fault) spelled))

pub returns-in_err-check_seal-clause-fault : goal.returns-in_err-check_seal-clause-fault
returns-in_err-check_seal-clause-fault c =
    let p = err_from_is_err_and c.from_residual-in_err-check_seal.result c.from_residual-in_err-check_seal.ensures.1 in
    let e = c.in_err-check_seal.field-0.0 in
    let read : unit_fields_at (start c.args.bytes.now) ≡ Ok (c.in_ok-unit.unit, c.read_unit.new.cursor) = rw (← c.new-cursor.ensures) c.in_ok-unit.ensures in
    let failed : seal_fault c.args.bytes.now c.read_unit.new.cursor.at ≡ Some e = rw (← c.at.ensures) c.in_err-check_seal.ensures in
    rw (p.1, p.2) (inr (seal_failed c.args.bytes.now c.in_ok-unit.unit c.read_unit.new.cursor e read failed))

pub returns-clause-found : goal.returns-clause-found
returns-clause-found c =
    let fits : IsBytes c.args.bytes.now = λ i. omega (arith, c.type_inv.bytes i) in
    let read : unit_fields_at (start c.args.bytes.now) ≡ Ok (c.in_ok-unit.unit, c.read_unit.new.cursor) = rw (← c.new-cursor.ensures) c.in_ok-unit.ensures in
    let sealed : seal_fault c.args.bytes.now c.read_unit.new.cursor.at ≡ None = rw (← c.at.ensures) c.in_ok-check_seal.ensures in
    read_was_spelled c.args.bytes.now c.in_ok-unit.unit c.read_unit.new.cursor fits (read, sealed)

pub returns-clause-only : goal.returns-clause-only
returns-clause-only c = λ v spelled.
    let read : unit_fields_at (start c.args.bytes.now) ≡ Ok (c.in_ok-unit.unit, c.read_unit.new.cursor) = rw (← c.new-cursor.ensures) c.in_ok-unit.ensures in
    inl (ap (λ (x : UnitValue). Ok x) (spelled_is_decoded c.args.bytes.now v c.in_ok-unit.unit c.read_unit.new.cursor read spelled))
