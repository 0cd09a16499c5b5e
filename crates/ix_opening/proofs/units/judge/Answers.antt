use Rattle.std.proofs.Common.{◌≡◌, true, false, ap, sym, ◌∙◌, subst, Err, None}
use Rattle.std.specs.Str.{bytes_eq}
use Rattle.ix_model.specs.declared.publication.StoredUnit.{StoredUnit}
use Rattle.ix_machine.specs.Opening.{values_in, IsSoundUnit}
use Rattle.ix_opening.specs.Judged.{HaveFault, IsSoundAs}
use Rattle.ix_opening.proofs.TakenFor.{same_bytes, is_false, is_true, refused_by, refused_name, refused_record}
use Rattle.ix_opening.proofs.units.judge.Goals as goal

pub returns-in-Err-clause-judged : goal.returns-in-Err-clause-judged
returns-in-Err-clause-judged g c records agrees =
    let cause = c.in_ok-cause_of-in-Err.ensures in
    refused_by g.N.Naming.name_of records c.args.name c.args.bytes.now c.in-Err.error c.in_ok-cause_of-in-Err.field-0 cause.read c.in-Err.ensures.fault cause.cause

pub returns-then-ne-clause-judged : goal.returns-then-ne-clause-judged
returns-then-ne-clause-judged g c records agrees =
    let name_of = g.N.Naming.name_of in
    let named : c.name.result ≡ name_of c.in-Ok.unit.output = c.name.ensures ∙ ap name_of c.bytes.ensures.value in
    let other : bytes_eq c.args.name (name_of c.in-Ok.unit.output) ≡ false = ap (bytes_eq c.args.name) (sym named) ∙ is_false (bytes_eq c.args.name c.name.result) (sym c.ne.ensures ∙ c.if-ne.true) in
    refused_name name_of records c.args.name c.args.bytes.now c.in-Ok.unit c.in-Ok.ensures.found other

pub returns-in-Some-clause-judged : goal.returns-in-Some-clause-judged
returns-in-Some-clause-judged g c records agrees =
    let name_of = g.N.Naming.name_of in
    let named : c.name.result ≡ name_of c.in-Ok.unit.output = c.name.ensures ∙ ap name_of c.bytes.ensures.value in
    let same : bytes_eq c.args.name (name_of c.in-Ok.unit.output) ≡ true = ap (bytes_eq c.args.name) (sym named) ∙ is_true (bytes_eq c.args.name c.name.result) (sym c.ne.ensures ∙ c.if-ne.false) in
    let fault : values_in name_of records c.as_slice.result.now ≡ Err c.in-Some.fault = subst (HaveFault name_of records c.as_slice.result.now) c.in-Some.is (c.in_ok-fault.ensures.fault records agrees) in
    refused_record name_of records c.args.name c.args.bytes.now c.in-Ok.unit c.in-Ok.ensures.found same c.in-Some.fault (ap (values_in name_of records) (sym c.as_slice.ensures) ∙ fault)

pub returns-in_ok-new-in-None-clause-judged : goal.returns-in_ok-new-in-None-clause-judged
returns-in_ok-new-in-None-clause-judged g c records agrees =
    let name_of = g.N.Naming.name_of in
    let unit = c.in-Ok.unit in
    let named : c.name.result ≡ name_of unit.output = c.name.ensures ∙ ap name_of c.bytes.ensures.value in
    let same : bytes_eq c.args.name (name_of unit.output) ≡ true = ap (bytes_eq c.args.name) (sym named) ∙ is_true (bytes_eq c.args.name c.name.result) (sym c.ne.ensures ∙ c.if-ne.false) in
    let stand = subst (λ deps. HaveFault name_of records deps None) c.as_slice.ensures (subst (HaveFault name_of records c.as_slice.result.now) c.in-None.is (c.in_ok-fault.ensures.fault records agrees)) in
    let whole : StoredUnit = record { unit = unit; values = stand.0 } in
    let sound : IsSoundUnit name_of records c.args.name c.args.bytes.now whole = record { spelled = c.in-Ok.ensures.found; named = same_bytes c.args.name (name_of unit.output) same; values = stand.1 } in
    subst (IsSoundAs name_of records c.args.name c.args.bytes.now) (sym c.in_ok-new-in-None.ensures.ok)
    (record { values = stand.0; stand = stand.1; is = c.opening_finds_sound_units.ensures.found name_of records c.args.name c.args.bytes.now whole sound })
