use Rattle.std.proofs.Common.{inr, refl}
use Rattle.ix_types.specs.Name.{IsFileName}
use Rattle.ix_unit.specs.Reading.{name_at}
use Rattle.ix_unit.proofs.Readers.{test_from_name, test_from_no_name}
use Rattle.ix_unit.proofs.reading.read_name.Goals as goal

pub returns-in-Some : goal.returns-in-Some
unfolding name_at
returns-in-Some c =
    let named : IsFileName c.in_ok-text.text = rw (← c.bytes.ensures.value) (c.in-Some.ensures.known.0 refl) in
    rw (c.in_ok-text.ensures, test_from_name c.in_ok-text.text named, c.in-Some.ensures.value, c.bytes.ensures.value) refl

pub returns : goal.returns
unfolding name_at
returns c =
    let no_name : IsFileName c.in_ok-text.text → ⊥ = λ named. cc (c.in-None.ensures.known.1 (rw c.bytes.ensures.value named)) in
    inr (rw (c.in_ok-text.ensures, test_from_no_name c.in_ok-text.text no_name, c.at-at.ensures) refl)
