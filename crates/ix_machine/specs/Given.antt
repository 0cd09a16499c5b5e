-- What a call of the machine is given, as values.
use Rattle.std.specs.Prelude.{ℕ, List}
use Rattle.ix_record.specs.declared.body.Body.{Body}
use Rattle.ix_unit.specs.declared.value.UnitValue.{UnitValue}
use Rattle.ix_machine.specs.declared.event.Purpose.{Purpose}
use Rattle.ix_machine.specs.declared.given.Given as code
use Rattle.ix_machine.specs.declared.given.Given.TheVariants as code_variants

pub data Given : Type 0 where
  Lease : List (List ℕ) → Given
  Put : Body → Given
  Stage : UnitValue → Given
  Publish : Given
  Remove : List ℕ → Given
  Scan : Given
  Load : List ℕ → Purpose → Given
  Install : Given
  Adopt : Given
  Release : Given
  Collect : Given

-- what the references lead to
abbrev pub given_of : code.Given → Given
given_of (code_variants.Lease names) = Lease names.now
given_of (code_variants.Put body) = Put body.now
given_of (code_variants.Stage unit) = Stage unit.now.value
given_of code_variants.Publish = Publish
given_of (code_variants.Remove output) = Remove output.now
given_of code_variants.Scan = Scan
given_of (code_variants.Load name purpose) = Load name purpose
given_of code_variants.Install = Install
given_of code_variants.Adopt = Adopt
given_of code_variants.Release = Release
given_of code_variants.Collect = Collect
