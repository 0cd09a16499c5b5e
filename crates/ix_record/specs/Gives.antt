-- What a function returned is what reading gives, unless memory ran out.
use Rattle.std.specs.Prelude.{Result}
use Rattle.ix_wire.specs.Input.{Input}
use Rattle.ix_wire.specs.Read as wire
use Rattle.ix_record.specs.declared.fault.RecordError.{RecordError}
use Rattle.ix_record.specs.declared.fault.RecordError.TheVariants.{Memory}
use Rattle.ix_record.specs.Reading.{Read}

-- the value is what was read, and the place is behind it
abbrev pub Gives : {A : Type 0} → Result A RecordError → Input → Read A → Type 0
Gives result to read = wire.Gives Memory result to read
