-- The fault of a record file that a fault of a field is.
use Rattle.ix_wire.specs.declared.fault.WireError.{WireError}
use Rattle.ix_wire.specs.declared.fault.WireError.TheVariants as wire
use Rattle.ix_record.specs.declared.fault.RecordError.{RecordError}
use Rattle.ix_record.specs.declared.fault.RecordError.TheVariants.{Short, BadField, Trailing, Memory}

abbrev pub record_error : WireError → RecordError
record_error (wire.Short at) = Short
record_error (wire.BadText at) = BadField at
record_error (wire.TooLong at) = BadField at
record_error (wire.Trailing at) = Trailing at
record_error wire.Memory = Memory
