-- The fault of a unit file that a fault of a field is.
use Rattle.ix_wire.specs.declared.fault.WireError.{WireError}
use Rattle.ix_wire.specs.declared.fault.WireError.TheVariants as wire
use Rattle.ix_unit.specs.declared.fault.UnitError.{UnitError}
use Rattle.ix_unit.specs.declared.fault.UnitError.TheVariants.{Short, BadField, Trailing, Memory}

abbrev pub unit_error : WireError → UnitError
unit_error (wire.Short at) = Short
unit_error (wire.BadText at) = BadField at
unit_error (wire.TooLong at) = BadField at
unit_error (wire.Trailing at) = Trailing at
unit_error wire.Memory = Memory
