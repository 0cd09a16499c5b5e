-- What a function returned is what reading gives, unless memory ran out.
use Rattle.std.specs.Prelude.{◌≡◌, Option, Some, None, Result, Ok, Err}
use Rattle.ix_wire.specs.Input.{Input}
use Rattle.ix_wire.specs.Read as wire
use Rattle.ix_unit.specs.declared.fault.UnitError.{UnitError}
use Rattle.ix_unit.specs.declared.fault.UnitError.TheVariants.{Memory}
use Rattle.ix_unit.specs.Reading.{Read}

-- the fault is the first one
abbrev pub Fails : {A : Type 0} → UnitError → Read A → Type 0
Fails e read = wire.Fails Memory e read

-- the value is what was read, and the place is behind it
abbrev pub Gives : {A : Type 0} → Result A UnitError → Input → Read A → Type 0
Gives result to read = wire.Gives Memory result to read

-- the fault of a test, if there is one
abbrev pub GivesSeal : {A : Type 0} → Result A UnitError → Option UnitError → Type 0
GivesSeal (Ok x) fault = fault ≡ None
GivesSeal (Err e) fault = fault ≡ Some e
