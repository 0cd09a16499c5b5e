-- Which answers say that a source or a sink failed. Want of memory says nothing of either.
use Rattle.std.specs.Prelude.{Bool, true, false, Result, Ok, Err}
use Rattle.ix_io.specs.declared.sink.SinkError as sink
use Rattle.ix_io.specs.declared.transfer.ReadError as reading

abbrev pub sink_failed : {X : Type 0} → Result X sink.SinkError → Bool
sink_failed (Ok x) = false
sink_failed (Err sink.TheVariants.Failed) = true
sink_failed (Err sink.TheVariants.Memory) = false

abbrev pub read_failed : {X : Type 0} → Result X reading.ReadError → Bool
read_failed (Ok x) = false
read_failed (Err reading.TheVariants.Failed) = true
read_failed (Err reading.TheVariants.Memory) = false
