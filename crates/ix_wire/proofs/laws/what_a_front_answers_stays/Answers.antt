use Rattle.ix_wire.specs.declared.fault.WireError.TheVariants.{Short}
use Rattle.ix_wire.specs.Fronts.{with_more}
use Rattle.ix_wire.proofs.Fronts.{front_read, front_refused}
use Rattle.ix_wire.proofs.laws.what_a_front_answers_stays.Goals as goal

pub returns-clause-read : goal.returns-clause-read
returns-clause-read c = λ read more from to n fronts is_read. front_read (Short from.at) more (read from) (read (with_more more from)) n to (fronts more from) is_read

pub returns-clause-refused : goal.returns-clause-refused
returns-clause-refused c = λ read more from e fronts is_other is_refused. front_refused (Short from.at) more (read from) (read (with_more more from)) e is_other (fronts more from) is_refused
