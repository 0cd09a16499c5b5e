use Rattle.std.proofs.Common.{ap, sym}
use Rattle.ix_record.proofs.Door.{spelled_is_read}
use Rattle.ix_machine.specs.Step.{read_value}
use Rattle.ix_machine.proofs.Plainly.{fault-none}
use Rattle.ix_model_run.proofs.known.value_of.Goals as goal

pub returns-in-Ok : goal.returns-in-Ok
returns-in-Ok c = sym (ap read_value (spelled_is_read c.args.bytes.now c.in-Ok.value c.in-Ok.ensures.found).1)

pub returns-in-Err : goal.returns-in-Err
returns-in-Err c = fault-none c.args.bytes.now c.in-Err.error c.none_where.result c.in-Err.ensures.fault c.none_where.ensures
