use Rattle.std.proofs.Common.{sym, arith}
use Rattle.ix_types.proofs.Texts.{refusal-control, refusal-none}
use Rattle.ix_types.proofs.text.fault_of.Goals as goal

pub returns-in-Some : goal.returns-in-Some
returns-in-Some c =
    sym (refusal-control c.args.bytes.now c.in-Some.at (omega arith) c.in-Ok.ensures.cases.1 c.in-Some.ensures)

pub returns-in-None : goal.returns-in-None
returns-in-None c =
    sym (refusal-none c.args.bytes.now (omega arith) c.in-Ok.ensures.cases.1 c.in-None.ensures)
