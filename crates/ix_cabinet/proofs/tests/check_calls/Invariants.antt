use Rattle.std.specs.Option.{IfSome}
use Rattle.ix_types.specs.Name.{sha_name}
use Rattle.ix_cabinet.specs.Scan.{HoldsUnits}
use Rattle.ix_cabinet.proofs.tests.check_calls.Given as goal

abbrev pub invariant-loop-call : goal.invariant-loop-call
invariant-loop-call g l = IfSome (g.D.Dir.state l.dir).moves (HoldsUnits sha_name)
