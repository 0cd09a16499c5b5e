-- An interrupted write writes nothing.
use Rattle.std.specs.Io.KnownBytes.{Keeps}
use Rattle.ix_io.proofs.std_io.write_retrying.Given as goal

abbrev pub invariant-loop : goal.invariant-loop
invariant-loop g l = Keeps (g.W.Write.contents l.initial.writer) (g.W.Write.contents l.writer)
