use Rattle.std.proofs.Common.{◌≡◌, map}
use Rattle.std.specs.Map.Iter.{deref_pair}
use Rattle.ix_machine.specs.Step.{name_with_output}
use Rattle.ix_model_run.proofs.known.name_with_output.Given as goal

-- the first of the units so far
abbrev pub invariant-loop-name : goal.invariant-loop-name
invariant-loop-name l = l.found ≡ name_with_output l.output (map deref_pair l.yielded)
