use Rattle.std.proofs.Common.{◌≡◌, take}
use Rattle.ix_machine.specs.Step.{values_of}
use Rattle.ix_model_run.proofs.known.Known.values_of.Given as goal

abbrev pub invariant-loop-dep : goal.invariant-loop-dep
invariant-loop-dep l = l.values.items ≡ values_of l.self.records (take l.dep-index l.deps)
