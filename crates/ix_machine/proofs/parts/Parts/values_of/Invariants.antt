use Rattle.std.proofs.Common.{◌≡◌, take}
use Rattle.ix_machine.specs.Step.{values_of}
use Rattle.ix_machine.proofs.parts.Parts.values_of.Given as goal

abbrev pub invariant-loop-dep : goal.invariant-loop-dep
invariant-loop-dep l = l.values.items ≡ values_of l.self.records.entries (take l.dep-index l.deps)
