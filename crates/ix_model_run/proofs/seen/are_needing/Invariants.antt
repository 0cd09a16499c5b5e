use Rattle.std.proofs.Common.{◌≡◌, map}
use Rattle.std.specs.Map.Iter.{deref_pair}
use Rattle.ix_machine.specs.Needs.{units_need}
use Rattle.ix_model_run.proofs.seen.are_needing.Given as goal

-- whether one of the units so far needs it
abbrev pub invariant-loop-unit : goal.invariant-loop-unit
invariant-loop-unit l = l.needing ≡ units_need l.name (map deref_pair l.yielded)
