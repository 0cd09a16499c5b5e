use Rattle.std.proofs.Common.{◌≡◌}
use Rattle.std.specs.List.{flat_map}
use Rattle.ix_answers.proofs.facts.of_units.Given as goal

-- what the units so far say
abbrev pub invariant-loop-name : goal.invariant-loop-name
invariant-loop-name g l = l.all.items ≡ flat_map (λ entry. g.F.UnitFacts.of_unit entry.0.now entry.1.now) l.yielded
