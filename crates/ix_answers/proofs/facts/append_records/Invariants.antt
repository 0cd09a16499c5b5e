use Rattle.std.proofs.Common.{◌≡◌, ◌++◌}
use Rattle.std.specs.List.{flat_map, zip}
use Rattle.std.specs.Slice.Iter.{iter_rest}
use Rattle.ix_answers.proofs.facts.append_records.Given as goal

-- what the records so far say, and what those to come do
abbrev pub invariant-loop-dep : goal.invariant-loop-dep
invariant-loop-dep g l =
    l.out.items ++ flat_map (λ r. g.F.RecordFacts.of_record r.0.name r.1) (zip (iter_rest l.dep-iterator.a) (iter_rest l.dep-iterator.b))
    ≡ l.initial.out.items ++ flat_map (λ r. g.F.RecordFacts.of_record r.0.name r.1) (zip l.deps l.values)
