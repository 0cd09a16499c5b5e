use Rattle.std.proofs.Common.{◌++◌}
use Rattle.std.specs.List.{flat_map, zip}
use Rattle.std.specs.Slice.Iter.{iter_rest}
use Rattle.std.proofs.lemmas.Slice.Zip.{either_empty_from_Zip}
use Rattle.ix_record.specs.declared.value.RecordValue.{RecordValue}
use Rattle.ix_unit.specs.declared.value.RecordDep.{RecordDep}
use Rattle.ix_answers.proofs.Loops.{pairs_end}
use Rattle.ix_answers.proofs.facts.append_records.Goals as goal

pub returns : goal.returns
returns g c =
    pairs_end (λ (r : RecordDep × RecordValue). g.F.RecordFacts.of_record r.0.name r.1) (iter_rest c.loop-dep.dep-iterator.a) (iter_rest c.loop-dep.dep-iterator.b) c.loop-dep.out.items
    (c.args.out.now.items ++ flat_map (λ (r : RecordDep × RecordValue). g.F.RecordFacts.of_record r.0.name r.1) (zip c.args.deps.now c.args.values.now))
    (either_empty_from_Zip c.loop-dep.dep-iterator c.next.new.self c.next.result c.in-None.is c.next.ensures.steps) c.loop-dep.invariant
