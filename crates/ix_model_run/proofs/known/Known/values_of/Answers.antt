use Rattle.ix_machine.specs.Step.{value_of}
use Rattle.std.proofs.Common.{option_and_then, []}
use Rattle.std.specs.Map.{lookup}
use Rattle.std.specs.BTreeMap.{is_at}
use Rattle.ix_types.specs.Row.{text_cmp}
use Rattle.ix_unit.specs.declared.value.RecordDep.{RecordDep}
use Rattle.ix_model.proofs.Door.{one_more}
use Rattle.ix_model_run.proofs.known.Known.values_of.Goals as goal

pub loop-dep-preserved : goal.loop-dep-preserved
loop-dep-preserved c =
    one_more (λ (dep : RecordDep). option_and_then value_of (lookup (is_at (text_cmp dep.name)) c.args.self.now.records)) c.args.deps.now c.loop-dep.dep-index c.dep-item.result c.loop-dep-test.true c.dep-item.is
    [] c.loop-dep.values.items c.append_some.new.out.items c.in_ok-value_under.field-0 c.in_ok-value_under.ensures c.loop-dep.invariant c.in_ok-append_some.ensures
