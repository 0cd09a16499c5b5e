use Rattle.std.proofs.Common.{◌≡◌, true, sym, ◌∙◌, arith}
use Rattle.ix_unit.specs.declared.value.RecordDep.{RecordDep}
use Rattle.ix_guard.specs.Protection.{was_put}
use Rattle.ix_calls.proofs.Puts.{all_so, each_more}
use Rattle.ix_calls.proofs.tested.has_put_all.Goals as goal

pub loop-dep-preserved : goal.loop-dep-preserved
loop-dep-preserved g c =
    each_more (λ (dep : RecordDep). was_put c.args.library.now.ledger.kept.guard c.args.number dep.name ≡ true) c.args.records.now c.loop-dep.dep-index c.dep-item.result (omega arith) c.dep-item.is c.loop-dep.invariant
    (sym c.has_put.ensures ∙ c.if-not-has_put.false)

pub returns : goal.returns
returns g c = λ is. all_so (λ (dep : RecordDep). was_put c.args.library.now.ledger.kept.guard c.args.number dep.name ≡ true) c.args.records.now c.loop-dep.dep-index (omega arith) c.loop-dep.invariant
