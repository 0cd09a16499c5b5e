use Rattle.std.proofs.Common.{List, ℕ, ◌∷◌, [], filter, ap, ◌∙◌, arith}
use Rattle.std.specs.Map.{keys_of}
use Rattle.ix_unit.specs.declared.value.RecordDep.{RecordDep}
use Rattle.ix_ledger.specs.Fresh.{lacks, with_names}
use Rattle.ix_ledger.proofs.Freshly.{next_name}
use Rattle.ix_ledger.proofs.fresh.note_unit.Goals as goal

pub loop-dep-preserved : goal.loop-dep-preserved
loop-dep-preserved c =
    c.in_ok-note_name.ensures
    ∙ (ap (λ (set : List (List ℕ)). with_names set (filter (lacks c.args.needs.now) (c.dep-item.result.name ∷ []))) c.loop-dep.invariant
    ∙ next_name (λ (dep : RecordDep). dep.name) (lacks c.args.needs.now) (keys_of c.args.names.now.entries) c.as_slice-dep-items.result.now c.loop-dep.dep-index c.dep-item.result (omega arith) c.dep-item.is)
