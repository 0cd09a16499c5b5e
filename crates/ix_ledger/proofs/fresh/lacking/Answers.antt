use Rattle.std.proofs.Common.{List, ℕ, filter, ap, ◌∙◌, arith}
use Rattle.std.specs.Map.{keys_of}
use Rattle.ix_unit.specs.declared.value.UnitValue.{UnitValue}
use Rattle.ix_guard.specs.Listing.{names_in}
use Rattle.ix_ledger.specs.Fresh.{lacks, with_names}
use Rattle.ix_ledger.proofs.Freshly.{next_unit}
use Rattle.ix_ledger.proofs.fresh.lacking.Goals as goal

pub loop-put-preserved : goal.loop-put-preserved
loop-put-preserved c =
    c.in_ok-note_unit.ensures
    ∙ (ap (λ (unit : UnitValue). with_names (keys_of c.loop-put.names.entries) (filter (lacks c.args.needs.now) (names_in unit))) c.deref.ensures
    ∙ (ap (λ (set : List (List ℕ)). with_names set (filter (lacks c.args.needs.now) (names_in c.put-item.result.unit.value))) c.loop-put.invariant
    ∙ next_unit c.args.needs.now c.args.puts.now c.loop-put.put-index c.put-item.result (omega arith) c.put-item.is))
