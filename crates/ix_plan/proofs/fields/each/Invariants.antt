use Rattle.std.proofs.Common.{◌≡◌, [], drop}
use Rattle.ix_plan.specs.View.{items_view}
use Rattle.ix_plan.specs.Json.{in_order, one_more}
use Rattle.ix_plan.proofs.fields.each.Given as goal

abbrev pub invariant-loop-index : goal.invariant-loop-index
invariant-loop-index g l =
    in_order (λ before. g.T.Item.of l.setting) one_more l.items.items l.index (items_view (drop l.index l.values))
    ≡ in_order (λ before. g.T.Item.of l.setting) one_more [] 0 (items_view l.values)
