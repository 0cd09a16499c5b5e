use Rattle.std.proofs.Common.{◌≡◌, ◌<◌, ◌^◌, drop}
use Rattle.ix_plan.specs.View.{items_view}
use Rattle.ix_plan.specs.Json.{in_order}
use Rattle.ix_plan.specs.Values.{bit_of, bits_from, with_bit, width}
use Rattle.ix_plan.proofs.values.bits_from.Given as goal

abbrev pub invariant-loop-index : goal.invariant-loop-index
invariant-loop-index l =
    (l.mask < 2 ^ width l.sort)
    × (in_order (λ mask. bit_of l.sort) with_bit l.mask l.index (items_view (drop l.index l.items)) ≡ bits_from (bit_of l.sort) (items_view l.items))
