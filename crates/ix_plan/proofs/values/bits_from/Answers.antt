use Rattle.std.proofs.Common.{ap, sym, ◌∙◌, ◌+◌, drop}
use Rattle.ix_plan.specs.View.{items_view}
use Rattle.ix_plan.specs.Json.{in_order}
use Rattle.ix_plan.specs.Values.{bit_of, with_bit}
use Rattle.ix_plan.proofs.Items.{next_item}
use Rattle.ix_plan.proofs.Rows.{with_bit_below}
use Rattle.ix_plan.proofs.values.bits_from.Goals as goal

pub loop-index-preserved : goal.loop-index-preserved
loop-index-preserved c = (
  with_bit_below c.args.sort _ _ _ c.set_bit-mask.ensures c.loop-index.invariant.0 c.in_ok-bit.ensures.range,
  ap (λ mask. in_order (λ before. bit_of c.args.sort) with_bit mask (c.loop-index.index + 1) (items_view (drop (c.loop-index.index + 1) c.args.items.now))) c.set_bit-mask.ensures
      ∙ sym (next_item (λ before. bit_of c.args.sort) with_bit c.loop-index.mask c.loop-index.index c.args.items.now _ _ c.loop-index-test.true c.index-items-index.is c.in_ok-bit.ensures.bit)
      ∙ c.loop-index.invariant.1,
)
