use Rattle.std.proofs.Common.{rules}
use Rattle.ix_tables.specs.Items.{item_of}
use Rattle.ix_tables.proofs.Stepped.{stepped_items, both_parts}
use Rattle.ix_tables.proofs.gives.revised.Goals as goal

pub returns : goal.returns
returns g c = λ before balance of.
    stepped_items g.K.Ord.cmp g.V.Ord.cmp item_of g.G.Gives.facts c.args.index.now c.in_ok-after.after c.gained.result.now c.lost.result.now c.append_all-2.new.steps.items
    c.args.mover.now.gained c.args.mover.now.lost before c.args.mover.now.entries c.gained.ensures c.lost.ensures
    (both_parts c.new-steps.result.items c.append_all.new.steps.items c.append_all-2.new.steps.items _ _ (search rules) c.in_ok-append_all.ensures c.in_ok-append_all-2.ensures)
    c.in_ok-after.ensures.index c.in_ok-after.ensures.counts balance of
