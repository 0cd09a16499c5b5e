use Rattle.std.proofs.Common.{◌≡◌, ◌++◌, map, take}
use Rattle.std.specs.List.{flat_map}
use Rattle.ix_tables.specs.Items.{item_of}
use Rattle.ix_tables.specs.Steps.{step_of}
use Rattle.ix_tables.proofs.gives.append_all.Given as goal

abbrev pub invariant-loop-item : goal.invariant-loop-item
invariant-loop-item g l = l.steps.items ≡ l.initial.steps.items ++ flat_map (λ item. map (step_of l.gains) (g.G.Gives.facts (item_of item))) (take l.item-index l.items)
