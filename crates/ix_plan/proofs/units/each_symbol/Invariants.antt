use Rattle.std.proofs.Common.{◌≡◌, [], drop}
use Rattle.ix_plan.specs.View.{items_view}
use Rattle.ix_plan.specs.Json.{in_order, one_more}
use Rattle.ix_plan.specs.Plans.{symbol_of, is_usr_of}
use Rattle.ix_plan.specs.Usrs.{Keeps}
use Rattle.ix_plan.proofs.units.each_symbol.Given as goal

abbrev pub invariant-loop-index : goal.invariant-loop-index
invariant-loop-index l =
    (in_order (λ before. symbol_of l.setting.format (is_usr_of before)) one_more l.symbols.items l.index (items_view (drop l.index l.values))
    ≡ in_order (λ before. symbol_of l.setting.format (is_usr_of before)) one_more [] 0 (items_view l.values))
    × Keeps l.usrs.firsts l.usrs.others.keys l.symbols.items
