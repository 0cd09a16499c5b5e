use Rattle.std.proofs.Common.{◌≡◌, ◌++◌, take}
use Rattle.std.specs.List.{filter_map}
use Rattle.ix_outline.specs.Outline.{related_usr}
use Rattle.ix_outline.proofs.outline.append_relations.Given as goal

abbrev pub invariant-loop-relation : goal.invariant-loop-relation
invariant-loop-relation l =
    l.usrs.items ≡ l.initial.usrs.items ++ filter_map (related_usr l.symbols) (take l.relation-index l.relations)
