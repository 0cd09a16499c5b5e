use Rattle.std.proofs.Common.{◌≡◌, ◌++◌, take}
use Rattle.std.specs.List.{filter_map}
use Rattle.ix_answers.specs.Facts.{related_symbol}
use Rattle.ix_answers.proofs.facts.append_relations.Given as goal

abbrev pub invariant-loop-relation : goal.invariant-loop-relation
invariant-loop-relation l =
    l.out.items ≡ l.initial.out.items ++ filter_map (related_symbol l.name l.symbols) (take l.relation-index l.relations)
