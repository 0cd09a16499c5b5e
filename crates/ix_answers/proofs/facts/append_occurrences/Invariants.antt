use Rattle.std.proofs.Common.{◌≡◌, ◌++◌, take}
use Rattle.std.specs.List.{flat_map, filter_map}
use Rattle.ix_answers.specs.Facts.{related_symbol}
use Rattle.ix_answers.proofs.facts.append_occurrences.Given as goal

abbrev pub invariant-loop-occurrence : goal.invariant-loop-occurrence
invariant-loop-occurrence l =
    l.out.items ≡ l.initial.out.items ++ flat_map (λ o. filter_map (related_symbol l.name l.symbols) o.relations) (take l.occurrence-index l.occurrences)
