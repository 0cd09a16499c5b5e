use Rattle.std.proofs.Common.{◌≡◌, ◌++◌, take}
use Rattle.std.specs.List.{flat_map, filter_map}
use Rattle.ix_outline.specs.Outline.{related_usr}
use Rattle.ix_outline.proofs.outline.append_occurrences.Given as goal

abbrev pub invariant-loop-occurrence : goal.invariant-loop-occurrence
invariant-loop-occurrence l =
    l.usrs.items ≡ l.initial.usrs.items ++ flat_map (λ o. filter_map (related_usr l.symbols) o.relations) (take l.occurrence-index l.occurrences)
