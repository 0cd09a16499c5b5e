use Rattle.std.proofs.Common.{◌≡◌, filter, take}
use Rattle.ix_dir.specs.NotedInOneWalk.{is_there}
use Rattle.ix_dir.proofs.values_by_name.ValuesByName.names.Given as goal

abbrev pub invariant-loop-name : goal.invariant-loop-name
invariant-loop-name l = l.names.items ≡ filter (is_there l.moves l.self) (take l.name-index l.name-items)
