use Rattle.std.proofs.Common.{◌≡◌, ◌++◌, take, map, filter}
use Rattle.std.specs.Str.{bytes_eq}
use Rattle.ix_query.proofs.names.append_included.Given as goal

abbrev pub invariant-loop-include : goal.invariant-loop-include
invariant-loop-include l = l.out.items ≡ l.initial.out.items ++ map (λ i. i.to) (filter (λ i. bytes_eq i.from l.path) (take l.include-index l.includes))
