use Rattle.std.proofs.Common.{◌≡◌, ◌++◌, map, take}
use Rattle.ix_answers.specs.Facts.{listed_path}
use Rattle.ix_answers.proofs.facts.append_record_paths.Given as goal

abbrev pub invariant-loop-dep : goal.invariant-loop-dep
invariant-loop-dep l = l.out.items ≡ l.initial.out.items ++ map (λ dep. listed_path l.name l.stored dep.path) (take l.dep-index l.dep-items)
