use Rattle.std.proofs.Common.{◌≡◌, map, filter}
use Rattle.ix_answers.specs.Pattern.{matches}
use Rattle.ix_answers.proofs.answers.matched.Given as goal

-- the USRs of the symbols so far that match
abbrev pub invariant-loop-symbol : goal.invariant-loop-symbol
invariant-loop-symbol l = l.usrs.items ≡ map (λ symbol. symbol.usr) (filter (λ symbol. matches l.text l.start l.end l.fold symbol.name) l.yielded)
