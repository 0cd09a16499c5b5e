use Rattle.std.proofs.Common.{◌≡◌, ◌++◌, take}
use Rattle.ix_index.proofs.postings.Postings.append.Given as goal

abbrev pub invariant-loop-at : goal.invariant-loop-at
invariant-loop-at g l = l.self ≡ l.fn.self ++ take l.at l.part
