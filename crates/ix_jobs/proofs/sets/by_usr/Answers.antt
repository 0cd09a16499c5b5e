use Rattle.std.proofs.Common.{rules}
use Rattle.std.specs.Ordering.{is_lt}
use Rattle.std.proofs.lemmas.Fn.{always_returns_same}
use Rattle.std.proofs.lemmas.List.Sorted.{ranks_by}
use Rattle.ix_record.specs.declared.value.Symbol.{Symbol}
use Rattle.ix_record.specs.Order.{symbol_cmp}
use Rattle.ix_jobs.proofs.Orders.{symbol_total}
use Rattle.ix_jobs.proofs.sets.by_usr.Goals as goal

pub returns-clause-sorted : goal.returns-clause-sorted
returns-clause-sorted c =
    c.sort_unstable_by.ensures.sorted (λ a b. is_lt (symbol_cmp a b)) (ranks_by symbol_total (λ (s : Symbol). s))
    (always_returns_same _ _ _ (λ a r h called. search rules))
