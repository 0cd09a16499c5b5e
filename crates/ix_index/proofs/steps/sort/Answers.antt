use Rattle.std.proofs.Common.{rules}
use Rattle.std.specs.Ordering.{is_lt}
use Rattle.std.proofs.lemmas.Fn.{always_returns_same}
use Rattle.std.proofs.lemmas.List.Sorted.{ranks_by}
use Rattle.ix_index.specs.declared.steps.Step.{Step}
use Rattle.ix_index.specs.Gathering.{step_cmp}
use Rattle.ix_index.proofs.Ordered.{steps_total}
use Rattle.ix_index.proofs.steps.sort.Goals as goal

pub returns-clause-sorted : goal.returns-clause-sorted
returns-clause-sorted g c =
    c.sort_unstable_by.ensures.sorted (λ a b. is_lt (step_cmp g.K.Ord.cmp g.V.Ord.cmp a b)) (ranks_by (steps_total g.met.K.Ord.total g.met.V.Ord.total) (λ (s : Step g.row.K.Denot g.row.V.Denot). s))
    (always_returns_same _ _ _ (λ a r h called. search rules))
