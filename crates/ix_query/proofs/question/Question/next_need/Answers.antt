use Rattle.std.proofs.Common.{ℕ, List, take, subst}
use Rattle.ix_answers.specs.Rising.{AreLoaded}
use Rattle.ix_lookups.specs.Loaded.{loaded_names}
use Rattle.ix_query.proofs.question.Question.next_need.Goals as goal

pub returns-clause-open : goal.returns-clause-open
returns-clause-open c =
    subst (λ (needed : List (List ℕ)). AreLoaded (loaded_names c.args.bodies.now) (take c.first_lacking-self-inside.result needed)) c.deref.ensures.value c.first_lacking-self-inside.ensures.passed
