use Rattle.std.proofs.Common.{ap, ◌∙◌}
use Rattle.ix_library.specs.Endings.{with_event}
use Rattle.ix_turns.specs.Ended.{ending}
use Rattle.ix_calls.proofs.endings.ended.Goals as goal

pub returns-in-Ok-clause-noted : goal.returns-in-Ok-clause-noted
returns-in-Ok-clause-noted c earlier events lane called noted = (called, noted ∙ ap (λ r. with_event earlier lane called (ending r)) c.in-Ok.is)
