use Rattle.std.proofs.Common.{refl}
use Rattle.ix_machine.proofs.Published.{put_faults}
use Rattle.ix_machine.proofs.laws.puts_and_stages_may_fail.Goals as goal

pub returns-clause-put : goal.returns-clause-put
returns-clause-put c = put_faults

pub returns-clause-stage : goal.returns-clause-stage
returns-clause-stage c = λ name_of s lane unit. refl
