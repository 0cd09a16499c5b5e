use Rattle.ix_ledger.proofs.MayBeMade.{none_leased, may_put_by, may_stage_by, may_publish_by, may_install_by}
use Rattle.ix_ledger.proofs.laws.calls_may_be_made.Goals as goal

pub returns-clause-lease : goal.returns-clause-lease
returns-clause-lease c = none_leased

pub returns-clause-put : goal.returns-clause-put
returns-clause-put c name_of s lane kept body keeps = may_put_by name_of s lane kept keeps c.the_guard_agrees_with_the_machine.ensures.protected body

pub returns-clause-stage : goal.returns-clause-stage
returns-clause-stage c name_of s lane kept unit lease keeps = may_stage_by name_of s lane kept keeps unit lease

pub returns-clause-publish : goal.returns-clause-publish
returns-clause-publish c = may_publish_by

pub returns-clause-install : goal.returns-clause-install
returns-clause-install c = may_install_by
