use Rattle.std.proofs.Common.{refl}
use Rattle.ix_machine.specs.Step.{staged_by}
use Rattle.ix_machine.proofs.MayBeMade.{publishes, has_staged, installs, has_opened}
use Rattle.ix_machine.proofs.laws.calls_may_be_made.Goals as goal

pub returns-clause-lease : goal.returns-clause-lease
returns-clause-lease c = λ name_of s lane names. (λ x. x, λ x. x)

pub returns-clause-put : goal.returns-clause-put
returns-clause-put c = λ name_of s lane body. (λ h. (h.0, h.1, h.2, h.3.0, h.3.1), λ h. (h.0, h.1, h.2, (h.3, h.4)))

pub returns-clause-stage : goal.returns-clause-stage
returns-clause-stage c = λ name_of s lane unit. (λ h. (h.0, h.1, h.2, h.3.0, h.3.1), λ h. (h.0, h.1, h.2, (h.3, h.4)))

pub returns-clause-publish : goal.returns-clause-publish
returns-clause-publish c = λ name_of s lane. (publishes name_of s lane (staged_by s lane), has_staged name_of s lane (staged_by s lane))

pub returns-clause-install : goal.returns-clause-install
returns-clause-install c = λ name_of s lane. (λ h. installs s lane s.import h.open_import h.is_open h.own, λ e. has_opened s lane s.import refl e)

pub returns-clause-load_for_import : goal.returns-clause-load_for_import
returns-clause-load_for_import c = λ name_of s lane name.
    (λ h. (h.open_import, h.is_open, h.needed, h.new), λ h. record { open_import = h.0; is_open = h.1; needed = h.2; new = h.3 })

pub returns-clause-load_for_ask : goal.returns-clause-load_for_ask
returns-clause-load_for_ask c = λ name_of s lane name. (λ h. (h.mark, h.held, h.needed), λ h. record { mark = h.0; held = h.1; needed = h.2 })

pub returns-clause-always : goal.returns-clause-always
returns-clause-always c = λ name_of s lane output. (tt, tt, tt, tt, tt)
