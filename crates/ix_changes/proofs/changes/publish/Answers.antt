use Rattle.ix_changes.proofs.Leading.{publish_leads, publish_stopped, at_ok, at_err}
use Rattle.ix_changes.proofs.changes.publish.Goals as goal

pub returns-clause-made : goal.returns-clause-made
returns-clause-made g c name_of s lane lease unit settled stepped holds sound leased staged named spelled waits is taken ends =
    publish_leads c.given.ensures name_of s _ _ holds lane lease unit settled stepped _ _ _ _ _ sound leased staged named spelled waits taken ends (at_ok _ _ settled is c.settle_and_publish.ensures.made)

pub returns-clause-failed : goal.returns-clause-failed
returns-clause-failed g c name_of s next holds alike is = publish_stopped c.given.ensures name_of s _ _ holds next _ _ _ alike (at_err _ _ is c.settle_and_publish.ensures.part)
