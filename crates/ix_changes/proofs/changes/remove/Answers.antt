use Rattle.ix_changes.proofs.Leading.{remove_leads, change_stopped, at_ok, at_err}
use Rattle.ix_changes.proofs.changes.remove.Goals as goal

pub returns-clause-made : goal.returns-clause-made
returns-clause-made g c name_of s lane output settled stepped holds named waits is taken =
    remove_leads c.given.ensures name_of s _ _ holds lane output _ settled stepped _ _ named waits taken (at_ok _ _ settled is c.settle_and_remove.ensures.made)

pub returns-clause-failed : goal.returns-clause-failed
returns-clause-failed g c name_of s next holds alike is = change_stopped c.given.ensures name_of s _ _ holds next _ _ alike (at_err _ _ is c.settle_and_remove.ensures.part)
