use Rattle.std.proofs.Common.{◌≡◌, sym, subst}
use Rattle.ix_changes.specs.Holds.{Leads}
use Rattle.ix_changes.proofs.Leading.{collect_leads, none_leads, change_stopped, at_done, at_err, at_some}
use Rattle.ix_changes.proofs.changes.collect.Goals as goal

pub returns-clause-removed : goal.returns-clause-removed
returns-clause-removed g c name_of s lane name stepped holds sound loose waits is taken ends =
    collect_leads c.given.ensures name_of s _ _ holds lane name stepped _ _ _ sound waits taken ends (at_done _ _ is c.settle_and_collect.ensures.removed name loose) (at_done _ _ is c.settle_and_collect.ensures.unsynced (at_some _ name loose))

pub returns-clause-nothing : goal.returns-clause-nothing
returns-clause-nothing g c name_of s lane stepped holds sound loose waits is taken ends =
    subst (Leads name_of s stepped.state _ _) (sym (c.settle_and_collect.ensures.same loose)) (none_leads c.given.ensures name_of s _ _ holds lane stepped _ _ sound waits taken ends (at_done _ _ is c.settle_and_collect.ensures.nothing loose))

pub returns-clause-failed : goal.returns-clause-failed
returns-clause-failed g c name_of s next holds alike is =
    subst (Leads name_of s next _ _) (sym (at_err _ _ is c.settle_and_collect.ensures.after)) (change_stopped c.given.ensures name_of s _ _ holds next _ _ alike (at_err _ _ is c.settle_and_collect.ensures.part))
