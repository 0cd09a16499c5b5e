use Rattle.ix_guard.proofs.Reasons.{guarded_for, for_guarded, protected_for, for_protected}
use Rattle.ix_guard.proofs.laws.what_stays_has_a_reason.Goals as goal

pub returns-clause-guarded : goal.returns-clause-guarded
returns-clause-guarded c guard lane name = (guarded_for guard lane name, for_guarded guard lane name)

pub returns-clause-protected : goal.returns-clause-protected
returns-clause-protected c guard name = (protected_for guard name, for_protected guard name)
