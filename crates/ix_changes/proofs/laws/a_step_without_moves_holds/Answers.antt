use Rattle.ix_changes.proofs.Leading.{unmoved_leads}
use Rattle.ix_changes.proofs.laws.a_step_without_moves_holds.Goals as goal

pub returns : goal.returns
returns c name_of s next shelf moves holds alike = unmoved_leads c.given.ensures name_of s shelf moves holds next alike
