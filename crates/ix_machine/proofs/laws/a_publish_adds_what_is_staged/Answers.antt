use Rattle.ix_machine.proofs.Published.{publish_adds, publish_drops}
use Rattle.ix_machine.proofs.laws.a_publish_adds_what_is_staged.Goals as goal

pub returns-clause-added : goal.returns-clause-added
returns-clause-added c = λ name_of s lane lease unit stepped h is staged e made. publish_adds name_of s lane h lease unit is staged stepped e made

pub returns-clause-drops : goal.returns-clause-drops
returns-clause-drops c = publish_drops
