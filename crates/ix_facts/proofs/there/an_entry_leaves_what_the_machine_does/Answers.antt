use Rattle.ix_facts.proofs.Rows.{as_the_machine}
use Rattle.ix_facts.proofs.there.an_entry_leaves_what_the_machine_does.Goals as goal

pub returns : goal.returns
returns c name_of s next lane given how marks named is = as_the_machine c.given_of_ledger.ensures name_of s lane marks named given next how is
