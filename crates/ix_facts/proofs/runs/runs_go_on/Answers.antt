use Rattle.std.proofs.Common.{refl}
use Rattle.ix_facts.proofs.Playing.{one_more, state_after}
use Rattle.ix_facts.proofs.runs.runs_go_on.Goals as goal

pub returns-clause-begins : goal.returns-clause-begins
returns-clause-begins c name_of s first = refl

pub returns-clause-goes_on : goal.returns-clause-goes_on
returns-clause-goes_on c name_of s first between last calls called = one_more name_of calls s first between last called

pub returns-clause-state : goal.returns-clause-state
returns-clause-state c name_of s calls called = state_after name_of calls s called

pub returns-clause-call : goal.returns-clause-call
returns-clause-call c name_of s before after lane given ending takes logged again unmoved = record { takes = takes; logged = logged; again = again; unmoved = unmoved }

pub returns-clause-shown : goal.returns-clause-shown
returns-clause-shown c name_of kept lane names name output unit body purpose = (refl, refl, refl, refl, refl, refl, refl, refl, refl, refl, refl)
