use Rattle.std.proofs.Common.{ap, sym, ◌∙◌}
use Rattle.ix_facts.proofs.Lasting.{acknowledged_and_waiting, all_acknowledged, all_but_one, begins_here, pends_last, waits_on}
use Rattle.ix_facts.proofs.Memory.{kept_fields}
use Rattle.ix_facts.proofs.Playing.{played_all}
use Rattle.ix_facts.proofs.lasts.at_most_the_last_waits.Goals as goal

pub returns-clause-begins : goal.returns-clause-begins
returns-clause-begins c s moves base pending counts = c.at_most_one_change_waits.ensures.none s moves pending (begins_here moves base s.publications counts)

pub returns-clause-goes_on : goal.returns-clause-goes_on
returns-clause-goes_on c name_of s first last calls before now at run was is = waits_on c.given_of_steps.ensures name_of s first last calls before now (played_all c.given_of_steps.ensures name_of calls s first last at run) was is

pub returns-clause-changes : goal.returns-clause-changes
returns-clause-changes c s moves waits = (waits.one, waits.none)

pub returns-clause-publications : goal.returns-clause-publications
returns-clause-publications c publications moves from base counts = acknowledged_and_waiting from base publications moves counts c.given_of_steps.ensures

pub returns-clause-settled : goal.returns-clause-settled
returns-clause-settled c s moves from base waits counts none = all_acknowledged from base s.publications moves counts c.given_of_steps.ensures (waits.none none)

pub returns-clause-one : goal.returns-clause-one
returns-clause-one c s moves from base waits counts = all_but_one from base s.publications moves counts c.given_of_steps.ensures waits.one

pub returns-clause-last : goal.returns-clause-last
returns-clause-last c name_of s kept shelf known dir moves stands waits mark is =
    let fields = kept_fields name_of s kept stands.keeps in
    waits.last mark (sym fields.1 ∙ is) ∙ sym fields.0

pub returns-clause-pends : goal.returns-clause-pends
returns-clause-pends c name_of s kept shelf known dir moves stands waits one =
    let fields = kept_fields name_of s kept stands.keeps in
    let pends = pends_last s moves (c.at_most_one_change_waits.ensures.one s moves waits) one in
    (pends.0, fields.1 ∙ pends.1, pends.2 ∙ sym fields.0)
