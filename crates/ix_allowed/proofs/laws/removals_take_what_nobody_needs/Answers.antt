use Rattle.ix_replays.specs.Run.{lanes_of}
use Rattle.ix_allowed.proofs.Removed.{removal, unneeded, unprotected}
use Rattle.ix_allowed.proofs.laws.removals_take_what_nobody_needs.Goals as goal

pub returns-clause-removed : goal.returns-clause-removed
returns-clause-removed c name_of script opening order flags run longer lane flag event name naming accepted is comes e shows says =
    let r =
    removal c.collects_take_loose_records.ensures.removed name_of (lanes_of name_of script) run longer lane flag
    (c.runs_are_the_machines.ensures.sound name_of script opening order flags run naming accepted is comes) e event name shows says in
    (r.unneeded, r.taken, r.rest)

pub returns-clause-nobody : goal.returns-clause-nobody
returns-clause-nobody c s name = (unprotected s name, unneeded s name)

pub returns-clause-of_a_run : goal.returns-clause-of_a_run
returns-clause-of_a_run c name_of script opening order flags run before after event name naming accepted is runs e says =
    let r = c.runs_are_the_machines.ensures in
    let m = r.moments name_of script opening order flags run before after event (r.comes name_of script opening order flags run runs) e in
    let gone =
    removal c.collects_take_loose_records.ensures.removed name_of (lanes_of name_of script) m.earlier m.longer m.lane m.flag
    (r.sound name_of script opening m.order m.flags m.earlier naming accepted is m.comes) m.goes_on event name m.shows says in
    (m, gone.unneeded, gone.taken)
