use Rattle.std.proofs.Common.{length}
use Rattle.ix_machine.specs.Needs.{seen_at}
use Rattle.ix_machine.specs.Run as machine
use Rattle.ix_replay.proofs.Beginning.{run_begins}
use Rattle.ix_replay.proofs.runner.Runner.new.Goals as goal

pub returns-in-Ok-seats_of-clause-stands : goal.returns-in-Ok-seats_of-clause-stands
returns-in-Ok-seats_of-clause-stands g c script opening poller tasks are stands none =
    run_begins g.N.Naming.name_of script opening poller c.args.library.ledger c.args.library.shelf c.args.library.known (g.D.Dir.state c.args.library.dir) c.in-Ok.importer c.args.lanes.items c.in-Ok-seats_of.seats.items tasks
    (c.lanes_agree_with_the_state.ensures.begun g.N.Naming.name_of poller script opening) stands none
    (c.an_importer_begins_with_the_machine.ensures opening (length script.lanes) c.in-Ok.importer c.in-Ok.ensures.number c.in-Ok.ensures.closed c.in-Ok.ensures.tables) are
    c.in-Ok-seats_of.ensures.lanes (c.in-Ok-seats_of.ensures.sit (seen_at (machine.begun opening (length script.lanes))))
