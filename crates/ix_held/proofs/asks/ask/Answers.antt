use Rattle.ix_held.proofs.asks.ask.Goals as goal

pub go_on-requires-in-None : goal.go_on-requires-in-None
go_on-requires-in-None c = c.in_ok-opened-in-None.ensures.safe c.args.bodies.now

pub returns-in_ok-opened-in-None-clause-next : goal.returns-in_ok-opened-in-None-clause-next
returns-in_ok-opened-in-None-clause-next c = λ units tables holds is.
    c.go_on-in-None.ensures.next units tables holds (c.in_ok-opened-in-None.ensures.over units c.args.bodies.now (c.find_what_is_there.ensures units tables))
