use Rattle.std.proofs.Common.{refl}
use Rattle.ix_machine.specs.declared.event.Call.TheVariants as call
use Rattle.ix_machine.specs.declared.event.Outcome.TheVariants as outcome
use Rattle.ix_ledger.specs.Books.{event, logged}
use Rattle.ix_ledger.specs.Effects.{adopted}
use Rattle.ix_library.proofs.Taking.{adopt_takes}
use Rattle.ix_library.proofs.Reserved.{again_kept}
use Rattle.ix_library.proofs.Slots.{same_staged, ready_still, kept_where_ok, kept_where_err}
use Rattle.ix_library.proofs.library.Library.adopt.Goals as goal

pub returns-clause-step : goal.returns-clause-step
returns-clause-step g c s stands =
    adopt_takes c.given.ensures c.each_step_is_the_machines.ensures.adopts g.N.Naming.name_of s c.args.lane c.args.self.now.ledger c.adopt.new.self c.args.self.now.known c.args.self.now.shelf (g.D.Dir.state c.args.self.now.dir)
    (event c.args.lane call.Adopt (outcome.At c.args.self.now.ledger.kept.current)) c.adopt.result stands c.adopt.ensures.adopted c.adopt.ensures.mark

pub returns-clause-ready : goal.returns-clause-ready
returns-clause-ready g c =
    let old = c.args.self.now.ledger in
    let kept = adopted old.kept c.args.lane in
    ready_still c.adopt.result old.kept kept c.adopt.new.self.kept (g.D.Dir.state c.args.self.now.dir) (same_staged old.kept kept refl)
    (kept_where_ok c.adopt.result c.adopt.new.self (logged old kept (event c.args.lane call.Adopt (outcome.At old.kept.current))) c.adopt.ensures.adopted)
    (kept_where_err c.adopt.result c.adopt.new.self (record old { has_room = c.adopt.new.self.has_room }) c.adopt.ensures.same)

pub returns-clause-again : goal.returns-clause-again
returns-clause-again g c s stands =
    let old = c.args.self.now.ledger in
    again_kept c.adopt.result g.N.Naming.name_of s c.args.self.now.known old.kept c.adopt.new.self.kept c.args.self.now.shelf (g.D.Dir.state c.args.self.now.dir)
    (kept_where_err c.adopt.result c.adopt.new.self (record old { has_room = c.adopt.new.self.has_room }) c.adopt.ensures.same) stands
