use Rattle.std.proofs.Common.{refl}
use Rattle.ix_machine.specs.declared.event.Call.TheVariants as call
use Rattle.ix_machine.specs.declared.event.Outcome.TheVariants as outcome
use Rattle.ix_ledger.specs.Books.{event, logged}
use Rattle.ix_ledger.specs.Effects.{leased}
use Rattle.ix_library.proofs.Taking.{lease_takes}
use Rattle.ix_library.proofs.Reserved.{again_kept}
use Rattle.ix_library.proofs.Slots.{less_staged, ready_still, kept_where_ok, kept_where_err}
use Rattle.ix_library.proofs.library.Library.lease.Goals as goal

pub returns-clause-step : goal.returns-clause-step
returns-clause-step g c s stands none =
    lease_takes c.given.ensures c.each_step_is_the_machines.ensures.leases g.N.Naming.name_of s c.args.lane c.args.names.now c.args.self.now.ledger c.lease.new.self c.args.self.now.known c.args.self.now.shelf (g.D.Dir.state c.args.self.now.dir)
    (event c.args.lane (call.Lease c.args.names.now) outcome.Done) c.lease.result stands none c.lease.ensures.leased

pub returns-clause-ready : goal.returns-clause-ready
returns-clause-ready g c =
    let old = c.args.self.now.ledger in
    let kept = leased old.kept c.args.lane c.args.names.now in
    ready_still c.lease.result old.kept kept c.lease.new.self.kept (g.D.Dir.state c.args.self.now.dir) (less_staged old.kept kept c.args.lane refl)
    (kept_where_ok c.lease.result c.lease.new.self (logged old kept (event c.args.lane (call.Lease c.args.names.now) outcome.Done)) c.lease.ensures.leased)
    (kept_where_err c.lease.result c.lease.new.self (record old { has_room = c.lease.new.self.has_room }) c.lease.ensures.same)

pub returns-clause-again : goal.returns-clause-again
returns-clause-again g c s stands =
    let old = c.args.self.now.ledger in
    again_kept c.lease.result g.N.Naming.name_of s c.args.self.now.known old.kept c.lease.new.self.kept c.args.self.now.shelf (g.D.Dir.state c.args.self.now.dir)
    (kept_where_err c.lease.result c.lease.new.self (record old { has_room = c.lease.new.self.has_room }) c.lease.ensures.same) stands
