use Rattle.std.proofs.Common.{refl}
use Rattle.ix_machine.specs.declared.event.Call.TheVariants as call
use Rattle.ix_machine.specs.declared.event.Outcome.TheVariants as outcome
use Rattle.ix_ledger.specs.Books.{event, logged}
use Rattle.ix_ledger.specs.Effects.{released}
use Rattle.ix_library.proofs.Taking.{release_takes}
use Rattle.ix_library.proofs.Reserved.{again_kept}
use Rattle.ix_library.proofs.Slots.{same_staged, ready_still, kept_where_ok, kept_where_err}
use Rattle.ix_library.proofs.library.Library.release.Goals as goal

pub returns-clause-step : goal.returns-clause-step
returns-clause-step g c s stands =
    release_takes c.given.ensures c.each_step_is_the_machines.ensures.releases g.N.Naming.name_of s c.args.lane c.args.self.now.ledger c.release.new.self c.args.self.now.known c.args.self.now.shelf (g.D.Dir.state c.args.self.now.dir)
    (event c.args.lane call.Release outcome.Done) c.release.result stands c.release.ensures.released

pub returns-clause-ready : goal.returns-clause-ready
returns-clause-ready g c =
    let old = c.args.self.now.ledger in
    let kept = released old.kept c.args.lane in
    ready_still c.release.result old.kept kept c.release.new.self.kept (g.D.Dir.state c.args.self.now.dir) (same_staged old.kept kept refl)
    (kept_where_ok c.release.result c.release.new.self (logged old kept (event c.args.lane call.Release outcome.Done)) c.release.ensures.released)
    (kept_where_err c.release.result c.release.new.self (record old { has_room = c.release.new.self.has_room }) c.release.ensures.same)

pub returns-clause-again : goal.returns-clause-again
returns-clause-again g c s stands =
    let old = c.args.self.now.ledger in
    again_kept c.release.result g.N.Naming.name_of s c.args.self.now.known old.kept c.release.new.self.kept c.args.self.now.shelf (g.D.Dir.state c.args.self.now.dir)
    (kept_where_err c.release.result c.release.new.self (record old { has_room = c.release.new.self.has_room }) c.release.ensures.same) stands
