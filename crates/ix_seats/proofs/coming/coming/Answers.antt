use Rattle.std.proofs.Common.{◌≡◌, Option, Some, IfSome, Global, option_map, sym, subst}
use Rattle.std.specs.declared.sync.Arc.{Arc}
use Rattle.ix_model.specs.Units.{Units}
use Rattle.ix_lookups.specs.Loaded.{Loaded}
use Rattle.ix_needs.specs.Premises.{Holds}
use Rattle.ix_outline.specs.Known.{AreTables}
use Rattle.ix_tables.specs.declared.tables.Version.{Version}
use Rattle.ix_asking.specs.Open.{IsOpen}
use Rattle.ix_held.specs.Next.{IsNext}
use Rattle.ix_seats.specs.Seated.{asked}
use Rattle.ix_seats.specs.Seats.{IsSeat}
use Rattle.ix_seats.proofs.Answering.{coming-some}
use Rattle.ix_seats.proofs.coming.coming.Goals as goal

pub returns-in_ok-next-in-Some-version-clause-coming : goal.returns-in_ok-next-in-Some-version-clause-coming
returns-in_ok-next-in-Some-version-clause-coming c = λ seen is.
    let lane = c.args.lane.now in
    let query = c.in-Some.query.now in
    let version = c.in-Some-version.version.value in
    let next = c.in_ok-next-in-Some-version.next in
    let asked_is : asked lane.progress ≡ Some query = sym c.in-Some.ensures in
    let there = subst (λ (o : Option (Arc Version Global)). IsSeat seen (record { lane = lane; version = option_map (λ (v : Arc Version Global). v.value) o; ask = c.args.opened })) c.in-Some-version.is is in
    coming-some c.answers_are_sorted_sets.ensures.texts seen lane query asked_is c.bodies.ensures.names version c.args.opened there next
    (subst (λ (b : Loaded). (units : Units) → AreTables units version.tables → Holds units b → IfSome c.args.opened (IsOpen query units b) → IsNext query units b next) c.bodies.ensures.bodies
    (subst (λ (v : Version). (units : Units) → AreTables units v.tables → Holds units c.bodies.result.now → IfSome c.args.opened (IsOpen query units c.bodies.result.now) → IsNext query units c.bodies.result.now next) c.deref.ensures
    c.in_ok-next-in-Some-version.ensures.next))
