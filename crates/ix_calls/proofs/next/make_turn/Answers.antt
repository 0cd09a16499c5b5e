use Rattle.std.proofs.Common.{ℕ, List, Option, Some, ap, subst, ◌∙◌}
use Rattle.ix_lanes.specs.TurnView.{turn_of}
use Rattle.ix_calls.specs.Sound.{IsSoundTurn}
use Rattle.ix_calls.specs.Turns.{IsAtTurn}
use Rattle.ix_calls.proofs.Making.{Leaving, beside_calls, follows_there, load_there, scan_there}
use Rattle.ix_calls.proofs.next.make_turn.Goals as goal

pub put-requires : goal.put-requires
put-requires g c = subst (λ t. IsSoundTurn g.N.Naming.name_of (turn_of t)) c.in-Put.is c.requires.sound

pub stage-requires : goal.stage-requires
stage-requires g c = subst (λ t. IsSoundTurn g.N.Naming.name_of (turn_of t)) c.in-Stage.is c.requires.sound

pub scan-requires : goal.scan-requires
scan-requires g c = scan_there g.N.Naming.name_of c.args.library.now.ledger.kept c.args.library.now.shelf c.args.library.now.known (g.D.Dir.state c.args.library.now.dir) c.args.number (turn_of c.args.turn) c.args.importer.now c.args.lacking c.requires.there

pub import-requires : goal.import-requires
import-requires g c = follows_there g.N.Naming.name_of c.args.library.now.ledger.kept c.args.library.now.shelf c.args.library.now.known (g.D.Dir.state c.args.library.now.dir) c.args.number (turn_of c.args.turn) c.args.importer.now c.args.lacking c.requires.there

pub load-requires : goal.load-requires
load-requires g c = load_there g.N.Naming.name_of c.args.library.now.ledger.kept c.args.library.now.shelf c.args.library.now.known (g.D.Dir.state c.args.library.now.dir) c.args.number (turn_of c.args.turn) c.args.importer.now c.args.lacking c.requires.there c.in-Some.name c.in-Some.is

pub returns-in-Lease-clause-call : goal.returns-in-Lease-clause-call
returns-in-Lease-clause-call g c s p stands turn at =
    let old = c.args.library.now in
    let new = c.lease.new.library in
    let laws : Leaving = record { follows = c.other_steps_leave_the_import.ensures.follows; under_way = c.other_steps_leave_the_import.ensures.under_way } in
    beside_calls laws g.N.Naming.name_of s c.args.number p old.ledger.events new.ledger.events (g.D.Dir.state old.dir) old.ledger.kept new.ledger.kept old.shelf new.shelf old.known new.known (g.D.Dir.state new.dir) c.args.importer.now c.args.lacking stands at
    c.lease.result (c.lease.ensures.call s p stands (turn ∙ ap (λ t. Some (turn_of t)) c.in-Lease.is))

pub returns-in-Put-clause-call : goal.returns-in-Put-clause-call
returns-in-Put-clause-call g c s p stands turn at =
    let old = c.args.library.now in
    let new = c.put.new.library in
    let laws : Leaving = record { follows = c.other_steps_leave_the_import.ensures.follows; under_way = c.other_steps_leave_the_import.ensures.under_way } in
    beside_calls laws g.N.Naming.name_of s c.args.number p old.ledger.events new.ledger.events (g.D.Dir.state old.dir) old.ledger.kept new.ledger.kept old.shelf new.shelf old.known new.known (g.D.Dir.state new.dir) c.args.importer.now c.args.lacking stands at
    c.put.result (c.put.ensures.call s p stands (turn ∙ ap (λ t. Some (turn_of t)) c.in-Put.is))

pub returns-in-Stage-clause-call : goal.returns-in-Stage-clause-call
returns-in-Stage-clause-call g c s p stands turn at =
    let old = c.args.library.now in
    let new = c.stage.new.library in
    let laws : Leaving = record { follows = c.other_steps_leave_the_import.ensures.follows; under_way = c.other_steps_leave_the_import.ensures.under_way } in
    beside_calls laws g.N.Naming.name_of s c.args.number p old.ledger.events new.ledger.events (g.D.Dir.state old.dir) old.ledger.kept new.ledger.kept old.shelf new.shelf old.known new.known (g.D.Dir.state new.dir) c.args.importer.now c.args.lacking stands at
    c.stage.result (c.stage.ensures.call s p stands (turn ∙ ap (λ t. Some (turn_of t)) c.in-Stage.is))

pub returns-in-Publish-clause-call : goal.returns-in-Publish-clause-call
returns-in-Publish-clause-call g c s p stands turn at =
    let old = c.args.library.now in
    let new = c.publish.new.library in
    let laws : Leaving = record { follows = c.other_steps_leave_the_import.ensures.follows; under_way = c.other_steps_leave_the_import.ensures.under_way } in
    beside_calls laws g.N.Naming.name_of s c.args.number p old.ledger.events new.ledger.events (g.D.Dir.state old.dir) old.ledger.kept new.ledger.kept old.shelf new.shelf old.known new.known (g.D.Dir.state new.dir) c.args.importer.now c.args.lacking stands at
    c.publish.result (c.publish.ensures.call s p stands (turn ∙ ap (λ t. Some (turn_of t)) c.in-Publish.is))

pub returns-in-Remove-clause-call : goal.returns-in-Remove-clause-call
returns-in-Remove-clause-call g c s p stands turn at =
    let old = c.args.library.now in
    let new = c.remove.new.library in
    let laws : Leaving = record { follows = c.other_steps_leave_the_import.ensures.follows; under_way = c.other_steps_leave_the_import.ensures.under_way } in
    beside_calls laws g.N.Naming.name_of s c.args.number p old.ledger.events new.ledger.events (g.D.Dir.state old.dir) old.ledger.kept new.ledger.kept old.shelf new.shelf old.known new.known (g.D.Dir.state new.dir) c.args.importer.now c.args.lacking stands at
    c.remove.result (c.remove.ensures.call s p stands (turn ∙ ap (λ t. Some (turn_of t)) c.in-Remove.is))

pub returns-in-Release-clause-call : goal.returns-in-Release-clause-call
returns-in-Release-clause-call g c s p stands turn at =
    let old = c.args.library.now in
    let new = c.release.new.library in
    let laws : Leaving = record { follows = c.other_steps_leave_the_import.ensures.follows; under_way = c.other_steps_leave_the_import.ensures.under_way } in
    beside_calls laws g.N.Naming.name_of s c.args.number p old.ledger.events new.ledger.events (g.D.Dir.state old.dir) old.ledger.kept new.ledger.kept old.shelf new.shelf old.known new.known (g.D.Dir.state new.dir) c.args.importer.now c.args.lacking stands at
    c.release.result (c.release.ensures.call s p stands (turn ∙ ap (λ t. Some (turn_of t)) c.in-Release.is))

pub returns-in-Collect-clause-call : goal.returns-in-Collect-clause-call
returns-in-Collect-clause-call g c s p stands turn at =
    let old = c.args.library.now in
    let new = c.collect.new.library in
    let laws : Leaving = record { follows = c.other_steps_leave_the_import.ensures.follows; under_way = c.other_steps_leave_the_import.ensures.under_way } in
    beside_calls laws g.N.Naming.name_of s c.args.number p old.ledger.events new.ledger.events (g.D.Dir.state old.dir) old.ledger.kept new.ledger.kept old.shelf new.shelf old.known new.known (g.D.Dir.state new.dir) c.args.importer.now c.args.lacking stands at
    c.collect.result (c.collect.ensures.call s p stands (turn ∙ ap (λ t. Some (turn_of t)) c.in-Collect.is))

pub returns-in-Scan-clause-call : goal.returns-in-Scan-clause-call
returns-in-Scan-clause-call g c s p stands turn at = c.scan.ensures.call s p c.args.lacking stands (turn ∙ ap (λ t. Some (turn_of t)) c.in-Scan.is) at

pub returns-in-Import-clause-call : goal.returns-in-Import-clause-call
returns-in-Import-clause-call g c s p stands turn at = c.import.ensures.call s p c.args.lacking stands (turn ∙ ap (λ t. Some (turn_of t)) c.in-Import.is) at

pub returns-in-Adopt-clause-call : goal.returns-in-Adopt-clause-call
returns-in-Adopt-clause-call g c s p stands turn at = c.adopt.ensures.call s p c.args.lacking stands (turn ∙ ap (λ t. Some (turn_of t)) c.in-Adopt.is) at

pub returns-in-Some-clause-call : goal.returns-in-Some-clause-call
returns-in-Some-clause-call g c s p stands turn at =
    let old = c.args.library.now in
    let new = c.load.new.library in
    let laws : Leaving = record { follows = c.other_steps_leave_the_import.ensures.follows; under_way = c.other_steps_leave_the_import.ensures.under_way } in
    let lacks = subst (λ (o : Option (List ℕ)). IsAtTurn s c.args.number p c.args.importer.now o) c.in-Some.is at in
    beside_calls laws g.N.Naming.name_of s c.args.number p old.ledger.events new.ledger.events (g.D.Dir.state old.dir) old.ledger.kept new.ledger.kept old.shelf new.shelf old.known new.known (g.D.Dir.state new.dir) c.args.importer.now (Some c.in-Some.name) stands lacks
    c.load.result (c.load.ensures.call s p _ c.args.importer.now stands (turn ∙ ap (λ t. Some (turn_of t)) c.in-Ask.is) lacks)
