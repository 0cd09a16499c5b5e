use Rattle.std.proofs.Common.{◌≡◌, true, false, Option, None, IfSome, length, set, refl, sym, subst}
use Rattle.std.proofs.lemmas.Option.{slice_get_read}
use Rattle.ix_lanes.specs.Progress.{Progress}
use Rattle.ix_replays.specs.Run.{Run}
use Rattle.ix_turn_order.specs.Order.{GoesOn}
use Rattle.ix_calls.specs.Sound.{AreSound}
use Rattle.ix_calls.specs.Calling.{outcome_of}
use Rattle.ix_seats.specs.declared.made.Made.{Made}
use Rattle.ix_turns.specs.Ended.{is_missed}
use Rattle.ix_replay.specs.Left.{LeavesBehind}
use Rattle.ix_replay.specs.Runs.{IsRun}
use Rattle.ix_replay.proofs.Can.{at_same, can_then, sound_before, turn_there}
use Rattle.ix_replay.proofs.Stepping.{IsTold, made_ready, stays_shown, steps_shown}
use Rattle.ix_replay.proofs.runner.Runner.step.Goals as goal

pub make-requires-clause-there : goal.make-requires-clause-there
make-requires-clause-there g c =
    let old = c.args.self.now in
    let seat = c.index_mut-seat.result.now in
    let there = slice_get_read old.seats.items (length old.seats.items) c.args.lane seat refl c.requires.lane c.index_mut-seat.ensures.value in
    let ready = made_ready seat c.settle.new.self c.reserve.new.self c.in_ok-lacking.lacking c.in_ok-lacking.ensures.settled c.in_ok-lacking.ensures.lacking c.in_ok-lacking.ensures.asking c.settle.ensures.seat c.in_ok-lacking.ensures.same c.reserve.ensures.progress c.reserve.ensures.seat in
    turn_there g.N.Naming.name_of old.library.ledger old.library.shelf old.library.known (g.D.Dir.state old.library.dir) old.importer old.seats.items c.requires.can c.args.lane c.given.ensures seat c.reserve.new.self c.in_ok-lacking.lacking there ready c.lane.result.now c.lane.ensures

pub returns-in-None-clause-step : goal.returns-in-None-clause-step
returns-in-None-clause-step g c lanes run r =
    let old = c.args.self.now in
    let seat = c.index_mut-seat.result.now in
    let there = slice_get_read old.seats.items (length old.seats.items) c.args.lane seat refl c.requires.lane c.index_mut-seat.ensures.value in
    let ready = made_ready seat c.settle.new.self c.reserve.new.self c.in_ok-lacking.lacking c.in_ok-lacking.ensures.settled c.in_ok-lacking.ensures.lacking c.in_ok-lacking.ensures.asking c.settle.ensures.seat c.in_ok-lacking.ensures.same c.reserve.ensures.progress c.reserve.ensures.seat in
    let same = c.in_ok-made.ensures.same c.in-None.is in
    at_same old.library c.make.new.library old.importer c.make.new.importer same.0 same.1
    (λ l i. (next : Run) × GoesOn g.N.Naming.name_of lanes run c.args.lane false next × IsRun g.N.Naming.name_of lanes next l.ledger l.shelf l.known (g.D.Dir.state l.dir) i (set old.seats.items c.args.lane c.reserve.new.self)
    × LeavesBehind g.N.Naming.name_of run next (g.D.Dir.state old.library.dir).moves (g.D.Dir.state l.dir).moves)
    (stays_shown c.given.ensures g.N.Naming.name_of lanes run old.library.ledger old.library.shelf old.library.known (g.D.Dir.state old.library.dir) old.importer old.seats.items r c.args.lane seat c.reserve.new.self c.in_ok-lacking.lacking there ready c.lane.result.now c.lane.ensures c.in_ok-made.made c.in-None.is c.in_ok-made.ensures.none)

pub returns-in-None-clause-can : goal.returns-in-None-clause-can
returns-in-None-clause-can g c =
    let old = c.args.self.now in
    let seat = c.index_mut-seat.result.now in
    let there = slice_get_read old.seats.items (length old.seats.items) c.args.lane seat refl c.requires.lane c.index_mut-seat.ensures.value in
    can_then g.N.Naming.name_of old.library.ledger old.library.shelf old.library.known (g.D.Dir.state old.library.dir) old.importer old.seats.items c.requires.can c.args.lane c.make.new.library.ledger c.make.new.library.shelf c.make.new.library.known (g.D.Dir.state c.make.new.library.dir) c.make.new.importer c.reserve.new.self false c.make.ensures.ready
    (sound_before g.N.Naming.name_of old.library.ledger old.library.shelf old.library.known (g.D.Dir.state old.library.dir) old.importer old.seats.items c.requires.can c.args.lane (c.tasks_stay_sound.ensures.left g.N.Naming.name_of) seat c.settle.new.self c.reserve.new.self there c.settle.ensures.left c.reserve.ensures.progress)
    c.make.ensures.told (λ lanes run r. let n = returns-in-None-clause-step g c lanes run r in (n.0, n.1, n.2))

pub returns-in-Some-clause-step : goal.returns-in-Some-clause-step
returns-in-Some-clause-step g c lanes run r =
    let old = c.args.self.now in
    let seat = c.index_mut-seat.result.now in
    let there = slice_get_read old.seats.items (length old.seats.items) c.args.lane seat refl c.requires.lane c.index_mut-seat.ensures.value in
    let ready = made_ready seat c.settle.new.self c.reserve.new.self c.in_ok-lacking.lacking c.in_ok-lacking.ensures.settled c.in_ok-lacking.ensures.lacking c.in_ok-lacking.ensures.asking c.settle.ensures.seat c.in_ok-lacking.ensures.same c.reserve.ensures.progress c.reserve.ensures.seat in
    let tells : IsTold c.reserve.new.self c.tell.new.self c.in-Some.made = record { progress = c.tell.ensures.progress; seat = c.tell.ensures.seat } in
    steps_shown c.given.ensures g.N.Naming.name_of lanes run old.library.ledger old.library.shelf old.library.known (g.D.Dir.state old.library.dir) old.importer old.seats.items r c.args.lane seat c.reserve.new.self c.in_ok-lacking.lacking there ready c.make.new.library.ledger c.make.new.library.shelf c.make.new.library.known (g.D.Dir.state c.make.new.library.dir) c.make.new.importer c.in-Some.made c.tell.new.self tells
    (subst (λ (o : Option Made). IfSome o (λ m. is_missed (outcome_of m) ≡ true → (g.D.Dir.state old.library.dir).moves ≡ None)) c.in-Some.is c.in_ok-made.ensures.missed) c.lane.result.now c.lane.ensures c.in_ok-made.made c.in-Some.is c.in_ok-made.ensures.call

pub returns-in-Some-clause-can : goal.returns-in-Some-clause-can
returns-in-Some-clause-can g c =
    let old = c.args.self.now in
    let seat = c.index_mut-seat.result.now in
    let there = slice_get_read old.seats.items (length old.seats.items) c.args.lane seat refl c.requires.lane c.index_mut-seat.ensures.value in
    let before = sound_before g.N.Naming.name_of old.library.ledger old.library.shelf old.library.known (g.D.Dir.state old.library.dir) old.importer old.seats.items c.requires.can c.args.lane (c.tasks_stay_sound.ensures.left g.N.Naming.name_of) seat c.settle.new.self c.reserve.new.self there c.settle.ensures.left c.reserve.ensures.progress in
    can_then g.N.Naming.name_of old.library.ledger old.library.shelf old.library.known (g.D.Dir.state old.library.dir) old.importer old.seats.items c.requires.can c.args.lane c.make.new.library.ledger c.make.new.library.shelf c.make.new.library.known (g.D.Dir.state c.make.new.library.dir) c.make.new.importer c.tell.new.self true c.make.ensures.ready
    (subst (λ (p : Progress). AreSound g.N.Naming.name_of p.tasks) (sym c.tell.ensures.progress) (c.tasks_stay_sound.ensures.told g.N.Naming.name_of c.reserve.new.self.lane.progress c.in-Some.made before))
    c.make.ensures.told (λ lanes run r. let n = returns-in-Some-clause-step g c lanes run r in (n.0, n.1, n.2))
