use Rattle.std.proofs.Common.{◌≡◌, ◌∙◌, List, length, map, ap, sym, subst}
use Rattle.std.specs.List.{AllByRecursion}
use Rattle.ix_lanes.specs.Progress.{settled}
use Rattle.ix_machine.specs.Needs.{seen_at}
use Rattle.ix_replays.specs.Run.{fresh, lanes_of}
use Rattle.ix_seats.specs.Seated.{Seated}
use Rattle.ix_seats.specs.Seats.{IsSeat}
use Rattle.ix_replay.proofs.Ending.{done, ended_wanting, failed, held_wanting, left_shown, shows_a_replay}
use Rattle.ix_replay.proofs.Leaving.{each_err, held_there, still_left}
use Rattle.ix_replay.proofs.replaying.run.Goals as goal

pub returns-in-Ok-clause-left : goal.returns-in-Ok-clause-left
returns-in-Ok-clause-left g c opening none is =
    let name_of = g.N.Naming.name_of in
    let script = c.args.script.now in
    let first = c.args.runner in
    let start = fresh name_of script opening in
    let runner = c.run_script-ran.new.stepper in
    let still = still_left c.syncs_change_nothing.ensures.leaves name_of start (g.D.Dir.state first.library.dir).moves (held_there name_of start.state first.library.shelf (g.D.Dir.state first.library.dir).moves is.stands.holds) in
    let ended = done c.run_script-ran.result _ (sym c.is_err.ensures.value ∙ c.if-is_err.false)
    (c.run_script-ran.ensures.replayed script opening c.as_slice.ensures (ap length c.as_slice-2.ensures) is still) in
    let seen = seen_at ended.0.state in
    let shown =
    shows_a_replay name_of script opening ended.0 runner.library.ledger runner.library.shelf runner.library.known (g.D.Dir.state runner.library.dir) runner.importer runner.seats.items
    c.args.refused c.into_parts-dir.result.1 c.in-Ok.answers ended.1 ended.4 ended.5 none (c.into_parts-dir.ensures.events ∙ (λ i. (c.end-library.ensures.library i).ledger.events))
    (subst (λ (seats : List Seated). AllByRecursion (IsSeat seen) seats → c.in-Ok.answers ≡ map (λ (seat : Seated). (settled seen seat.lane.progress).answers) seats)
    (λ i. (c.end-library.ensures.seats i).items) (c.in-Ok.ensures seen)) in
    let left =
    left_shown name_of start ended.0 shown.0.run runner.library.ledger runner.library.shelf runner.library.known (g.D.Dir.state runner.library.dir) (lanes_of name_of script) runner.importer runner.seats.items
    (g.D.Dir.state first.library.dir).moves (g.D.Dir.state c.into_parts-dir.result.0).moves shown.1
    ((λ i. (g.D.Dir.state (c.into_parts-dir.ensures.dir i)).moves) ∙ (λ i. (g.D.Dir.state (c.end-library.ensures.library i).dir).moves)) ended.1 ended.2 in
    (shown.0, left.0, left.1)

pub returns-in-Ok-clause-replayed : goal.returns-in-Ok-clause-replayed
returns-in-Ok-clause-replayed g c opening none is = (returns-in-Ok-clause-left g c opening none is).0

pub returns-in-Err-clause-wanting : goal.returns-in-Err-clause-wanting
returns-in-Err-clause-wanting g c opening is =
    let name_of = g.N.Naming.name_of in
    let script = c.args.script.now in
    let first = c.args.runner in
    let start = fresh name_of script opening in
    let runner = c.run_script-ran.new.stepper in
    let still = still_left c.syncs_change_nothing.ensures.leaves name_of start (g.D.Dir.state first.library.dir).moves (held_there name_of start.state first.library.shelf (g.D.Dir.state first.library.dir).moves is.stands.holds) in
    let ended = done c.run_script-ran.result _ (sym c.is_err.ensures.value ∙ c.if-is_err.false)
    (c.run_script-ran.ensures.replayed script opening c.as_slice.ensures (ap length c.as_slice-2.ensures) is still) in
    each_err c.failed-in-Err.result.result _ (λ e.
    ended_wanting name_of (lanes_of name_of script) start ended.0 script.order runner.library.ledger runner.library.shelf runner.library.known (g.D.Dir.state runner.library.dir) runner.importer runner.seats.items
    (g.D.Dir.state c.failed-in-Err.result.dir).moves
    ((λ i. (g.D.Dir.state (c.failed-in-Err.ensures.dir i)).moves) ∙ ((λ i. (g.D.Dir.state (c.into_parts-dir.ensures.dir i)).moves) ∙ (λ i. (g.D.Dir.state (c.end-library.ensures.library i).dir).moves))) ended.1 ended.3)

pub returns-then-is_err-clause-wanting : goal.returns-then-is_err-clause-wanting
returns-then-is_err-clause-wanting g c opening is =
    let name_of = g.N.Naming.name_of in
    let script = c.args.script.now in
    let first = c.args.runner in
    let start = fresh name_of script opening in
    let runner = c.run_script-ran.new.stepper in
    let still = still_left c.syncs_change_nothing.ensures.leaves name_of start (g.D.Dir.state first.library.dir).moves (held_there name_of start.state first.library.shelf (g.D.Dir.state first.library.dir).moves is.stands.holds) in
    let wanting = failed c.run_script-ran.result _ (sym c.is_err.ensures.value ∙ c.if-is_err.true)
    (c.run_script-ran.ensures.wanting script opening c.as_slice.ensures (ap length c.as_slice-2.ensures) is still) in
    each_err c.failed.result.result _ (λ e.
    held_wanting name_of (lanes_of name_of script) start script.order runner.library.ledger runner.library.shelf runner.library.known (g.D.Dir.state runner.library.dir) runner.importer runner.seats.items
    (g.D.Dir.state c.failed.result.dir).moves
    ((λ i. (g.D.Dir.state (c.failed.ensures.dir i)).moves) ∙ ((λ i. (g.D.Dir.state (c.into_parts-dir.ensures.dir i)).moves) ∙ (λ i. (g.D.Dir.state (c.end-library.ensures.library i).dir).moves))) wanting)
