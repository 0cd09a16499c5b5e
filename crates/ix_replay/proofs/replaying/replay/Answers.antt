use Rattle.std.proofs.Common.{◌≡◌, ◌∙◌, inl, ℕ, List, [], Some, length, ap, sym, subst}
use Rattle.std.specs.List.{AllByRecursion}
use Rattle.ix_dir.specs.declared.moves.Move.{Move}
use Rattle.ix_dir.specs.Crash.{standing}
use Rattle.ix_dir.specs.State.{DirState}
use Rattle.ix_counts.specs.Counting.{counts_of}
use Rattle.ix_opening.specs.Fault.{HasNotFallen}
use Rattle.ix_lanes.specs.Rules.{IsReady}
use Rattle.ix_library.specs.StandsFor.{StandsFor}
use Rattle.ix_machine.specs.Run as machine
use Rattle.ix_opening.specs.Found.{opening_of}
use Rattle.ix_plan.specs.Keeps.{IsLane}
use Rattle.ix_replays.specs.Run.{fresh, lanes_of}
use Rattle.ix_replay.proofs.Beginning.{lanes_counted}
use Rattle.ix_replay.proofs.Counted.{faults_since, finds_since, listings_since}
use Rattle.ix_replay.proofs.Lists.{all_lift}
use Rattle.ix_replay.specs.Left.{IsLeft}
use Rattle.ix_replay.specs.Runs.{IsRun}
use Rattle.ix_replay.specs.declared.replaying.ReplayError.TheVariants.{OpenFault, Memory}
use Rattle.ix_replay.proofs.Leaving.{ok_goes}
use Rattle.ix_replay.proofs.Opened.{all_sound, both_told, can_step, if_told, three_told}
use Rattle.ix_replay.proofs.Stopping.{HasOpened, err_there, no_fault, none_missed, not_begun, opened_there, replay_left, stops_in_run, told_then}
use Rattle.ix_replay.proofs.replaying.replay.Goals as goal

pub run-requires-clause-can : goal.run-requires-clause-can
run-requires-clause-can g c =
    let name_of = g.N.Naming.name_of in
    let script = c.args.script.now in
    let library = c.in-Ok-open_store.started.library in
    let runner = c.in-Ok-new.runner in
    let tasks = c.accepted_scripts_are_ready.ensures name_of script c.requires.naming c.requires.script in
    let ready = all_lift IsLane (AllByRecursion IsReady) (λ steps few. c.steps_are_ready.ensures steps few.1) script.lanes c.requires.script.lanes.1 in
    let count : c.len.result ≡ length script.lanes = c.len.ensures ∙ (c.in-Ok.lanes.ok.0 ∙ lanes_counted name_of script c.in-Ok.lanes.items c.in-Ok.ensures) in
    can_step name_of (g.D.Dir.state c.args.dir).moves runner.library.ledger runner.library.shelf runner.library.known (g.D.Dir.state runner.library.dir) (g.D.Dir.state library.dir) runner.importer runner.seats.items
    library.ledger.kept (λ i. (c.in-Ok-new.ensures.library i).ledger.kept) (λ i. g.D.Dir.state (c.in-Ok-new.ensures.library i).dir) c.in-Ok-open_store.ensures.ready c.in-Ok-open_store.ensures.added
    (all_sound name_of (λ steps so. c.tasks_stay_sound.ensures.begun name_of steps c.requires.naming so) script c.in-Ok.lanes.items runner.seats.items ready c.in-Ok.ensures c.in-Ok-new.ensures.seats)
    (if_told (g.D.Dir.state c.args.dir).moves _ _ (λ moves stands.
    let opening = opening_of name_of (standing moves) in (
      lanes_of name_of script,
      fresh name_of script opening,
      c.in-Ok-new.ensures.stands script opening tasks.0 tasks.1 c.in-Ok.ensures
          (subst (λ (n : ℕ). StandsFor name_of (machine.begun opening n) library.ledger.kept library.shelf library.known (g.D.Dir.state library.dir)) count stands) c.in-Ok-open_store.ensures.events,
    ))
    c.in-Ok-open_store.ensures.stands)

pub returns-in-Ok-new-clause-replayed : goal.returns-in-Ok-new-clause-replayed
returns-in-Ok-new-clause-replayed g c =
    let name_of = g.N.Naming.name_of in
    let script = c.args.script.now in
    let before = (g.D.Dir.state c.args.dir).moves in
    let library = c.in-Ok-open_store.started.library in
    let mid = (g.D.Dir.state library.dir).moves in
    let runner = c.in-Ok-new.runner in
    let tasks = c.accepted_scripts_are_ready.ensures name_of script c.requires.naming c.requires.script in
    let count : c.len.result ≡ length script.lanes = c.len.ensures ∙ (c.in-Ok.lanes.ok.0 ∙ lanes_counted name_of script c.in-Ok.lanes.items c.in-Ok.ensures) in
    let begins : (moves : List Move) → StandsFor name_of (machine.begun (opening_of name_of (standing moves)) c.len.result) library.ledger.kept library.shelf library.known (g.D.Dir.state library.dir)
    → IsRun name_of (lanes_of name_of script) (fresh name_of script (opening_of name_of (standing moves))) runner.library.ledger runner.library.shelf runner.library.known (g.D.Dir.state runner.library.dir) runner.importer runner.seats.items
    = λ moves stands. c.in-Ok-new.ensures.stands script (opening_of name_of (standing moves)) tasks.0 tasks.1 c.in-Ok.ensures
    (subst (λ (n : ℕ). StandsFor name_of (machine.begun (opening_of name_of (standing moves)) n) library.ledger.kept library.shelf library.known (g.D.Dir.state library.dir)) count stands) c.in-Ok-open_store.ensures.events in
    both_told before _ _ _ (λ moves stands refused. c.run.ensures.replayed (opening_of name_of (standing moves)) refused (begins moves stands)) c.in-Ok-open_store.ensures.stands c.in-Ok-open_store.ensures.refused

pub returns-in-Ok-new-clause-left : goal.returns-in-Ok-new-clause-left
returns-in-Ok-new-clause-left g c =
    let name_of = g.N.Naming.name_of in
    let script = c.args.script.now in
    let before = (g.D.Dir.state c.args.dir).moves in
    let library = c.in-Ok-open_store.started.library in
    let mid = (g.D.Dir.state library.dir).moves in
    let runner = c.in-Ok-new.runner in
    let tasks = c.accepted_scripts_are_ready.ensures name_of script c.requires.naming c.requires.script in
    let count : c.len.result ≡ length script.lanes = c.len.ensures ∙ (c.in-Ok.lanes.ok.0 ∙ lanes_counted name_of script c.in-Ok.lanes.items c.in-Ok.ensures) in
    let begins : (moves : List Move) → StandsFor name_of (machine.begun (opening_of name_of (standing moves)) c.len.result) library.ledger.kept library.shelf library.known (g.D.Dir.state library.dir)
    → IsRun name_of (lanes_of name_of script) (fresh name_of script (opening_of name_of (standing moves))) runner.library.ledger runner.library.shelf runner.library.known (g.D.Dir.state runner.library.dir) runner.importer runner.seats.items
    = λ moves stands. c.in-Ok-new.ensures.stands script (opening_of name_of (standing moves)) tasks.0 tasks.1 c.in-Ok.ensures
    (subst (λ (n : ℕ). StandsFor name_of (machine.begun (opening_of name_of (standing moves)) n) library.ledger.kept library.shelf library.known (g.D.Dir.state library.dir)) count stands) c.in-Ok-open_store.ensures.events in
    let there = opened_there name_of c.len.result before mid c.in-Ok-open_store.ensures.added c.in-Ok-open_store.ensures.moves c.in-Ok-open_store.ensures.counts c.in-Ok-open_store.ensures.images c.in-Ok-open_store.ensures.early in
    three_told before _ _ _ _ (λ (moves : List Move) stands refused (opens : (n : List Move) × (mid ≡ Some n) × HasOpened name_of c.len.result moves n).
    ok_goes c.run.result.result _ _ (λ transcript r.
    let left : (now : List Move) × ((g.D.Dir.state c.run.result.dir).moves ≡ Some now) × IsLeft name_of moves r.0.run now = replay_left name_of script c.len.result moves opens.0 r.0.run (g.D.Dir.state runner.library.dir).moves (g.D.Dir.state c.run.result.dir).moves
    ((λ i. (g.D.Dir.state (c.in-Ok-new.ensures.library i).dir).moves) ∙ opens.1) opens.2 r.1 r.2 in
    (r.0, left.0, left.1, left.2))
    (c.run.ensures.left (opening_of name_of (standing moves)) refused (begins moves stands)))
    c.in-Ok-open_store.ensures.stands c.in-Ok-open_store.ensures.refused there

pub returns-in-Ok-new-clause-whole : goal.returns-in-Ok-new-clause-whole
returns-in-Ok-new-clause-whole g c =
    let name_of = g.N.Naming.name_of in
    let script = c.args.script.now in
    let before = (g.D.Dir.state c.args.dir).moves in
    let library = c.in-Ok-open_store.started.library in
    let mid = (g.D.Dir.state library.dir).moves in
    let runner = c.in-Ok-new.runner in
    let tasks = c.accepted_scripts_are_ready.ensures name_of script c.requires.naming c.requires.script in
    let count : c.len.result ≡ length script.lanes = c.len.ensures ∙ (c.in-Ok.lanes.ok.0 ∙ lanes_counted name_of script c.in-Ok.lanes.items c.in-Ok.ensures) in
    let begins : (moves : List Move) → StandsFor name_of (machine.begun (opening_of name_of (standing moves)) c.len.result) library.ledger.kept library.shelf library.known (g.D.Dir.state library.dir)
    → IsRun name_of (lanes_of name_of script) (fresh name_of script (opening_of name_of (standing moves))) runner.library.ledger runner.library.shelf runner.library.known (g.D.Dir.state runner.library.dir) runner.importer runner.seats.items
    = λ moves stands. c.in-Ok-new.ensures.stands script (opening_of name_of (standing moves)) tasks.0 tasks.1 c.in-Ok.ensures
    (subst (λ (n : ℕ). StandsFor name_of (machine.begun (opening_of name_of (standing moves)) n) library.ledger.kept library.shelf library.known (g.D.Dir.state library.dir)) count stands) c.in-Ok-open_store.ensures.events in
    both_told before _ _ _ (λ moves stands refused.
    ok_goes c.run.result.result _ _ (λ transcript r.
    none_missed name_of script (opening_of name_of (standing moves)) r.0.run (g.D.Dir.state runner.library.dir).moves (g.D.Dir.state c.run.result.dir).moves transcript.events r.2 (λ i. (r.0.shows i).events))
    (c.run.ensures.left (opening_of name_of (standing moves)) refused (begins moves stands)))
    c.in-Ok-open_store.ensures.stands c.in-Ok-open_store.ensures.refused

pub returns-in-Ok-new-clause-opening : goal.returns-in-Ok-new-clause-opening
returns-in-Ok-new-clause-opening g c =
    told_then (g.D.Dir.state c.args.dir).moves _ (λ moves is. absurd (no_fault (err_there c.run.result.result OpenFault _ is c.run.ensures.memory)))

pub returns-in-Ok-new-clause-wanting : goal.returns-in-Ok-new-clause-wanting
returns-in-Ok-new-clause-wanting g c =
    let name_of = g.N.Naming.name_of in
    let script = c.args.script.now in
    let before = (g.D.Dir.state c.args.dir).moves in
    let library = c.in-Ok-open_store.started.library in
    let mid = (g.D.Dir.state library.dir).moves in
    let runner = c.in-Ok-new.runner in
    let tasks = c.accepted_scripts_are_ready.ensures name_of script c.requires.naming c.requires.script in
    let count : c.len.result ≡ length script.lanes = c.len.ensures ∙ (c.in-Ok.lanes.ok.0 ∙ lanes_counted name_of script c.in-Ok.lanes.items c.in-Ok.ensures) in
    let begins : (moves : List Move) → StandsFor name_of (machine.begun (opening_of name_of (standing moves)) c.len.result) library.ledger.kept library.shelf library.known (g.D.Dir.state library.dir)
    → IsRun name_of (lanes_of name_of script) (fresh name_of script (opening_of name_of (standing moves))) runner.library.ledger runner.library.shelf runner.library.known (g.D.Dir.state runner.library.dir) runner.importer runner.seats.items
    = λ moves stands. c.in-Ok-new.ensures.stands script (opening_of name_of (standing moves)) tasks.0 tasks.1 c.in-Ok.ensures
    (subst (λ (n : ℕ). StandsFor name_of (machine.begun (opening_of name_of (standing moves)) n) library.ledger.kept library.shelf library.known (g.D.Dir.state library.dir)) count stands) c.in-Ok-open_store.ensures.events in
    if_told before _ _ (λ moves stands is.
    stops_in_run name_of script moves (g.D.Dir.state c.run.result.dir).moves c.a_crash_leaves_a_prefix.ensures
    (err_there c.run.result.result Memory _ is (c.run.ensures.wanting (opening_of name_of (standing moves)) (begins moves stands))))
    c.in-Ok-open_store.ensures.stands

pub returns-in-Err-clause-wanting : goal.returns-in-Err-clause-wanting
returns-in-Err-clause-wanting g c =
    if_told (g.D.Dir.state c.args.dir).moves _ _ (λ moves stops is. (stops.0, (λ i. (g.D.Dir.state (c.failed.ensures.dir i)).moves) ∙ stops.1, inl stops.2)) (not_begun g.N.Naming.name_of (g.D.Dir.state c.args.dir).moves)

pub returns-in-Ok-new-clause-failures : goal.returns-in-Ok-new-clause-failures
returns-in-Ok-new-clause-failures g c =
    let library = c.in-Ok-open_store.started.library in
    let runner = c.in-Ok-new.runner in
    let before = (g.D.Dir.state c.args.dir).faults in
    let none : runner.library.ledger.events ≡ [] = (λ i. (c.in-Ok-new.ensures.library i).ledger.events) ∙ c.in-Ok-open_store.ensures.events in
    let same : (g.D.Dir.state runner.library.dir).faults ≡ (g.D.Dir.state library.dir).faults = λ i. (g.D.Dir.state (c.in-Ok-new.ensures.library i).dir).faults in
    ok_goes c.run.result.result _ _ (λ transcript counted.
    faults_since runner.library.ledger.events transcript.events (counts_of (g.D.Dir.state runner.library.dir)) (counts_of (g.D.Dir.state c.run.result.dir)) before none counted
    (same ∙ ap (λ (d : DirState). d.faults) c.in-Ok-open_store.ensures.state)) c.run.ensures.counted

pub returns-in-Ok-new-clause-finds : goal.returns-in-Ok-new-clause-finds
returns-in-Ok-new-clause-finds g c =
    let library = c.in-Ok-open_store.started.library in
    let runner = c.in-Ok-new.runner in
    let before = (g.D.Dir.state c.args.dir).finds in
    let none : runner.library.ledger.events ≡ [] = (λ i. (c.in-Ok-new.ensures.library i).ledger.events) ∙ c.in-Ok-open_store.ensures.events in
    let same : (g.D.Dir.state runner.library.dir).finds ≡ (g.D.Dir.state library.dir).finds = λ i. (g.D.Dir.state (c.in-Ok-new.ensures.library i).dir).finds in
    ok_goes c.run.result.result _ _ (λ transcript counted.
    finds_since runner.library.ledger.events transcript.events (counts_of (g.D.Dir.state runner.library.dir)) (counts_of (g.D.Dir.state c.run.result.dir)) before none counted
    (subst (λ (n : ℕ). HasNotFallen before n) (sym same) c.in-Ok-open_store.ensures.finds)) c.run.ensures.counted

pub returns-in-Ok-new-clause-listings : goal.returns-in-Ok-new-clause-listings
returns-in-Ok-new-clause-listings g c =
    let library = c.in-Ok-open_store.started.library in
    let runner = c.in-Ok-new.runner in
    let before = (g.D.Dir.state c.args.dir).listings in
    let none : runner.library.ledger.events ≡ [] = (λ i. (c.in-Ok-new.ensures.library i).ledger.events) ∙ c.in-Ok-open_store.ensures.events in
    let same : (g.D.Dir.state runner.library.dir).listings ≡ (g.D.Dir.state library.dir).listings = λ i. (g.D.Dir.state (c.in-Ok-new.ensures.library i).dir).listings in
    ok_goes c.run.result.result _ _ (λ transcript counted.
    listings_since runner.library.ledger.events transcript.events (counts_of (g.D.Dir.state runner.library.dir)) (counts_of (g.D.Dir.state c.run.result.dir)) before none counted
    (same ∙ ap (λ (d : DirState). d.listings) c.in-Ok-open_store.ensures.state)) c.run.ensures.counted
