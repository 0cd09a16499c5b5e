use Rattle.std.proofs.Common.{length}
use Rattle.ix_machine.specs.Run.{begun}
use Rattle.ix_replays.specs.Run.{fresh, lanes_of}
use Rattle.ix_allowed.proofs.Led.{run_comes, script_agrees, script_led, script_may, whole_run}
use Rattle.ix_allowed.proofs.Moments.{moment}
use Rattle.ix_allowed.proofs.laws.runs_are_the_machines.Goals as goal

pub returns-clause-comes : goal.returns-clause-comes
returns-clause-comes c name_of script opening order flags run e = run_comes name_of (lanes_of name_of script) order flags (fresh name_of script opening) run e

pub returns-clause-whole : goal.returns-clause-whole
returns-clause-whole c name_of script opening order flags run comes none = whole_run name_of (lanes_of name_of script) order flags (fresh name_of script opening) run comes none

pub returns-clause-agrees : goal.returns-clause-agrees
returns-clause-agrees c name_of poller script opening order flags run ready comes =
    let l = c.lanes_agree_with_the_state.ensures in
    script_agrees c.accepted_scripts_are_ready.ensures l.begun l.kept c.each_call_may_be_made.ensures.of_a_run name_of script opening order flags run comes poller ready

pub returns-clause-may : goal.returns-clause-may
returns-clause-may c name_of script opening order flags run lane given naming accepted comes e =
    let l = c.lanes_agree_with_the_state.ensures in
    script_may c.accepted_scripts_are_ready.ensures l.begun l.kept c.each_call_may_be_made.ensures.of_a_run name_of script opening order flags run comes naming accepted lane given e

pub returns-clause-led : goal.returns-clause-led
returns-clause-led c name_of script opening order flags run naming accepted comes =
    let l = c.lanes_agree_with_the_state.ensures in
    let led = script_led c.accepted_scripts_are_ready.ensures l.begun l.kept c.each_call_may_be_made.ensures.of_a_run name_of script opening order flags run comes naming accepted in
    (led.turns, led.leads, led.lanes, led.flags_are)

pub returns-clause-sound : goal.returns-clause-sound
returns-clause-sound c name_of script opening order flags run naming accepted is comes =
    let l = c.lanes_agree_with_the_state.ensures in
    let led = script_led c.accepted_scripts_are_ready.ensures l.begun l.kept c.each_call_may_be_made.ensures.of_a_run name_of script opening order flags run comes naming accepted in
    c.every_state_is_sound.ensures.goes_on name_of led.turns (begun opening (length script.lanes)) run.state (c.every_state_is_sound.ensures.begins name_of opening (length script.lanes) is) led.leads

pub returns-clause-none_missing : goal.returns-clause-none_missing
returns-clause-none_missing c name_of script opening order flags run name naming accepted is comes needed =
    let l = c.lanes_agree_with_the_state.ensures in
    let led = script_led c.accepted_scripts_are_ready.ensures l.begun l.kept c.each_call_may_be_made.ensures.of_a_run name_of script opening order flags run comes naming accepted in
    c.needed_records_stand.ensures.none_missing name_of opening (length script.lanes) led.turns run.state name is led.leads needed

pub returns-clause-moments : goal.returns-clause-moments
returns-clause-moments c name_of script opening order flags run before after event comes e =
    moment name_of (lanes_of name_of script) order flags (fresh name_of script opening) run comes before after event e
