use Rattle.std.proofs.Common.{length, ap}
use Rattle.ix_machine.specs.PlainOpened.{opening_of}
use Rattle.ix_replays.specs.Run.{fresh}
use Rattle.ix_model_run.proofs.Ended.{has_ended, has_more, lanes_ready, not_turned, same_turns, turned_end}
use Rattle.ix_model_run.proofs.run.model_run.Goals as goal

pub returns-then-not-branch : goal.returns-then-not-branch
returns-then-not-branch g c =
    let name_of = g.N.Naming.name_of in
    let script = c.args.script.now in
    let opening = opening_of c.args.opened.now in
    let lanes = c.as_slice-lanes.result.now in
    let ran = same_turns name_of script opening c.args.order.now c.args.flags.now lanes c.run.new.self c.in_ok-run.field-0 c.as_slice.result.now c.as_slice-2.result.now c.as_slice.ensures c.as_slice-2.ensures
    (c.in_ok-run.ensures (fresh name_of script opening) (c.in_ok-rerun.ensures name_of script (ap length c.as_slice-lanes.ensures))) in
    not_turned name_of script opening c.args.order.now c.args.flags.now lanes c.run.new.self c.in_ok-run.field-0 c.as_slice-lanes.ensures c.if-not-branch.true ran

pub has_call-requires-clause-ready : goal.has_call-requires-clause-ready
has_call-requires-clause-ready g c = lanes_ready c.steps_are_ready.ensures c.args.script.now c.requires c.as_slice-lanes.result.now c.as_slice-lanes.ensures

pub returns-then-branch : goal.returns-then-branch
returns-then-branch g c =
    let name_of = g.N.Naming.name_of in
    let script = c.args.script.now in
    let opening = opening_of c.args.opened.now in
    let lanes = c.as_slice-lanes.result.now in
    let ran = same_turns name_of script opening c.args.order.now c.args.flags.now lanes c.run.new.self c.in_ok-run.field-0 c.as_slice.result.now c.as_slice-2.result.now c.as_slice.ensures c.as_slice-2.ensures
    (c.in_ok-run.ensures (fresh name_of script opening) (c.in_ok-rerun.ensures name_of script (ap length c.as_slice-lanes.ensures))) in
    let end = turned_end name_of script opening c.args.order.now c.args.flags.now lanes c.run.new.self c.in_ok-run.field-0 c.if-not-branch.false ran in
    has_more name_of script opening c.args.order.now c.args.flags.now lanes c.run.new.self end c.in_ok-has_call.field-0 c.as_slice-lanes.ensures c.if-branch.true (c.in_ok-has_call.ensures end.run end.at)

pub into_transcript-requires-clause-ready : goal.into_transcript-requires-clause-ready
into_transcript-requires-clause-ready g c = lanes_ready c.steps_are_ready.ensures c.args.script.now c.requires c.as_slice-lanes.result.now c.as_slice-lanes.ensures

pub returns : goal.returns
returns g c =
    let name_of = g.N.Naming.name_of in
    let script = c.args.script.now in
    let opening = opening_of c.args.opened.now in
    let lanes = c.as_slice-lanes.result.now in
    let ran = same_turns name_of script opening c.args.order.now c.args.flags.now lanes c.run.new.self c.in_ok-run.field-0 c.as_slice.result.now c.as_slice-2.result.now c.as_slice.ensures c.as_slice-2.ensures
    (c.in_ok-run.ensures (fresh name_of script opening) (c.in_ok-rerun.ensures name_of script (ap length c.as_slice-lanes.ensures))) in
    let end = turned_end name_of script opening c.args.order.now c.args.flags.now lanes c.run.new.self c.in_ok-run.field-0 c.if-not-branch.false ran in
    has_ended name_of script opening c.args.order.now c.args.flags.now lanes c.run.new.self end c.in_ok-has_call.field-0 c.in_ok-into_transcript.field-0 c.as_slice-lanes.ensures c.if-branch.false
    (c.in_ok-has_call.ensures end.run end.at) (c.in_ok-into_transcript.ensures end.run script end.at c.as_slice-lanes.ensures)
