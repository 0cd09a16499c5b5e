use Rattle.std.proofs.Common.{inr}
use Rattle.ix_plain.proofs.Spelled.{leaves_for, no_run, replay_for, stops_for}
use Rattle.ix_plain.proofs.replaying.replay_bytes.Goals as goal

pub returns-in-Ok-clause-replayed : goal.returns-in-Ok-clause-replayed
returns-in-Ok-clause-replayed g c =
    replay_for c.args.bytes.now c.in-Ok.script (g.D.Dir.state c.args.dir).moves c.replay_script.result.transcript c.in-Ok.ensures.accepted c.replay_script.ensures.replayed

pub returns-in-Ok-clause-left : goal.returns-in-Ok-clause-left
returns-in-Ok-clause-left g c =
    leaves_for c.args.bytes.now c.in-Ok.script (g.D.Dir.state c.args.dir).moves c.replay_script.result.transcript (g.D.Dir.state c.replay_script.result.dir).moves c.in-Ok.ensures.accepted
    c.replay_script.ensures.left

pub returns-in-Ok-clause-opening : goal.returns-in-Ok-clause-opening
returns-in-Ok-clause-opening g c failed =
    stops_for c.args.bytes.now c.in-Ok.script (g.D.Dir.state c.args.dir).moves (g.D.Dir.state c.replay_script.result.dir).moves c.in-Ok.ensures.accepted
    (c.replay_script.ensures.stopped (no_run c.replay_script.result.ending c.replay_script.result.transcript c.replay_script.ensures.ran failed))

pub returns-in-Ok-clause-wanting : goal.returns-in-Ok-clause-wanting
returns-in-Ok-clause-wanting g c wanted none =
    inr (stops_for c.args.bytes.now c.in-Ok.script (g.D.Dir.state c.args.dir).moves (g.D.Dir.state c.replay_script.result.dir).moves c.in-Ok.ensures.accepted (c.replay_script.ensures.stopped none))
