use Rattle.ix_plain.proofs.Endings.{ends_quietly, leaves_in, never_damaged, rose_to}
use Rattle.ix_plain.proofs.replaying.replay_script.Goals as goal

pub returns-in-Ok-clause-left : goal.returns-in-Ok-clause-left
returns-in-Ok-clause-left g c =
    leaves_in c.args.script.now (g.D.Dir.state c.args.dir).moves _ c.in-Ok.transcript c.replay-dir.result.result _ (g.D.Dir.state c.replay-dir.result.dir).moves
    c.answered.ensures.transcript (λ i. (g.D.Dir.state (c.answered.ensures.dir i)).moves) c.in-Ok.is c.replay-dir.ensures.left

pub returns-in-Ok-clause-sound : goal.returns-in-Ok-clause-sound
returns-in-Ok-clause-sound g c =
    never_damaged (g.D.Dir.state c.args.dir).moves c.in-Ok.transcript c.replay-dir.result.result c.answered.result.ending c.in-Ok.is c.answered.ensures.told c.replay-dir.ensures.whole

pub returns-in-Ok-clause-untold : goal.returns-in-Ok-clause-untold
returns-in-Ok-clause-untold g c stayed kept =
    let now = (g.D.Dir.state c.answered.result.dir).faults in
    let mid = (g.D.Dir.state c.replay-dir.result.dir).faults in
    ends_quietly c.answered.result.ending c.in-Ok.transcript.events (g.D.Dir.state c.args.dir).faults now _ _ c.answered.ensures.ran c.answered.ensures.write_fault c.answered.ensures.told
    (rose_to c.in-Ok.transcript c.replay-dir.result.result (g.D.Dir.state c.args.dir).faults now mid c.in-Ok.is (λ i. (g.D.Dir.state (c.answered.ensures.dir i)).faults) c.replay-dir.ensures.failures)
    stayed kept
