use Rattle.std.proofs.Common.{[], subst, List, ℕ}
use Rattle.ix_replays.specs.Text.{transcript_text}
use Rattle.ix_transcripts.specs.Sending.{Sends}
use Rattle.ix_transcripts.proofs.Sending.{on_err}
use Rattle.ix_transcripts.proofs.Texts.{front_then}
use Rattle.ix_transcripts.proofs.write.write_transcript.Goals as goal

pub returns-clause-front : goal.returns-clause-front
returns-clause-front g c =
    let k0 = g.K.Sink.contents c.args.sink.now in
    let k1 = g.K.Sink.contents c.send_all.new.sink in
    let waits = c.send_all.new.waiting.items in
    let text = transcript_text c.args.transcript.now in
    let sends = subst (λ before. Sends k0 before k1 waits text) c.new-waiting.ensures.items c.in_ok-send_all.ensures.sent in
    on_err c.flush.result (front_then k0 k1 (g.K.Sink.contents c.flush.new.sink) waits text sends) c.flush.ensures.stopped
