use Rattle.ix_transcripts.specs.Lines.{line_text}
use Rattle.ix_transcripts.proofs.Sending.{stops_here}
use Rattle.ix_transcripts.proofs.write.send.Goals as goal

pub returns-then-is_err-clause-stopped : goal.returns-then-is_err-clause-stopped
returns-then-is_err-clause-stopped g c = stops_here (g.K.Sink.contents c.args.sink.now) c.args.waiting.now.items (line_text c.args.line)
