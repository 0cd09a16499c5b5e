use Rattle.std.proofs.Common.{◌≡◌, sym, subst}
use Rattle.ix_io.specs.Transfer.{AppendsPart}
use Rattle.ix_transcripts.specs.Sending.{WritesFront}
use Rattle.ix_transcripts.proofs.Sending.{part_is_front}
use Rattle.ix_transcripts.proofs.write.flush.Goals as goal

pub returns-in-Err-Failed-clause-stopped : goal.returns-in-Err-Failed-clause-stopped
returns-in-Err-Failed-clause-stopped g c =
    part_is_front (g.K.Sink.contents c.args.sink.now) (g.K.Sink.contents c.write_all.new.sink) c.args.waiting.now.items
    (subst (λ bytes. AppendsPart (g.K.Sink.contents c.args.sink.now) (g.K.Sink.contents c.write_all.new.sink) bytes) c.deref.ensures.value c.in-Err-Failed.ensures.front)

pub returns-in-Err-Memory-clause-stopped : goal.returns-in-Err-Memory-clause-stopped
returns-in-Err-Memory-clause-stopped g c =
    part_is_front (g.K.Sink.contents c.args.sink.now) (g.K.Sink.contents c.write_all.new.sink) c.args.waiting.now.items
    (subst (λ bytes. AppendsPart (g.K.Sink.contents c.args.sink.now) (g.K.Sink.contents c.write_all.new.sink) bytes) c.deref.ensures.value c.in-Err-Memory.ensures.front)
