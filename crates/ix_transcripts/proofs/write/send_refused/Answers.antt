use Rattle.std.proofs.Common.{◌+◌, ◌∙◌, ◌++◌, ap, sym, take, drop, get_or, subst}
use Rattle.std.specs.List.{flat_map}
use Rattle.ix_replays.specs.Text.{refused_line}
use Rattle.ix_transcripts.proofs.Sending.{at_err}
use Rattle.ix_transcripts.proofs.Texts.{text_step, text_rest, sends_more, stops_more}
use Rattle.ix_transcripts.proofs.write.send_refused.Goals as goal

pub returns-in_err-send-clause-stopped : goal.returns-in_err-send-clause-stopped
returns-in_err-send-clause-stopped g c =
    let i = c.loop-one.one-index in
    at_err c.from_residual.result
    (stops_more (g.K.Sink.contents c.args.sink.now) (g.K.Sink.contents c.loop-one.sink) (g.K.Sink.contents c.send.new.sink) c.args.waiting.now.items c.loop-one.waiting.items
    (flat_map refused_line (take i c.args.refused.now)) (refused_line c.one-item.result) (flat_map refused_line (take (i + 1) c.args.refused.now)) (flat_map refused_line (drop (i + 1) c.args.refused.now)) (flat_map refused_line c.args.refused.now)
    (text_step refused_line c.args.refused.now i c.one-item.result c.loop-one-test.true ∙ ap (λ x. flat_map refused_line (take i c.args.refused.now) ++ refused_line x) (sym c.one-item.is))
    (text_rest refused_line c.args.refused.now (i + 1)) c.loop-one.invariant.0 c.in_err-send.ensures.stopped)

pub loop-one-preserved : goal.loop-one-preserved
loop-one-preserved g c =
    let i = c.loop-one.one-index in (
      sends_more (g.K.Sink.contents c.args.sink.now) (g.K.Sink.contents c.loop-one.sink) (g.K.Sink.contents c.send.new.sink) c.args.waiting.now.items c.loop-one.waiting.items c.send.new.waiting.items
          (flat_map refused_line (take i c.args.refused.now)) (refused_line c.one-item.result) (flat_map refused_line (take (i + 1) c.args.refused.now))
          (text_step refused_line c.args.refused.now i c.one-item.result c.loop-one-test.true ∙ ap (λ x. flat_map refused_line (take i c.args.refused.now) ++ refused_line x) (sym c.one-item.is))
          c.loop-one.invariant.0 c.in_ok-send.ensures.sent,
      c.in_ok-send.ensures.cause ∙ c.loop-one.invariant.1,
    )
