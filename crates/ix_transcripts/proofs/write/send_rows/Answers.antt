use Rattle.std.proofs.Common.{◌+◌, ◌∙◌, ◌++◌, ap, sym, take, drop, get_or, subst}
use Rattle.std.specs.List.{flat_map}
use Rattle.ix_replays.specs.Text.{row_line}
use Rattle.ix_transcripts.proofs.Sending.{at_err}
use Rattle.ix_transcripts.proofs.Texts.{text_step, text_rest, sends_more, stops_more}
use Rattle.ix_transcripts.proofs.write.send_rows.Goals as goal

pub returns-in_err-send-clause-stopped : goal.returns-in_err-send-clause-stopped
returns-in_err-send-clause-stopped g c =
    let i = c.loop-row.row-index in
    at_err c.from_residual.result
    (stops_more (g.K.Sink.contents c.args.sink.now) (g.K.Sink.contents c.loop-row.sink) (g.K.Sink.contents c.send.new.sink) c.args.waiting.now.items c.loop-row.waiting.items
    (flat_map row_line (take i c.args.rows.now)) (row_line c.row-item.result) (flat_map row_line (take (i + 1) c.args.rows.now)) (flat_map row_line (drop (i + 1) c.args.rows.now)) (flat_map row_line c.args.rows.now)
    (text_step row_line c.args.rows.now i c.row-item.result c.loop-row-test.true ∙ ap (λ x. flat_map row_line (take i c.args.rows.now) ++ row_line x) (sym c.row-item.is))
    (text_rest row_line c.args.rows.now (i + 1)) c.loop-row.invariant.0 c.in_err-send.ensures.stopped)

pub loop-row-preserved : goal.loop-row-preserved
loop-row-preserved g c =
    let i = c.loop-row.row-index in (
      sends_more (g.K.Sink.contents c.args.sink.now) (g.K.Sink.contents c.loop-row.sink) (g.K.Sink.contents c.send.new.sink) c.args.waiting.now.items c.loop-row.waiting.items c.send.new.waiting.items
          (flat_map row_line (take i c.args.rows.now)) (row_line c.row-item.result) (flat_map row_line (take (i + 1) c.args.rows.now))
          (text_step row_line c.args.rows.now i c.row-item.result c.loop-row-test.true ∙ ap (λ x. flat_map row_line (take i c.args.rows.now) ++ row_line x) (sym c.row-item.is))
          c.loop-row.invariant.0 c.in_ok-send.ensures.sent,
      c.in_ok-send.ensures.cause ∙ c.loop-row.invariant.1,
    )
