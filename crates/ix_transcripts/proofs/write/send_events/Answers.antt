use Rattle.std.proofs.Common.{◌+◌, ◌∙◌, ◌++◌, ap, sym, take, drop, get_or, subst}
use Rattle.std.specs.List.{flat_map}
use Rattle.ix_replays.specs.Text.{event_line}
use Rattle.ix_transcripts.proofs.Sending.{at_err}
use Rattle.ix_transcripts.proofs.Texts.{text_step, text_rest, sends_more, stops_more}
use Rattle.ix_transcripts.proofs.write.send_events.Goals as goal

pub returns-in_err-send-clause-stopped : goal.returns-in_err-send-clause-stopped
returns-in_err-send-clause-stopped g c =
    let i = c.loop-event.event-index in
    at_err c.from_residual.result
    (stops_more (g.K.Sink.contents c.args.sink.now) (g.K.Sink.contents c.loop-event.sink) (g.K.Sink.contents c.send.new.sink) c.args.waiting.now.items c.loop-event.waiting.items
    (flat_map event_line (take i c.args.events.now)) (event_line c.event-item.result) (flat_map event_line (take (i + 1) c.args.events.now)) (flat_map event_line (drop (i + 1) c.args.events.now)) (flat_map event_line c.args.events.now)
    (text_step event_line c.args.events.now i c.event-item.result c.loop-event-test.true ∙ ap (λ x. flat_map event_line (take i c.args.events.now) ++ event_line x) (sym c.event-item.is))
    (text_rest event_line c.args.events.now (i + 1)) c.loop-event.invariant.0 c.in_err-send.ensures.stopped)

pub loop-event-preserved : goal.loop-event-preserved
loop-event-preserved g c =
    let i = c.loop-event.event-index in (
      sends_more (g.K.Sink.contents c.args.sink.now) (g.K.Sink.contents c.loop-event.sink) (g.K.Sink.contents c.send.new.sink) c.args.waiting.now.items c.loop-event.waiting.items c.send.new.waiting.items
          (flat_map event_line (take i c.args.events.now)) (event_line c.event-item.result) (flat_map event_line (take (i + 1) c.args.events.now))
          (text_step event_line c.args.events.now i c.event-item.result c.loop-event-test.true ∙ ap (λ x. flat_map event_line (take i c.args.events.now) ++ event_line x) (sym c.event-item.is))
          c.loop-event.invariant.0 c.in_ok-send.ensures.sent,
      c.in_ok-send.ensures.cause ∙ c.loop-event.invariant.1,
    )
