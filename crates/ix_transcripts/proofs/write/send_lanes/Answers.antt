use Rattle.std.proofs.Common.{◌≡◌, ◌+◌, ◌∙◌, ◌++◌, ap, sym, take, drop, length, subst, ℕ, List, arith}
use Rattle.std.proofs.lemmas.List.{take_all}
use Rattle.std.specs.List.{flat_map, enumerate_from}
use Rattle.ix_lanes.specs.declared.answered.Answered.{Answered}
use Rattle.ix_replays.specs.Text.{lane_text}
use Rattle.ix_transcripts.specs.Sending.{Sends, Stops}
use Rattle.ix_transcripts.proofs.Sending.{at_err}
use Rattle.ix_transcripts.proofs.Texts.{counted_step, counted_rest, sends_more, stops_more}
use Rattle.ix_transcripts.proofs.write.send_lanes.Goals as goal

abbrev told : ℕ × List Answered → List ℕ
told lane = lane_text lane.0 lane.1

pub returns-in_err-send_lane-clause-stopped : goal.returns-in_err-send_lane-clause-stopped
returns-in_err-send_lane-clause-stopped g c =
    let i = c.loop-lane.lane in
    let xs = c.args.lanes.now in
    let next = subst (λ answers. Stops (g.K.Sink.contents c.loop-lane.sink) c.loop-lane.waiting.items (g.K.Sink.contents c.send_lane.new.sink) (lane_text i answers)) c.as_slice.ensures c.in_err-send_lane.ensures.stopped in
    at_err c.from_residual.result
    (stops_more (g.K.Sink.contents c.args.sink.now) (g.K.Sink.contents c.loop-lane.sink) (g.K.Sink.contents c.send_lane.new.sink) c.args.waiting.now.items c.loop-lane.waiting.items
    (flat_map told (enumerate_from 0 (take i xs))) (told (i, c.index-lanes-lane.result)) (flat_map told (enumerate_from 0 (take (i + 1) xs))) (flat_map told (enumerate_from (0 + length (take (i + 1) xs)) (drop (i + 1) xs))) (flat_map told (enumerate_from 0 xs))
    (counted_step told xs i c.index-lanes-lane.result c.loop-lane-test.true ∙ ap (λ x. flat_map told (enumerate_from 0 (take i xs)) ++ told (i, x)) (sym c.index-lanes-lane.is))
    (counted_rest told xs (i + 1)) c.loop-lane.invariant.0 next)

pub loop-lane-preserved : goal.loop-lane-preserved
loop-lane-preserved g c =
    let i = c.loop-lane.lane in
    let xs = c.args.lanes.now in
    let next = subst (λ answers. Sends (g.K.Sink.contents c.loop-lane.sink) c.loop-lane.waiting.items (g.K.Sink.contents c.send_lane.new.sink) c.send_lane.new.waiting.items (lane_text i answers)) c.as_slice.ensures c.in_ok-send_lane.ensures.sent in (
      sends_more (g.K.Sink.contents c.args.sink.now) (g.K.Sink.contents c.loop-lane.sink) (g.K.Sink.contents c.send_lane.new.sink) c.args.waiting.now.items c.loop-lane.waiting.items c.send_lane.new.waiting.items
          (flat_map told (enumerate_from 0 (take i xs))) (told (i, c.index-lanes-lane.result)) (flat_map told (enumerate_from 0 (take (i + 1) xs)))
          (counted_step told xs i c.index-lanes-lane.result c.loop-lane-test.true ∙ ap (λ x. flat_map told (enumerate_from 0 (take i xs)) ++ told (i, x)) (sym c.index-lanes-lane.is))
          c.loop-lane.invariant.0 next,
      c.in_ok-send_lane.ensures.cause ∙ c.loop-lane.invariant.1,
    )

pub returns-clause-sent : goal.returns-clause-sent
returns-clause-sent g c =
    let all : take c.loop-lane.lane c.args.lanes.now ≡ c.args.lanes.now = take_all c.loop-lane.lane c.args.lanes.now (omega (arith, c.loop-lane-test.false)) in
    subst (λ xs. Sends (g.K.Sink.contents c.args.sink.now) c.args.waiting.now.items (g.K.Sink.contents c.loop-lane.sink) c.loop-lane.waiting.items (flat_map told (enumerate_from 0 xs))) all c.loop-lane.invariant.0
