use Rattle.std.proofs.Common.{◌≡◌, ◌+◌, ◌∙◌, ◌++◌, ap, sym, take, drop, length, subst, ℕ, List, arith}
use Rattle.std.proofs.lemmas.List.{take_all}
use Rattle.std.specs.List.{flat_map, enumerate_from}
use Rattle.ix_lanes.specs.declared.answered.Answered.{Answered}
use Rattle.ix_replays.specs.Text.{answer_text}
use Rattle.ix_transcripts.specs.Sending.{Sends}
use Rattle.ix_transcripts.proofs.Sending.{at_err}
use Rattle.ix_transcripts.proofs.Texts.{counted_step, counted_rest, sends_more, stops_more}
use Rattle.ix_transcripts.proofs.write.send_lane.Goals as goal

abbrev asked : ℕ → ℕ × Answered → List ℕ
asked lane ask = answer_text lane ask.0 ask.1

pub returns-in_err-send_answer-clause-stopped : goal.returns-in_err-send_answer-clause-stopped
returns-in_err-send_answer-clause-stopped g c =
    let i = c.loop-ask.ask in
    let f = asked c.args.lane in
    let xs = c.args.answers.now in
    at_err c.from_residual.result
    (stops_more (g.K.Sink.contents c.args.sink.now) (g.K.Sink.contents c.loop-ask.sink) (g.K.Sink.contents c.send_answer.new.sink) c.args.waiting.now.items c.loop-ask.waiting.items
    (flat_map f (enumerate_from 0 (take i xs))) (f (i, c.index-answers-ask.result)) (flat_map f (enumerate_from 0 (take (i + 1) xs))) (flat_map f (enumerate_from (0 + length (take (i + 1) xs)) (drop (i + 1) xs))) (flat_map f (enumerate_from 0 xs))
    (counted_step f xs i c.index-answers-ask.result c.loop-ask-test.true ∙ ap (λ x. flat_map f (enumerate_from 0 (take i xs)) ++ f (i, x)) (sym c.index-answers-ask.is))
    (counted_rest f xs (i + 1)) c.loop-ask.invariant.0 c.in_err-send_answer.ensures.stopped)

pub loop-ask-preserved : goal.loop-ask-preserved
loop-ask-preserved g c =
    let i = c.loop-ask.ask in
    let f = asked c.args.lane in
    let xs = c.args.answers.now in (
      sends_more (g.K.Sink.contents c.args.sink.now) (g.K.Sink.contents c.loop-ask.sink) (g.K.Sink.contents c.send_answer.new.sink) c.args.waiting.now.items c.loop-ask.waiting.items c.send_answer.new.waiting.items
          (flat_map f (enumerate_from 0 (take i xs))) (f (i, c.index-answers-ask.result)) (flat_map f (enumerate_from 0 (take (i + 1) xs)))
          (counted_step f xs i c.index-answers-ask.result c.loop-ask-test.true ∙ ap (λ x. flat_map f (enumerate_from 0 (take i xs)) ++ f (i, x)) (sym c.index-answers-ask.is))
          c.loop-ask.invariant.0 c.in_ok-send_answer.ensures.sent,
      c.in_ok-send_answer.ensures.cause ∙ c.loop-ask.invariant.1,
    )

pub returns-clause-sent : goal.returns-clause-sent
returns-clause-sent g c =
    let all : take c.loop-ask.ask c.args.answers.now ≡ c.args.answers.now = take_all c.loop-ask.ask c.args.answers.now (omega (arith, c.loop-ask-test.false)) in
    subst (λ xs. Sends (g.K.Sink.contents c.args.sink.now) c.args.waiting.now.items (g.K.Sink.contents c.loop-ask.sink) c.loop-ask.waiting.items (flat_map (asked c.args.lane) (enumerate_from 0 xs))) all c.loop-ask.invariant.0
