use Rattle.std.proofs.Common.{◌++◌, codes, subst, sym, OnErr, OnOk, List, ℕ}
use Rattle.std.specs.Fmt.{decimal}
use Rattle.ix_replays.specs.Text.{space, mark_words, answer_text}
use Rattle.ix_transcripts.specs.Lines.{ask_line, rows_text, result_words}
use Rattle.ix_transcripts.specs.Sending.{Sends, Stops}
use Rattle.ix_transcripts.proofs.Sending.{at_err, on_ok, on_err, sends_then, stops_then, stops_before}
use Rattle.ix_transcripts.proofs.Texts.{answer_is, sends_more, stops_more}
use Rattle.ix_lanes.specs.declared.answered.Answered.{Answered}
use Rattle.ix_transcripts.proofs.write.send_answer.Goals as goal

-- the words before how the ask ended
abbrev head : ℕ → ℕ → Answered → List ℕ
head lane ask answered = codes "ask " ++ decimal lane ++ space ++ decimal ask ++ space ++ mark_words answered.mark

pub returns-in_err-send-clause-stopped : goal.returns-in_err-send-clause-stopped
returns-in_err-send-clause-stopped g c =
    let ended = c.args.answered.now.result in
    at_err c.from_residual.result
    (subst (λ text. Stops (g.K.Sink.contents c.args.sink.now) c.args.waiting.now.items (g.K.Sink.contents c.send.new.sink) text)
    (sym (answer_is (head c.args.lane c.args.ask c.args.answered.now) ended))
    (stops_before (g.K.Sink.contents c.args.sink.now) (g.K.Sink.contents c.send.new.sink) c.args.waiting.now.items (ask_line c.args.lane c.args.ask c.args.answered.now) (rows_text ended) c.in_err-send.ensures.stopped))

pub returns-clause-sent : goal.returns-clause-sent
returns-clause-sent g c =
    let ended = c.args.answered.now.result in
    on_ok c.send_result.result
    (λ sent. sends_more (g.K.Sink.contents c.args.sink.now) (g.K.Sink.contents c.send.new.sink) (g.K.Sink.contents c.send_result.new.sink) c.args.waiting.now.items c.send.new.waiting.items c.send_result.new.waiting.items
    (ask_line c.args.lane c.args.ask c.args.answered.now) (rows_text ended) (answer_text c.args.lane c.args.ask c.args.answered.now)
    (answer_is (head c.args.lane c.args.ask c.args.answered.now) ended) c.in_ok-send.ensures.sent sent)
    c.send_result.ensures.sent

pub returns-clause-stopped : goal.returns-clause-stopped
returns-clause-stopped g c =
    let ended = c.args.answered.now.result in
    on_err c.send_result.result
    (λ stopped. subst (λ text. Stops (g.K.Sink.contents c.args.sink.now) c.args.waiting.now.items (g.K.Sink.contents c.send_result.new.sink) text)
    (sym (answer_is (head c.args.lane c.args.ask c.args.answered.now) ended))
    (stops_then (g.K.Sink.contents c.args.sink.now) (g.K.Sink.contents c.send.new.sink) (g.K.Sink.contents c.send_result.new.sink) c.args.waiting.now.items c.send.new.waiting.items
    (ask_line c.args.lane c.args.ask c.args.answered.now) (rows_text ended) c.in_ok-send.ensures.sent stopped))
    c.send_result.ensures.stopped
