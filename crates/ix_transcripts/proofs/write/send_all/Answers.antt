use Rattle.std.proofs.Common.{◌++◌, length, subst, ℕ, List, Option}
use Rattle.std.specs.List.{flat_map, enumerate_from}
use Rattle.ix_lanes.specs.declared.answered.Answered.{Answered}
use Rattle.ix_machine.specs.declared.event.Event.{Event}
use Rattle.ix_machine.specs.declared.opened.Refused.{Refused}
use Rattle.ix_replays.specs.declared.transcript.Transcript.{Transcript}
use Rattle.ix_replays.specs.Text.{refused_line, event_line, lane_text, end_line, transcript_text}
use Rattle.ix_transcripts.specs.Sending.{Sends, Stops}
use Rattle.ix_transcripts.proofs.Sending.{at_err, on_ok, on_err, sends_then, stops_then, stops_before}
use Rattle.ix_transcripts.proofs.write.send_all.Goals as goal

-- the parts of a text
abbrev refused : List Refused → List ℕ
refused xs = flat_map refused_line xs

abbrev events : List Event → List ℕ
events xs = flat_map event_line xs

abbrev answers : List (List Answered) → List ℕ
answers xs = flat_map (λ lane. lane_text lane.0 lane.1) (enumerate_from 0 xs)

pub returns-in_err-send_refused-clause-stopped : goal.returns-in_err-send_refused-clause-stopped
returns-in_err-send_refused-clause-stopped g c =
    let t = c.args.transcript.now in
    let k0 = g.K.Sink.contents c.args.sink.now in
    let k1 = g.K.Sink.contents c.send_refused.new.sink in
    let w0 = c.args.waiting.now.items in
    let first = subst (λ xs. Stops k0 w0 k1 (refused xs)) c.as_slice.ensures c.in_err-send_refused.ensures.stopped in
    let second = stops_before k0 k1 w0 (refused t.refused) (events t.events) first in
    let third = stops_before k0 k1 w0 (refused t.refused ++ events t.events) (answers t.answers) second in
    at_err c.from_residual.result (stops_before k0 k1 w0 (refused t.refused ++ events t.events ++ answers t.answers) (end_line (length t.events)) third)

pub returns-in_err-send_events-clause-stopped : goal.returns-in_err-send_events-clause-stopped
returns-in_err-send_events-clause-stopped g c =
    let t = c.args.transcript.now in
    let k0 = g.K.Sink.contents c.args.sink.now in
    let k1 = g.K.Sink.contents c.send_refused.new.sink in
    let k2 = g.K.Sink.contents c.send_events.new.sink in
    let w0 = c.args.waiting.now.items in
    let w1 = c.send_refused.new.waiting.items in
    let sent = subst (λ xs. Sends k0 w0 k1 w1 (refused xs)) c.as_slice.ensures c.in_ok-send_refused.ensures.sent in
    let stopped = subst (λ xs. Stops k1 w1 k2 (events xs)) c.as_slice-2.ensures c.in_err-send_events.ensures.stopped in
    let second = stops_then k0 k1 k2 w0 w1 (refused t.refused) (events t.events) sent stopped in
    let third = stops_before k0 k2 w0 (refused t.refused ++ events t.events) (answers t.answers) second in
    at_err c.from_residual-in_err-send_events.result (stops_before k0 k2 w0 (refused t.refused ++ events t.events ++ answers t.answers) (end_line (length t.events)) third)

pub returns-in_err-send_lanes-clause-stopped : goal.returns-in_err-send_lanes-clause-stopped
returns-in_err-send_lanes-clause-stopped g c =
    let t = c.args.transcript.now in
    let k0 = g.K.Sink.contents c.args.sink.now in
    let k1 = g.K.Sink.contents c.send_refused.new.sink in
    let k2 = g.K.Sink.contents c.send_events.new.sink in
    let k3 = g.K.Sink.contents c.send_lanes.new.sink in
    let w0 = c.args.waiting.now.items in
    let w1 = c.send_refused.new.waiting.items in
    let w2 = c.send_events.new.waiting.items in
    let one = subst (λ xs. Sends k0 w0 k1 w1 (refused xs)) c.as_slice.ensures c.in_ok-send_refused.ensures.sent in
    let two = subst (λ xs. Sends k1 w1 k2 w2 (events xs)) c.as_slice-2.ensures c.in_ok-send_events.ensures.sent in
    let both = sends_then k0 k1 k2 w0 w1 w2 (refused t.refused) (events t.events) one two in
    let stopped = subst (λ xs. Stops k2 w2 k3 (answers xs)) c.as_slice-3.ensures c.in_err-send_lanes.ensures.stopped in
    let third = stops_then k0 k2 k3 w0 w2 (refused t.refused ++ events t.events) (answers t.answers) both stopped in
    at_err c.from_residual-in_err-send_lanes.result (stops_before k0 k3 w0 (refused t.refused ++ events t.events ++ answers t.answers) (end_line (length t.events)) third)

pub returns-clause-sent : goal.returns-clause-sent
returns-clause-sent g c =
    let t = c.args.transcript.now in
    let k0 = g.K.Sink.contents c.args.sink.now in
    let k1 = g.K.Sink.contents c.send_refused.new.sink in
    let k2 = g.K.Sink.contents c.send_events.new.sink in
    let k3 = g.K.Sink.contents c.send_lanes.new.sink in
    let k4 = g.K.Sink.contents c.send.new.sink in
    let w0 = c.args.waiting.now.items in
    let w1 = c.send_refused.new.waiting.items in
    let w2 = c.send_events.new.waiting.items in
    let w3 = c.send_lanes.new.waiting.items in
    let w4 = c.send.new.waiting.items in
    let one = subst (λ xs. Sends k0 w0 k1 w1 (refused xs)) c.as_slice.ensures c.in_ok-send_refused.ensures.sent in
    let two = subst (λ xs. Sends k1 w1 k2 w2 (events xs)) c.as_slice-2.ensures c.in_ok-send_events.ensures.sent in
    let both = sends_then k0 k1 k2 w0 w1 w2 (refused t.refused) (events t.events) one two in
    let three = subst (λ xs. Sends k2 w2 k3 w3 (answers xs)) c.as_slice-3.ensures c.in_ok-send_lanes.ensures.sent in
    let all = sends_then k0 k2 k3 w0 w2 w3 (refused t.refused ++ events t.events) (answers t.answers) both three in
    on_ok c.send.result
    (λ sent. sends_then k0 k3 k4 w0 w3 w4 (refused t.refused ++ events t.events ++ answers t.answers) (end_line (length t.events)) all (subst (λ xs. Sends k3 w3 k4 w4 (end_line (length xs))) c.as_slice-4.ensures sent))
    c.send.ensures.sent

pub returns-clause-stopped : goal.returns-clause-stopped
returns-clause-stopped g c =
    let t = c.args.transcript.now in
    let k0 = g.K.Sink.contents c.args.sink.now in
    let k1 = g.K.Sink.contents c.send_refused.new.sink in
    let k2 = g.K.Sink.contents c.send_events.new.sink in
    let k3 = g.K.Sink.contents c.send_lanes.new.sink in
    let k4 = g.K.Sink.contents c.send.new.sink in
    let w0 = c.args.waiting.now.items in
    let w1 = c.send_refused.new.waiting.items in
    let w2 = c.send_events.new.waiting.items in
    let w3 = c.send_lanes.new.waiting.items in
    let one = subst (λ xs. Sends k0 w0 k1 w1 (refused xs)) c.as_slice.ensures c.in_ok-send_refused.ensures.sent in
    let two = subst (λ xs. Sends k1 w1 k2 w2 (events xs)) c.as_slice-2.ensures c.in_ok-send_events.ensures.sent in
    let both = sends_then k0 k1 k2 w0 w1 w2 (refused t.refused) (events t.events) one two in
    let three = subst (λ xs. Sends k2 w2 k3 w3 (answers xs)) c.as_slice-3.ensures c.in_ok-send_lanes.ensures.sent in
    let all = sends_then k0 k2 k3 w0 w2 w3 (refused t.refused ++ events t.events) (answers t.answers) both three in
    on_err c.send.result
    (λ stopped. stops_then k0 k3 k4 w0 w3 (refused t.refused ++ events t.events ++ answers t.answers) (end_line (length t.events)) all (subst (λ xs. Stops k3 w3 k4 (end_line (length xs))) c.as_slice-4.ensures stopped))
    c.send.ensures.stopped
