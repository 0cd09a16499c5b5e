use Rattle.std.proofs.Common.{◌≡◌, take}
use Rattle.std.specs.List.{flat_map, enumerate_from}
use Rattle.ix_replays.specs.Text.{answer_text}
use Rattle.ix_transcripts.specs.Sending.{Sends}
use Rattle.ix_transcripts.proofs.write.send_lane.Given as goal

abbrev pub invariant-loop-ask : goal.invariant-loop-ask
invariant-loop-ask g l =
    Sends (g.K.Sink.contents l.initial.sink) l.initial.waiting.items (g.K.Sink.contents l.sink) l.waiting.items (flat_map (λ ask. answer_text l.lane ask.0 ask.1) (enumerate_from 0 (take l.ask l.answers)))
    × (g.K.Sink.faults l.sink ≡ g.K.Sink.faults l.initial.sink)
