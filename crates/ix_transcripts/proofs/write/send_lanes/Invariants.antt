use Rattle.std.proofs.Common.{◌≡◌, take}
use Rattle.std.specs.List.{flat_map, enumerate_from}
use Rattle.ix_replays.specs.Text.{lane_text}
use Rattle.ix_transcripts.specs.Sending.{Sends}
use Rattle.ix_transcripts.proofs.write.send_lanes.Given as goal

abbrev pub invariant-loop-lane : goal.invariant-loop-lane
invariant-loop-lane g l =
    Sends (g.K.Sink.contents l.initial.sink) l.initial.waiting.items (g.K.Sink.contents l.sink) l.waiting.items (flat_map (λ lane. lane_text lane.0 lane.1) (enumerate_from 0 (take l.lane l.lanes)))
    × (g.K.Sink.faults l.sink ≡ g.K.Sink.faults l.initial.sink)
