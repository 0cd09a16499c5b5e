use Rattle.std.proofs.Common.{◌≡◌, take}
use Rattle.std.specs.List.{flat_map}
use Rattle.ix_replays.specs.Text.{event_line}
use Rattle.ix_transcripts.specs.Sending.{Sends}
use Rattle.ix_transcripts.proofs.write.send_events.Given as goal

abbrev pub invariant-loop-event : goal.invariant-loop-event
invariant-loop-event g l =
    Sends (g.K.Sink.contents l.initial.sink) l.initial.waiting.items (g.K.Sink.contents l.sink) l.waiting.items (flat_map event_line (take l.event-index l.events))
    × (g.K.Sink.faults l.sink ≡ g.K.Sink.faults l.initial.sink)
