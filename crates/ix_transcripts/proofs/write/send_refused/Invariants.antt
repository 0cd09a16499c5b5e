use Rattle.std.proofs.Common.{◌≡◌, take}
use Rattle.std.specs.List.{flat_map}
use Rattle.ix_replays.specs.Text.{refused_line}
use Rattle.ix_transcripts.specs.Sending.{Sends}
use Rattle.ix_transcripts.proofs.write.send_refused.Given as goal

abbrev pub invariant-loop-one : goal.invariant-loop-one
invariant-loop-one g l =
    Sends (g.K.Sink.contents l.initial.sink) l.initial.waiting.items (g.K.Sink.contents l.sink) l.waiting.items (flat_map refused_line (take l.one-index l.refused))
    × (g.K.Sink.faults l.sink ≡ g.K.Sink.faults l.initial.sink)
