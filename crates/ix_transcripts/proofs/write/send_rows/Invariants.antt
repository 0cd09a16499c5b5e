use Rattle.std.proofs.Common.{◌≡◌, take}
use Rattle.std.specs.List.{flat_map}
use Rattle.ix_replays.specs.Text.{row_line}
use Rattle.ix_transcripts.specs.Sending.{Sends}
use Rattle.ix_transcripts.proofs.write.send_rows.Given as goal

abbrev pub invariant-loop-row : goal.invariant-loop-row
invariant-loop-row g l =
    Sends (g.K.Sink.contents l.initial.sink) l.initial.waiting.items (g.K.Sink.contents l.sink) l.waiting.items (flat_map row_line (take l.row-index l.rows))
    × (g.K.Sink.faults l.sink ≡ g.K.Sink.faults l.initial.sink)
