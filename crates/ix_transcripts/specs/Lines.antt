-- The lines of a transcript, one by one. An answer with rows is a line for the ask, and one for each row.
use Rattle.std.specs.Prelude.{ℕ, List, [], ◌++◌, length, codes}
use Rattle.std.specs.List.{flat_map}
use Rattle.std.specs.Fmt.{decimal}
use Rattle.ix_lanes.specs.declared.answered.AskResult.{AskResult}
use Rattle.ix_lanes.specs.declared.answered.AskResult.TheVariants as result
use Rattle.ix_lanes.specs.declared.answered.Answered.{Answered}
use Rattle.ix_replays.specs.Text.{newline, space, mark_words, row_line, refused_line, event_line, end_line}
use Rattle.ix_transcripts.specs.declared.line.Line.{Line}
use Rattle.ix_transcripts.specs.declared.line.Line.TheVariants.{Refused, Event, Ask, Row, End}

-- how an ask ended, without its rows
abbrev pub result_words : AskResult → List ℕ
result_words result.NoneHeld = codes "none" ++ newline
result_words (result.Rows rows) = codes "rows " ++ decimal (length rows) ++ newline
result_words result.Fault = codes "fault" ++ newline
result_words result.Lost = codes "lost" ++ newline
result_words result.Damaged = codes "damaged" ++ newline

-- the lines of its rows
abbrev pub rows_text : AskResult → List ℕ
rows_text result.NoneHeld = []
rows_text (result.Rows rows) = flat_map row_line rows
rows_text result.Fault = []
rows_text result.Lost = []
rows_text result.Damaged = []

-- the line of an ask
abbrev pub ask_line : ℕ → ℕ → Answered → List ℕ
ask_line lane ask answered = codes "ask " ++ decimal lane ++ space ++ decimal ask ++ space ++ mark_words answered.mark ++ result_words answered.result

abbrev pub line_text : Line → List ℕ
line_text (Refused refused) = refused_line refused.now
line_text (Event event) = event_line event.now
line_text (Ask lane ask answered) = ask_line lane ask answered.now
line_text (Row row) = row_line row.now
line_text (End events) = end_line events
