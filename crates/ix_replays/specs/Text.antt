-- The text of a transcript: the refused units, a line for each event, the answers of each lane, and the number of events.
use Rattle.std.specs.Prelude.{ℕ, ◌==◌, if◌then◌else◌, List, [], ◌∷◌, ◌++◌, length, codes, unwrap_or, Option, Some, None}
use Rattle.std.specs.List.{flat_map, enumerate_from}
use Rattle.std.specs.Fmt.{decimal}
use Rattle.ix_types.specs.Codes.{Table, kinds, langs, roles, props, name_of_code, words_of}
use Rattle.ix_types.specs.declared.row.RelRow.{RelRow}
use Rattle.ix_types.specs.declared.row.OccRow.{OccRow}
use Rattle.ix_types.specs.declared.row.Row.{Row}
use Rattle.ix_types.specs.declared.row.EdgeRow.{EdgeRow}
use Rattle.ix_types.specs.declared.row.Row.TheVariants.{Occ, Path, Unit, Edge}
use Rattle.ix_machine.specs.declared.event.Call.{Call}
use Rattle.ix_machine.specs.declared.event.Call.TheVariants.{Lease, Put, Stage, Publish, Remove, Scan, Load, Install, Adopt, Release, Collect}
use Rattle.ix_machine.specs.declared.event.Outcome.{Outcome}
use Rattle.ix_machine.specs.declared.event.Outcome.TheVariants as outcome
use Rattle.ix_machine.specs.declared.event.Event.{Event}
use Rattle.ix_machine.specs.declared.opened.Refused.{Refused}
use Rattle.ix_machine.specs.declared.opened.UnitFault.{UnitFault}
use Rattle.ix_machine.specs.declared.opened.UnitFault.TheVariants as cause
use Rattle.ix_lanes.specs.declared.answered.AskResult.{AskResult}
use Rattle.ix_lanes.specs.declared.answered.AskResult.TheVariants as result
use Rattle.ix_lanes.specs.declared.answered.Answered.{Answered}
use Rattle.ix_replays.specs.declared.transcript.Transcript.{Transcript}

-- a tab, a space, and the end of a line
abbrev pub tab : List ℕ
tab = 9 ∷ []

abbrev pub space : List ℕ
space = 32 ∷ []

abbrev pub newline : List ℕ
newline = 10 ∷ []

-- ---- refused units

abbrev pub cause_words : UnitFault → List ℕ
cause_words cause.Magic = codes "magic"
cause_words cause.Short = codes "short"
cause_words (cause.Field at) = codes "field " ++ decimal at
cause_words (cause.Order at) = codes "order " ++ decimal at
cause_words (cause.Trailing at) = codes "trailing " ++ decimal at
cause_words cause.Digest = codes "digest"
cause_words cause.WrongName = codes "name"
cause_words (cause.RecordMissing name) = codes "record-missing " ++ name
cause_words (cause.RecordDamaged name) = codes "record-damaged " ++ name

abbrev pub refused_line : Refused → List ℕ
refused_line refused = codes "refused " ++ refused.name ++ space ++ cause_words refused.cause ++ newline

-- ---- events

-- an outcome as a word of its own; Done and a mark are said by the call
abbrev pub outcome_word : Outcome → List ℕ
outcome_word outcome.Done = codes "ok"
outcome_word outcome.Written = codes "written"
outcome_word outcome.Shared = codes "shared"
outcome_word outcome.Clash = codes "clash"
outcome_word outcome.Synced = codes "synced"
outcome_word outcome.Unsynced = codes "unsynced"
outcome_word outcome.NoUnit = codes "none"
outcome_word (outcome.At mark) = decimal mark
outcome_word (outcome.Removed name) = codes "removed " ++ name
outcome_word outcome.Nothing = codes "nothing"
outcome_word outcome.Fault = codes "fault"
outcome_word (outcome.Lost name) = codes "lost"
outcome_word (outcome.Damaged name) = codes "damaged"

-- a scan says that it succeeded, or the name of the file that it didn't find so
abbrev pub scan_words : Outcome → List ℕ
scan_words outcome.Done = outcome_word outcome.Done
scan_words outcome.Written = outcome_word outcome.Written
scan_words outcome.Shared = outcome_word outcome.Shared
scan_words outcome.Clash = outcome_word outcome.Clash
scan_words outcome.Synced = outcome_word outcome.Synced
scan_words outcome.Unsynced = outcome_word outcome.Unsynced
scan_words outcome.NoUnit = outcome_word outcome.NoUnit
scan_words (outcome.At mark) = codes "ok " ++ decimal mark
scan_words (outcome.Removed name) = outcome_word (outcome.Removed name)
scan_words outcome.Nothing = outcome_word outcome.Nothing
scan_words outcome.Fault = outcome_word outcome.Fault
scan_words (outcome.Lost name) = codes "lost " ++ name
scan_words (outcome.Damaged name) = codes "damaged " ++ name

abbrev pub event_words : Call → Outcome → List ℕ
event_words (Lease names) ended = codes "lease " ++ decimal (length names)
event_words (Put name) ended = codes "put " ++ name ++ space ++ outcome_word ended
event_words (Stage unit) ended = codes "stage " ++ unit ++ space ++ outcome_word ended
event_words (Publish unit) ended = codes "publish " ++ unit ++ space ++ outcome_word ended
event_words (Remove unit) ended = codes "remove " ++ unit ++ space ++ outcome_word ended
event_words Scan ended = codes "scan " ++ scan_words ended
event_words (Load name) ended = codes "load " ++ name ++ space ++ outcome_word ended
event_words Install ended = codes "install " ++ outcome_word ended
event_words Adopt ended = codes "adopt " ++ outcome_word ended
event_words Release ended = codes "release"
event_words Collect ended = codes "collect " ++ outcome_word ended

abbrev pub event_line : Event → List ℕ
event_line event = decimal event.lane ++ space ++ event_words event.call event.outcome ++ newline

-- ---- rows

-- Looking up a code and a set of bits unfold only where a proof asks: written out, a table of 19 bits is too long to compute with.

-- the name of a code; a code of no row has none
unfoldable pub word_of : Table → ℕ → List ℕ
word_of table code = unwrap_or (name_of_code table code) []

-- the names of the roles that are set, rising and joined by a plus
unfoldable pub role_names : ℕ → List ℕ
role_names bits = words_of roles bits

-- the names of the properties that are set, rising and joined by a plus
unfoldable pub prop_names : ℕ → List ℕ
prop_names bits = words_of props bits

-- no property is a dash
abbrev pub props_words : ℕ → List ℕ
props_words bits = if bits == 0 then codes "-" else prop_names bits

abbrev pub relation_field : RelRow → List ℕ
relation_field relation = tab ++ role_names relation.roles ++ codes "=" ++ relation.usr

abbrev pub occurrence_line : OccRow → List ℕ
occurrence_line row =
    codes "row" ++ tab ++ row.path ++ tab ++ decimal row.line ++ tab ++ decimal row.column
    ++ tab ++ role_names row.roles ++ tab ++ word_of kinds row.kind ++ tab ++ word_of langs row.lang
    ++ tab ++ props_words row.props ++ tab ++ row.usr ++ tab ++ row.name ++ flat_map relation_field row.relations ++ newline

abbrev pub edge_line : EdgeRow → List ℕ
edge_line edge =
    codes "edge" ++ tab ++ decimal edge.depth ++ tab ++ edge.from ++ tab ++ edge.to
    ++ tab ++ edge.path ++ tab ++ decimal edge.line ++ tab ++ decimal edge.column ++ newline

abbrev pub row_line : Row → List ℕ
row_line (Occ row) = occurrence_line row
row_line (Path path) = codes "path" ++ tab ++ path ++ newline
row_line (Unit name) = codes "unit" ++ tab ++ name ++ newline
row_line (Edge edge) = edge_line edge

-- ---- answers

abbrev pub mark_words : Option ℕ → List ℕ
mark_words None = []
mark_words (Some mark) = codes "at " ++ decimal mark ++ space

abbrev pub result_text : AskResult → List ℕ
result_text result.NoneHeld = codes "none" ++ newline
result_text (result.Rows rows) = codes "rows " ++ decimal (length rows) ++ newline ++ flat_map row_line rows
result_text result.Fault = codes "fault" ++ newline
result_text result.Lost = codes "lost" ++ newline
result_text result.Damaged = codes "damaged" ++ newline

-- the answer to the ask of this number of this lane
abbrev pub answer_text : ℕ → ℕ → Answered → List ℕ
answer_text lane ask answered = codes "ask " ++ decimal lane ++ space ++ decimal ask ++ space ++ mark_words answered.mark ++ result_text answered.result

-- the asks of a lane, counted from 0
abbrev pub lane_text : ℕ → List Answered → List ℕ
lane_text lane answers = flat_map (λ ask. answer_text lane ask.0 ask.1) (enumerate_from 0 answers)

-- ---- the whole

abbrev pub end_line : ℕ → List ℕ
end_line events = codes "end " ++ decimal events ++ newline

abbrev pub transcript_text : Transcript → List ℕ
transcript_text t =
    flat_map refused_line t.refused
    ++ flat_map event_line t.events
    ++ flat_map (λ lane. lane_text lane.0 lane.1) (enumerate_from 0 t.answers)
    ++ end_line (length t.events)
