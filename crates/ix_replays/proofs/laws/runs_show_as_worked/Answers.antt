use Rattle.std.proofs.Common.{refl}
use Rattle.ix_machine.specs.Needs.{is_needed}
use Rattle.ix_jobs.specs.Made.{record_of, bytes_of}
use Rattle.ix_record.specs.Spelling.{record_bytes, symbol_bytes, occurrence_bytes, relation_bytes}
use Rattle.ix_wire.specs.Spelling.{u32_bytes, text_bytes}
use Rattle.ix_replays.proofs.laws.runs_show_as_worked.Goals as goal

pub returns-clause-asked : goal.returns-clause-asked
unfolding is_needed record_of bytes_of record_bytes symbol_bytes occurrence_bytes relation_bytes u32_bytes text_bytes
returns-clause-asked c = refl

pub returns-clause-none_held : goal.returns-clause-none_held
unfolding is_needed record_of bytes_of record_bytes symbol_bytes occurrence_bytes relation_bytes u32_bytes text_bytes
returns-clause-none_held c = refl

pub returns-clause-at_zero : goal.returns-clause-at_zero
unfolding is_needed record_of bytes_of record_bytes symbol_bytes occurrence_bytes relation_bytes u32_bytes text_bytes
returns-clause-at_zero c = refl

pub returns-clause-cut : goal.returns-clause-cut
unfolding is_needed record_of bytes_of record_bytes symbol_bytes occurrence_bytes relation_bytes u32_bytes text_bytes
returns-clause-cut c = refl

pub returns-clause-too_long : goal.returns-clause-too_long
unfolding is_needed record_of bytes_of record_bytes symbol_bytes occurrence_bytes relation_bytes u32_bytes text_bytes
returns-clause-too_long c = refl

pub returns-clause-no_lane : goal.returns-clause-no_lane
unfolding is_needed record_of bytes_of record_bytes symbol_bytes occurrence_bytes relation_bytes u32_bytes text_bytes
returns-clause-no_lane c = refl

pub returns-clause-no_flag : goal.returns-clause-no_flag
unfolding is_needed record_of bytes_of record_bytes symbol_bytes occurrence_bytes relation_bytes u32_bytes text_bytes
returns-clause-no_flag c = refl

pub returns-clause-flags_left : goal.returns-clause-flags_left
unfolding is_needed record_of bytes_of record_bytes symbol_bytes occurrence_bytes relation_bytes u32_bytes text_bytes
returns-clause-flags_left c = refl

pub returns-clause-held : goal.returns-clause-held
unfolding is_needed record_of bytes_of record_bytes symbol_bytes occurrence_bytes relation_bytes u32_bytes text_bytes
returns-clause-held c = refl

pub returns-clause-two_lanes : goal.returns-clause-two_lanes
unfolding is_needed record_of bytes_of record_bytes symbol_bytes occurrence_bytes relation_bytes u32_bytes text_bytes
returns-clause-two_lanes c = refl

pub returns-clause-stage_failed : goal.returns-clause-stage_failed
unfolding is_needed record_of bytes_of record_bytes symbol_bytes occurrence_bytes relation_bytes u32_bytes text_bytes
returns-clause-stage_failed c = refl

pub returns-clause-unsynced : goal.returns-clause-unsynced
unfolding is_needed record_of bytes_of record_bytes symbol_bytes occurrence_bytes relation_bytes u32_bytes text_bytes
returns-clause-unsynced c = refl

pub returns-clause-second_lane : goal.returns-clause-second_lane
unfolding is_needed record_of bytes_of record_bytes symbol_bytes occurrence_bytes relation_bytes u32_bytes text_bytes
returns-clause-second_lane c = refl
