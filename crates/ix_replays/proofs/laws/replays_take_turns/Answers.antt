use Rattle.std.proofs.Common.{refl}
use Rattle.ix_machine.specs.Needs.{is_needed}
use Rattle.ix_jobs.specs.Made.{record_of, bytes_of}
use Rattle.ix_record.specs.Spelling.{record_bytes, symbol_bytes, occurrence_bytes, relation_bytes}
use Rattle.ix_wire.specs.Spelling.{u32_bytes, text_bytes}
use Rattle.ix_replays.proofs.laws.replays_take_turns.Goals as goal

pub returns-clause-skipped : goal.returns-clause-skipped
unfolding is_needed record_of bytes_of record_bytes symbol_bytes occurrence_bytes relation_bytes u32_bytes text_bytes
returns-clause-skipped c = refl

pub returns-clause-first : goal.returns-clause-first
unfolding is_needed record_of bytes_of record_bytes symbol_bytes occurrence_bytes relation_bytes u32_bytes text_bytes
returns-clause-first c = refl

pub returns-clause-rest : goal.returns-clause-rest
unfolding is_needed record_of bytes_of record_bytes symbol_bytes occurrence_bytes relation_bytes u32_bytes text_bytes
returns-clause-rest c = refl
