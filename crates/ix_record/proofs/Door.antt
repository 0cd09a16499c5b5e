-- What callers may cite of this crate's proofs: a record file is read where it is spelled, and what was read was spelled.
-- Declares nothing.
pub use Rattle.ix_record.proofs.Grammar.{spelled_is_read, read_was_spelled}
