-- What callers may cite of this crate's proofs: a unit file is read where it is spelled, and what was read was spelled.
-- Declares nothing.
pub use Rattle.ix_unit.proofs.Faults.{IsRead, spelled_is_read, read_was_spelled}
