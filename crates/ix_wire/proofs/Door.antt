-- What callers may cite of this crate's proofs: readers of fields, of a field behind another, and of rising lists, each with
-- what it reads where it is spelled and what it makes of a front of the bytes. Declares nothing.
pub use Rattle.ix_wire.proofs.Fronts.{front_then, front_test, number_field_front, text_field_front, any_text_field_front, tested_front, rising_front}
pub use Rattle.ix_wire.proofs.Items.{IsItems, items_reader, passes_nothing}
pub use Rattle.ix_wire.proofs.Loop.{still, goes_on, ends, falls_back, is_done}
pub use Rattle.ix_wire.proofs.Readers.{IsReader, IsReader-also, step, number_field_reader, text_field_reader, any_text_field_reader, tested_reader, either_true}
pub use Rattle.ix_wire.proofs.Steps.{test_ok, of_test, done, done_is, same_value, passes_join, passes_split}
