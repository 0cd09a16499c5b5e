use Rattle.std.proofs.Common.{append_assoc}
use Rattle.ix_wire.specs.Spelling.{text_bytes}
use Rattle.ix_unit.proofs.writing.put_name.Goals as goal

pub returns : goal.returns
unfolding text_bytes
returns c = rw (c.in_ok-extend_from_slice.ensures.items, c.in_ok-put_u32.ensures.ok, c.bytes-digits.ensures.value) (simp append_assoc)
