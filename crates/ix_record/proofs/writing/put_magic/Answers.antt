use Rattle.ix_record.proofs.Readers.{magic_is_one, magic_is_two}
use Rattle.ix_record.proofs.writing.put_magic.Goals as goal

pub returns-in-One : goal.returns-in-One
returns-in-One c = rw (c.in-One.is, ← magic_is_one) c.put_u32.ensures.ok

pub returns-in-Two : goal.returns-in-Two
returns-in-Two c = rw (c.in-Two.is, ← magic_is_two) c.put_u32-in-Two.ensures.ok
