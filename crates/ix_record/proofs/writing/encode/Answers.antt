use Rattle.std.proofs.Common.{refl}
use Rattle.ix_record.specs.Spelling.{record_bytes}
use Rattle.ix_record.proofs.writing.encode.Goals as goal

pub returns : goal.returns
unfolding record_bytes
returns c = record {
  valid = c.requires;
  fields = rw (
    c.of.ensures,
    c.in_ok-put_occurrences.ensures,
    c.in_ok-put_u32-2.ensures.ok,
    c.in_ok-put_symbols.ensures,
    c.in_ok-put_u32.ensures.ok,
    c.in_ok-put_magic.ensures,
    c.new-out.ensures.items,
    c.as_slice-symbols.ensures,
    c.as_slice-occurrences.ensures,
  ) refl;
}
