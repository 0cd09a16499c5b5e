use Rattle.ix_pages.proofs.OtherWords.{from_key_parts}
use Rattle.ix_pages.proofs.laws.a_range_begins_at_the_key.Goals as goal

pub returns : goal.returns
returns g c = from_key_parts _
