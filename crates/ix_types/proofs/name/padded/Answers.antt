use Rattle.std.proofs.lemmas.List.{drop-replicate}
use Rattle.ix_types.proofs.name.padded.Goals as goal

pub returns : goal.returns
returns c = rw (c.split_at_mut-front.ensures.back, drop-replicate, c.copy_from_slice.ensures.after)
