use Rattle.std.proofs.Common.{length, sym, ap, ◌∙◌}
use Rattle.ix_index.proofs.Zips.{zip_length}
use Rattle.ix_index.proofs.postings.Part.len.Goals as goal

pub returns : goal.returns
returns g c = sym (zip_length c.self.inside.values.now c.self.inside.counts.now c.self.invariant) ∙ ap length c.self.view_is
