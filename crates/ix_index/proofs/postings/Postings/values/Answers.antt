use Rattle.std.proofs.Common.{sym, ap, ◌∙◌}
use Rattle.std.specs.Map.{keys_of}
use Rattle.ix_index.proofs.Zips.{zip_keys}
use Rattle.ix_index.proofs.postings.Postings.values.Goals as goal

pub returns : goal.returns
returns g c = c.deref.ensures.value ∙ sym (zip_keys c.self.inside.values.items c.self.inside.counts.items c.self.invariant) ∙ ap keys_of c.self.view_is
