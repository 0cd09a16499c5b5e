use Rattle.std.proofs.Common.{◌==◌, length, sym, ap, ◌∙◌}
use Rattle.ix_index.proofs.Zips.{zip_length}
use Rattle.ix_index.proofs.postings.Postings.is_empty.Goals as goal

pub returns : goal.returns
returns g c =
    c.is_empty.ensures
    ∙ ap (λ vs. length vs == 0) c.as_slice.ensures.value
    ∙ ap (λ n. n == 0) (sym (zip_length c.self.inside.values.items c.self.inside.counts.items c.self.invariant) ∙ ap length c.self.view_is)
