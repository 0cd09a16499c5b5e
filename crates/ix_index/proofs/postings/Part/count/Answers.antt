use Rattle.std.proofs.Common.{ℕ, Option, unwrap_or, sym, ap, ◌∙◌}
use Rattle.ix_index.proofs.Merging.{count_parted}
use Rattle.ix_index.proofs.postings.Part.count.Goals as goal

pub returns-in-Some : goal.returns-in-Some
returns-in-Some g c =
    sym (count_parted g.met.V.Ord.total c.args.value.now c.args.self.now c.parted.result.lesser c.parted.result.count c.parted.result.greater c.parted.ensures
    ∙ ap (λ (n : Option ℕ). unwrap_or n 0) c.in-Some.is)

pub returns-in-None : goal.returns-in-None
returns-in-None g c =
    sym (count_parted g.met.V.Ord.total c.args.value.now c.args.self.now c.parted.result.lesser c.parted.result.count c.parted.result.greater c.parted.ensures
    ∙ ap (λ (n : Option ℕ). unwrap_or n 0) c.in-None.is)
