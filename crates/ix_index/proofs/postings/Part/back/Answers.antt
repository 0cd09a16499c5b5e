use Rattle.std.proofs.Common.{◌≡◌, length, drop, sym, ap, ◌∙◌, arith}
use Rattle.std.specs.List.{zip}
use Rattle.ix_index.proofs.Zips.{zip_length, zip_drop}
use Rattle.ix_index.proofs.postings.Part.back.Goals as goal

pub split_at-requires : goal.split_at-requires
split_at-requires g c =
    let same : length c.args.self.now ≡ length c.self.inside.values.now = sym (ap length c.self.view_is) ∙ zip_length c.self.inside.values.now c.self.inside.counts.now c.self.invariant in
    omega (arith, same, c.requires)

pub returns : goal.returns
returns g c =
    ap (λ vs. zip vs c.split_at-2.result.1.now) c.split_at.ensures.back
    ∙ ap (λ ns. zip (drop c.args.at c.self.inside.values.now) ns) c.split_at-2.ensures.back
    ∙ zip_drop c.args.at c.self.inside.values.now c.self.inside.counts.now c.self.invariant
    ∙ ap (drop c.args.at) c.self.view_is
