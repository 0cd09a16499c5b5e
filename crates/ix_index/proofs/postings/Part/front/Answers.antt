use Rattle.std.proofs.Common.{◌≡◌, length, take, sym, ap, ◌∙◌, arith}
use Rattle.std.specs.List.{zip}
use Rattle.ix_index.proofs.Zips.{zip_length, zip_take}
use Rattle.ix_index.proofs.postings.Part.front.Goals as goal

pub split_at-requires : goal.split_at-requires
split_at-requires g c =
    let same : length c.args.self.now ≡ length c.self.inside.values.now = sym (ap length c.self.view_is) ∙ zip_length c.self.inside.values.now c.self.inside.counts.now c.self.invariant in
    omega (arith, same, c.requires)

pub returns : goal.returns
returns g c =
    ap (λ vs. zip vs c.split_at-2.result.0.now) c.split_at.ensures.front
    ∙ ap (λ ns. zip (take c.args.at c.self.inside.values.now) ns) c.split_at-2.ensures.front
    ∙ zip_take c.args.at c.self.inside.values.now c.self.inside.counts.now
    ∙ ap (take c.args.at) c.self.view_is
