use Rattle.std.proofs.Common.{rules, sym, ◌∙◌}
use Rattle.std.proofs.lemmas.Fn.{always_returns_same}
use Rattle.ix_pages.specs.Tree.{pair_of}
use Rattle.ix_pages.proofs.Parting.{parted_absent, parted_present}
use Rattle.ix_pages.proofs.page.part.Goals as goal

pub returns-in-Some-clause-parted : goal.returns-in-Some-clause-parted
returns-in-Some-clause-parted g c =
    let by_key = c.in-Ok.ensures.position (λ e. g.K.Ord.cmp e.value.key c.args.key.now) (always_returns_same _ _ _ (λ a r h called. search rules)) in
    rw c.split_at.ensures.front
    (parted_present g.met.K.Ord.total pair_of c.args.key.now c.args.entries.now c.requires c.in-Ok.at c.in-Some.same.now c.in-Some.greater.now c.in-Ok.ensures.bound (sym c.split_at.ensures.back ∙ c.in-Some.ensures.cases.0) by_key)

pub returns-in-Err-clause-parted : goal.returns-in-Err-clause-parted
returns-in-Err-clause-parted g c =
    let by_key = c.in-Err.ensures.position (λ e. g.K.Ord.cmp e.value.key c.args.key.now) (always_returns_same _ _ _ (λ a r h called. search rules)) in
    rw (c.split_at-in-Err.ensures.front, c.split_at-in-Err.ensures.back)
    (parted_absent g.met.K.Ord.total pair_of c.args.key.now c.args.entries.now c.requires c.in-Err.at c.in-Err.ensures.bound by_key)
