use Rattle.std.proofs.Common.{◌≡◌, ◌⊎◌, ◌∙◌, ◌∷◌, [], sym, ap, subst, drop, take, true, false}
use Rattle.std.specs.Ordering.{is_lt}
use Rattle.ix_pages.specs.Pairs.{is_before}
use Rattle.ix_pages.specs.Tree.{leasts}
use Rattle.ix_pages.proofs.Forks.{found_in, behind_it}
use Rattle.ix_pages.proofs.node.near.Goals as goal

pub returns-clause-front : goal.returns-clause-front
returns-clause-front g c =
    let n = c.count_in_front.result in
    subst (λ f. (f ≡ []) ⊎ (is_lt (g.K.Ord.cmp c.args.key.now c.in-Some-split_first.child.now.least.value.key) ≡ false)) (sym (c.split_at.ensures.front ∙ ap (take n) c.in-Some.ensures.cases.0))
    (found_in g.K.Ord.cmp c.args.key.now c.in-Some.field-0-0.now c.in-Some.later.now n c.in-Some-split_first.child.now c.in-Some-split_first.rest.now c.count_in_front.ensures.within c.count_in_front.ensures.front
    (sym (ap (drop n) c.in-Some.ensures.cases.0) ∙ sym c.split_at.ensures.back ∙ c.in-Some-split_first.ensures.cases.0))

pub returns-clause-rest : goal.returns-clause-rest
returns-clause-rest g c =
    let n = c.count_in_front.result in
    ap (λ cs. is_before g.K.Ord.cmp c.args.key.now (leasts cs))
    (behind_it g.K.Ord.cmp c.args.key.now c.in-Some.field-0-0.now c.in-Some.later.now n c.in-Some-split_first.child.now c.in-Some-split_first.rest.now c.count_in_front.ensures.within
    (sym (ap (drop n) c.in-Some.ensures.cases.0) ∙ sym c.split_at.ensures.back ∙ c.in-Some-split_first.ensures.cases.0))
    ∙ c.count_in_front.ensures.rest
