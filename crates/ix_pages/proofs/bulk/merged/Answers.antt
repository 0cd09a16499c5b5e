use Rattle.std.proofs.Common.{◌≡◌, ◌∙◌, ◌+◌, ◌++◌, ◌∷◌, map, drop, sym, ap, subst, Less}
use Rattle.std.specs.List.{AllByRecursion}
use Rattle.std.proofs.lemmas.List.{drop_all}
use Rattle.ix_pages.specs.Changes.{key_of_change, changed}
use Rattle.ix_pages.specs.Tree.{pair_of}
use Rattle.ix_pages.specs.Edits.{change_of}
use Rattle.ix_pages.proofs.Changing.{later_above, next_of}
use Rattle.ix_pages.proofs.bulk.merged.Goals as goal

pub loop-edit-preserved : goal.loop-edit-preserved
loop-edit-preserved g c =
    let edit = c.edit-item.result in
    let later = map change_of (drop (c.loop-edit.edit-index + 1) c.args.edits.now) in
    let next : map change_of (drop c.loop-edit.edit-index c.args.edits.now) ≡ change_of edit ∷ later =
    next_of change_of c.args.edits.now c.loop-edit.edit-index edit c.loop-edit-test.true ∙ ap (λ e. change_of e ∷ later) (sym c.edit-item.is) in
    let above : AllByRecursion (λ change. g.K.Ord.cmp (key_of_change (change_of edit)) (key_of_change change) ≡ Less) later =
    subst (λ e. AllByRecursion (λ change. g.K.Ord.cmp (key_of_change (change_of e)) (key_of_change change) ≡ Less) later) (sym c.edit-item.is) (later_above g.K.Ord.cmp change_of c.args.edits.now c.loop-edit.edit-index edit c.loop-edit-test.true c.requires.edits) in (
      c.in_ok-rest.ensures.rising,
      c.in_ok-rest.ensures.merged later above
          ∙ ap (λ changes. map pair_of c.loop-edit.page.items ++ changed g.K.Ord.cmp (map pair_of c.loop-edit.rest.now) changes) (sym next)
          ∙ c.loop-edit.invariant.1,
    )

pub returns : goal.returns
returns g c =
    c.in_ok-append.ensures
    ∙ ap (λ edits. map pair_of c.loop-edit.page.items ++ changed g.K.Ord.cmp (map pair_of c.loop-edit.rest.now) (map change_of edits)) (sym (drop_all c.loop-edit.edit-index c.args.edits.now c.loop-edit-test.false))
    ∙ c.loop-edit.invariant.1
