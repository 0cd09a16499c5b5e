use Rattle.std.proofs.Common.{rules, ◌≡◌, ◌+◌, ◌<◌, [], ◌∷◌, ◌++◌, List, length, map, drop, refl, sym, ap, ◌∙◌, subst, option_copied, arith}
use Rattle.std.proofs.lemmas.Option.{slice_get-get_or}
use Rattle.ix_pages.specs.Paging.{pairs_of}
use Rattle.ix_pages.specs.Tree.{pair_of}
use Rattle.ix_pages.specs.Roots.{pages_in, pages_under}
use Rattle.ix_pages.proofs.Trees.{from_page}
use Rattle.ix_pages.proofs.range.Range.take_first.Goals as goal

no_items : {X : Type 0} (xs : List X) → length xs ≡ 0 → xs ≡ []
no_items [] none = refl
no_items (x ∷ xs) none = absurd (omega arith)

pub unreachable-requires : goal.unreachable-requires
unreachable-requires g c =
    let page = c.in-Some-page_at.page.now in
    let full : 0 < length page = c.in-Some-page_at.ensures.some in
    let none : length page ≡ 0 = c.in-None-split_first.ensures.cases in
    omega (arith, full, none)

pub unreachable-requires-in-None-page_at : goal.unreachable-requires-in-None-page_at
unreachable-requires-in-None-page_at g c =
    let i = c.self.inside.behind in
    let within = subst (λ n. i < n) c.count.ensures.pages c.if-self-count.false in
    let some = slice_get-get_or (pages_under c.in-Some-tree.tree.now) i [] within in
    let none = c.in-None-page_at.ensures.page in
    cc (some, none)

pub returns-in-Some-split_first : goal.returns-in-Some-split_first
returns-in-Some-split_first g c =
    let i = c.self.inside.behind in
    let tree = c.in-Some-tree.tree.now in
    let page = c.in-Some-page_at.page.now in
    let none = no_items c.self.inside.page.now c.in_default.ensures.cases in
    let parts = c.in-Some-split_first.ensures.cases.0 in
    let e = sym c.self.view_is
    ∙ ap (λ p. map pair_of p ++ pairs_of (drop i (pages_in (option_copied c.self.inside.tree)))) none
    ∙ ap (λ o. pairs_of (drop i (pages_in (option_copied o)))) c.in-Some-tree.is
    ∙ from_page (pages_under tree) i (map pair_of page) (sym c.in-Some-page_at.ensures.page)
    ∙ ap (λ p. map pair_of p ++ pairs_of (drop (i + 1) (pages_under tree))) parts
    ∙ sym (ap (λ o. (pair_of c.in-Some-split_first.entry.now ∷ map pair_of c.in-Some-split_first.rest.now) ++ pairs_of (drop (i + 1) (pages_in (option_copied o)))) c.in-Some-tree.is) in
    search (rules, e)
