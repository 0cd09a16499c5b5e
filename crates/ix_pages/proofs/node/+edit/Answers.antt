use Rattle.std.proofs.Common.{rules, ◌≡◌, ◌⊎◌, ◌∙◌, ◌++◌, ◌∷◌, ◌+◌, ◌<◌, List, length, map, drop, refl, sym, ap, subst, OnOk, arith}
use Rattle.std.proofs.lemmas.List.{length-append}
use Rattle.ix_pages.specs.Pairs.{IsRising}
use Rattle.ix_pages.specs.Paging.{pairs_of}
use Rattle.ix_pages.specs.Changes.{pages_changed}
use Rattle.ix_pages.specs.Tree.{pages_of, AreKept}
use Rattle.ix_pages.specs.Edits.{change_of}
use Rattle.ix_pages.proofs.Trees.{rising_back}
use Rattle.ix_pages.proofs.Children.{kept_first, kept_left, kept_right, child_whole, child_rising, rising_behind}
use Rattle.ix_pages.proofs.Forks.{first_of, edited_all, no_edits, some_behind}
use Rattle.ix_pages.proofs.node.+edit.Goals as goal

pub keep-requires-in-Some-clause-children : goal.keep-requires-in-Some-clause-children
keep-requires-in-Some-clause-children g t c =
    kept_left g.T.Part.pages g.T.Part.whole g.K.Key.head_of c.args.base.now c.args.skip c.near.result.front.now (c.near.result.child.now ∷ c.near.result.rest.now)
    (subst (AreKept g.T.Part.pages g.T.Part.whole g.K.Key.head_of c.args.base.now c.args.skip) c.near.ensures.all c.requires.children)

pub edited-requires-clause-whole : goal.edited-requires-clause-whole
edited-requires-clause-whole g t c =
    subst g.T.Part.whole (sym c.deref.ensures) (child_whole g.T.Part.pages g.met.K.Ord.total c.key_of.result.now g.T.Part.whole c.args.children.now c.near.result.front.now c.near.result.child.now c.near.result.rest.now c.near.ensures.all c.requires.children.are c.requires.pairs).part

pub edited-requires-clause-pairs : goal.edited-requires-clause-pairs
edited-requires-clause-pairs g t c =
    subst (λ part. IsRising g.K.Ord.cmp (pairs_of (g.T.Part.pages part))) (sym c.deref.ensures)
    (child_rising g.T.Part.pages g.met.K.Ord.total c.key_of.result.now g.T.Part.whole c.args.children.now c.near.result.front.now c.near.result.child.now c.near.result.rest.now c.near.ensures.all c.requires.children.are c.requires.pairs)

pub edit-requires : goal.edit-requires
edit-requires g t c κs within =
    let front = c.near.result.front.now in
    let child = c.near.result.child.now in
    let rest = c.near.result.rest.now in
    let kept : AreKept g.T.Part.pages g.T.Part.whole g.K.Key.head_of c.args.base.now c.args.skip c.near.result.rest.now =
    (kept_first g.T.Part.pages g.T.Part.whole g.K.Key.head_of c.args.base.now c.args.skip child rest
    (kept_right g.T.Part.pages g.T.Part.whole g.K.Key.head_of c.args.base.now c.args.skip front (child ∷ rest) (subst (AreKept g.T.Part.pages g.T.Part.whole g.K.Key.head_of c.args.base.now c.args.skip) c.near.ensures.all c.requires.children))).2 in
    let rising : IsRising g.K.Ord.cmp (pairs_of (pages_of g.T.Part.pages c.near.result.rest.now)) =
    rising_back g.K.Ord.cmp (g.T.Part.pages child.part.value ++ pages_of g.T.Part.pages rest) (g.T.Part.pages child.part.value) (pages_of g.T.Part.pages rest) refl
    (rising_behind g.T.Part.pages g.met.K.Ord.total c.key_of.result.now g.T.Part.whole c.args.children.now front child rest c.near.ensures.all c.requires.children.are c.requires.pairs) in
    let some : (length c.edits_before.result.behind.now ≡ 0) ⊎ (0 < length c.near.result.rest.now) = some_behind g.T.Part.pages g.met.K.Ord.total c.args.most rest c.edits_before.result.behind.now (map change_of c.args.edits.now) c.edits_before.ensures.behind in
    let long : length c.args.children.now ≡ length front + length (child ∷ rest) = ap length c.near.ensures.all ∙ length-append front (child ∷ rest) in
    let smaller : length c.near.result.rest.now < length c.args.children.now = omega (arith, long) in
    search rules

pub returns-in-None-clause-pages : goal.returns-in-None-clause-pages
returns-in-None-clause-pages g t c =
    subst (λ p. OnOk c.keep.result (pages_of g.T.Part.pages c.keep.new.made.items ≡ pages_of g.T.Part.pages c.args.made.now.items ++ p)) (sym (no_edits g.T.Part.pages g.met.K.Ord.total c.args.most (pages_of g.T.Part.pages c.args.children.now) c.args.edits.now c.in-None.ensures.value)) c.keep.ensures.pages

pub returns-in_ok-add-in-Some-clause-pages : goal.returns-in_ok-add-in-Some-clause-pages
returns-in_ok-add-in-Some-clause-pages g t c =
    let later = drop 1 c.args.edits.now in
    subst (λ p. OnOk c.edit.result (pages_of g.T.Part.pages c.edit.new.made.items ≡ p))
    (edited_all g.T.Part.pages g.met.K.Ord.total c.args.most g.T.Part.whole c.args.children.now c.near.result.front.now c.near.result.child.now c.near.result.rest.now (change_of c.in-Some.first.now) (map change_of later) (map change_of c.args.edits.now)
    (map change_of c.edits_before.result.before.now) (map change_of c.edits_before.result.behind.now) c.key_of.result.now c.args.made.now.items c.keep-in-Some.new.made.items c.add.new.made.items c.in_ok-parts-in-Some.parts.items c.deref.result.now
    c.near.ensures.all c.requires.children.are c.requires.pairs (ap (map change_of) (first_of c.args.edits.now c.in-Some.first.now c.in-Some.ensures.value)) c.requires.edits c.key_of.ensures c.near.ensures.front
    c.in_ok-keep-in-Some.ensures.pages (c.in_ok-add-in-Some.ensures.pages ∙ ap (λ parts. pages_of g.T.Part.pages c.keep-in-Some.new.made.items ++ pages_of g.T.Part.pages parts) c.deref-in-Some.ensures.value)
    c.in_ok-parts-in-Some.ensures.pages c.deref.ensures c.edits_before.ensures.before c.edits_before.ensures.behind)
    c.edit.ensures.pages
