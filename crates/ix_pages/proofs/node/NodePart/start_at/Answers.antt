use Rattle.std.proofs.Common.{◌∙◌, map, sym, arith}
use Rattle.ix_pages.specs.Tree.{pair_of}
use Rattle.ix_pages.proofs.Fronts.{part_whole, part_rising, front_whole, all_pages, start_in_part}
use Rattle.ix_pages.proofs.node.NodePart.start_at.Goals as goal

pub start_at-behind-requires-clause-whole : goal.start_at-behind-requires-clause-whole
start_at-behind-requires-clause-whole g c =
    part_whole g.T.Part.pages g.met.K.Ord.total c.args.key.now g.T.Part.whole c.args.self.now.children.items c.near.result.front.now c.near.result.child.now c.near.result.rest.now c.deref-3.result.now
    (sym c.deref.ensures.value ∙ c.near.ensures.all) c.requires.whole.kept.are c.requires.rising c.deref-3.ensures

pub start_at-behind-requires-clause-fits : goal.start_at-behind-requires-clause-fits
start_at-behind-requires-clause-fits g c =
    let all = all_pages g.T.Part.pages g.met.K.Ord.total c.args.key.now g.T.Part.whole c.args.self.now.children.items c.near.result.front.now c.near.result.child.now c.near.result.rest.now c.deref-3.result.now
    (sym c.deref.ensures.value ∙ c.near.ensures.all) c.requires.whole.kept.are c.requires.rising c.deref-3.ensures in
    let fits = c.requires.fits in
    omega (arith, all, fits)

pub start_at-behind-requires-clause-rising : goal.start_at-behind-requires-clause-rising
start_at-behind-requires-clause-rising g c =
    part_rising g.T.Part.pages g.met.K.Ord.total c.args.key.now g.T.Part.whole c.args.self.now.children.items c.near.result.front.now c.near.result.child.now c.near.result.rest.now c.deref-3.result.now
    (sym c.deref.ensures.value ∙ c.near.ensures.all) c.requires.whole.kept.are c.requires.rising c.deref-3.ensures

pub pages_in_all-requires-clause-whole : goal.pages_in_all-requires-clause-whole
pages_in_all-requires-clause-whole g c =
    front_whole g.T.Part.pages g.met.K.Ord.total c.args.key.now g.T.Part.whole c.args.self.now.children.items c.near.result.front.now c.near.result.child.now c.near.result.rest.now c.deref-3.result.now
    (sym c.deref.ensures.value ∙ c.near.ensures.all) c.requires.whole.kept.are c.requires.rising c.deref-3.ensures

pub pages_in_all-requires-clause-fits : goal.pages_in_all-requires-clause-fits
pages_in_all-requires-clause-fits g c =
    let all = all_pages g.T.Part.pages g.met.K.Ord.total c.args.key.now g.T.Part.whole c.args.self.now.children.items c.near.result.front.now c.near.result.child.now c.near.result.rest.now c.deref-3.result.now
    (sym c.deref.ensures.value ∙ c.near.ensures.all) c.requires.whole.kept.are c.requires.rising c.deref-3.ensures in
    let fits = c.requires.fits in
    omega (arith, all, fits)

pub overflow_add-result : goal.overflow_add-result
overflow_add-result g c =
    let all = all_pages g.T.Part.pages g.met.K.Ord.total c.args.key.now g.T.Part.whole c.args.self.now.children.items c.near.result.front.now c.near.result.child.now c.near.result.rest.now c.deref-3.result.now
    (sym c.deref.ensures.value ∙ c.near.ensures.all) c.requires.whole.kept.are c.requires.rising c.deref-3.ensures in
    let fits = c.requires.fits in
    let counted = c.pages_in_all.ensures in
    let within = c.start_at-behind.ensures.within in
    omega (arith, all, fits, counted, within)

pub returns-clause-within : goal.returns-clause-within
returns-clause-within g c =
    let all = all_pages g.T.Part.pages g.met.K.Ord.total c.args.key.now g.T.Part.whole c.args.self.now.children.items c.near.result.front.now c.near.result.child.now c.near.result.rest.now c.deref-3.result.now
    (sym c.deref.ensures.value ∙ c.near.ensures.all) c.requires.whole.kept.are c.requires.rising c.deref-3.ensures in
    let counted = c.pages_in_all.ensures in
    let within = c.start_at-behind.ensures.within in
    omega (arith, all, counted, within)

pub returns-clause-rest : goal.returns-clause-rest
returns-clause-rest g c =
    start_in_part g.T.Part.pages g.met.K.Ord.total c.args.key.now g.T.Part.whole c.args.self.now.children.items c.near.result.front.now c.near.result.child.now c.near.result.rest.now c.deref-3.result.now
    (sym c.deref.ensures.value ∙ c.near.ensures.all) c.requires.whole.kept.are c.requires.rising c.deref-3.ensures
    c.near.ensures.front c.near.ensures.rest (map pair_of c.start_at-behind.result.page.now) c.start_at-behind.result.behind c.pages_in_all.result c.start_at-behind.ensures.within c.pages_in_all.ensures c.start_at-behind.ensures.rest
