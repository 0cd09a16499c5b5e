use Rattle.std.proofs.Common.{◌∙◌, map, sym}
use Rattle.ix_pages.specs.Tree.{pair_of}
use Rattle.ix_pages.proofs.Fronts.{part_whole, part_rising, look_in_part}
use Rattle.ix_pages.proofs.node.NodePart.page_for.Goals as goal

pub page_for-requires-clause-whole : goal.page_for-requires-clause-whole
page_for-requires-clause-whole g c =
    part_whole g.T.Part.pages g.met.K.Ord.total c.args.key.now g.T.Part.whole c.args.self.now.children.items c.near.result.front.now c.near.result.child.now c.near.result.rest.now c.deref-3.result.now
    (sym c.deref.ensures.value ∙ c.near.ensures.all) c.requires.whole.kept.are c.requires.rising c.deref-3.ensures

pub page_for-requires-clause-rising : goal.page_for-requires-clause-rising
page_for-requires-clause-rising g c =
    part_rising g.T.Part.pages g.met.K.Ord.total c.args.key.now g.T.Part.whole c.args.self.now.children.items c.near.result.front.now c.near.result.child.now c.near.result.rest.now c.deref-3.result.now
    (sym c.deref.ensures.value ∙ c.near.ensures.all) c.requires.whole.kept.are c.requires.rising c.deref-3.ensures

pub returns-clause-value : goal.returns-clause-value
returns-clause-value g c =
    look_in_part g.T.Part.pages g.met.K.Ord.total c.args.key.now g.T.Part.whole c.args.self.now.children.items c.near.result.front.now c.near.result.child.now c.near.result.rest.now c.deref-3.result.now
    (sym c.deref.ensures.value ∙ c.near.ensures.all) c.requires.whole.kept.are c.requires.rising c.deref-3.ensures
    c.near.ensures.front c.near.ensures.rest (map pair_of c.page_for.result.now) c.page_for.ensures.value
