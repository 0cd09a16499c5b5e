use Rattle.std.proofs.Common.{◌≡◌, ◌++◌, ◌+◌, ◌∙◌, ap, drop}
use Rattle.ix_pages.specs.Tree.{pages_of}
use Rattle.ix_pages.proofs.Forks.{next_item, added_on}
use Rattle.ix_pages.proofs.node.add.Goals as goal

pub loop-child-preserved : goal.loop-child-preserved
loop-child-preserved g c =
    let i = c.loop-child.child-index in
    added_on g.T.Part.pages g.T.Part.whole g.K.Key.head_of c.args.base.now c.args.skip c.loop-child.made.items c.push.new.self.items (drop i c.args.children.now) (drop (i + 1) c.args.children.now) c.child-item.result c.in_ok-child.child
    (record c.in_ok-child.child { head = c.head.result }) (pages_of g.T.Part.pages c.args.made.now.items ++ pages_of g.T.Part.pages c.args.children.now) c.loop-child.invariant
    (next_item c.args.children.now i c.child-item.result c.loop-child-test.true c.child-item.is) c.in_ok-push.ensures.items c.in_ok-child.ensures
    (ap (λ h. record c.in_ok-child.child { head = h }) (c.head.ensures ∙ ap (λ e. g.K.Key.head_of e.key c.args.base.now c.args.skip) c.deref.ensures))
