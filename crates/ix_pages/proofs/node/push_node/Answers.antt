use Rattle.std.proofs.Common.{◌∙◌, sym, ap, subst, length, slice_get}
use Rattle.ix_pages.specs.Paging.{pairs_of}
use Rattle.ix_pages.specs.Tree.{pages_of, AreKept}
use Rattle.ix_pages.proofs.Forks.{forks_pushed, fork_pages}
use Rattle.ix_pages.proofs.node.push_node.Goals as goal

pub returns-clause-nodes : goal.returns-clause-nodes
returns-clause-nodes g c =
    forks_pushed g.T.Part.pages g.T.Part.whole g.K.Key.head_of c.args.nodes.now.items c.push.new.self.items _ _ c.in-Some.child.now c.requires.nodes c.in_ok-push.ensures.items c.in_ok-part.ensures.ok c.in_ok-least-in-Some.ensures
    (c.in-Some.ensures.value ∙ ap (λ cs. slice_get cs 0) c.deref.ensures.value)
    (subst (λ e. AreKept g.T.Part.pages g.T.Part.whole g.K.Key.head_of e.key c.args.skip c.args.children.items) (sym c.in_ok-base.ensures) c.requires.children)
    (c.in_ok-count.ensures.pages ∙ ap (λ cs. length (pages_of g.T.Part.pages cs)) c.deref-2.ensures.value)
    (c.in_ok-count.ensures.pairs ∙ ap (λ cs. length (pairs_of (pages_of g.T.Part.pages cs))) c.deref-2.ensures.value)

pub returns-clause-pages : goal.returns-clause-pages
returns-clause-pages g c =
    fork_pages g.T.Part.pages g.T.Part.whole g.K.Key.head_of c.args.nodes.now.items c.push.new.self.items _ c.args.children.items c.in_ok-push.ensures.items (λ i. (c.in_ok-part.ensures.ok i).children.items)
