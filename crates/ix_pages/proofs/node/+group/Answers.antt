use Rattle.std.proofs.Common.{◌≡◌, subst, OnOk}
use Rattle.ix_pages.specs.Tree.{pages_of, node_pages}
use Rattle.ix_pages.proofs.Forks.{in_groups}
use Rattle.ix_pages.proofs.node.+group.Goals as goal

pub returns-clause-pages : goal.returns-clause-pages
returns-clause-pages g t c =
    subst (λ p. OnOk c.group-2.result (pages_of (node_pages g.T.Part.pages) c.group-2.new.nodes.items ≡ p))
    (in_groups g.T.Part.pages c.split_at.result.0.now c.split_at.result.1.now c.args.children.now (pages_of (node_pages g.T.Part.pages) c.args.nodes.now.items) (pages_of (node_pages g.T.Part.pages) c.group.new.nodes.items) c.split_at.ensures.by_index.0 c.in_ok-group.ensures.pages)
    c.group-2.ensures.pages
