use Rattle.std.proofs.Common.{◌∙◌, arith}
use Rattle.ix_pages.proofs.Forks.{entry_in_first, entry_in_rest}
use Rattle.ix_pages.proofs.node.+entry_in.Goals as goal

pub returns-then-place-child : goal.returns-then-place-child
returns-then-place-child g t c =
    c.entry_of.ensures ∙ entry_in_first g.T.Part.pages g.T.Part.whole c.args.children.now c.in-Some.rest.now c.in-Some.child.now c.deref.result.now c.args.place c.requires c.in-Some.ensures.cases.0 c.deref.ensures c.if-place-child.true

pub returns-else-place-child : goal.returns-else-place-child
returns-else-place-child g t c =
    c.entry_in.ensures ∙ entry_in_rest g.T.Part.pages g.T.Part.whole c.args.children.now c.in-Some.rest.now c.in-Some.child.now c.args.place c.requires c.in-Some.ensures.cases.0 c.if-place-child.false
