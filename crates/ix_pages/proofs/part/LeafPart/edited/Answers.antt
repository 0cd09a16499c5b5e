use Rattle.std.proofs.Common.{◌≡◌, subst, IfOk}
use Rattle.ix_pages.specs.Tree.{leaf_pages, pages_of}
use Rattle.ix_pages.proofs.Fronts.{leaf_changed}
use Rattle.ix_pages.proofs.part.LeafPart.edited.Goals as goal

pub returns-clause-pages : goal.returns-clause-pages
returns-clause-pages g c =
    subst (λ p. IfOk c.edited_pairs.result (λ parts. pages_of leaf_pages parts.items ≡ p))
    (leaf_changed g.K.Ord.cmp c.args.most c.args.self.now.entries.items c.deref.result.now c.args.edits.now c.requires.some c.deref.ensures.value) c.edited_pairs.ensures.pages
