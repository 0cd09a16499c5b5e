use Rattle.std.proofs.Common.{◌∙◌, ap, slice_get}
use Rattle.ix_pages.proofs.Fronts.{page_pushed}
use Rattle.ix_pages.proofs.part.push_page.Goals as goal

pub returns-clause-pages : goal.returns-clause-pages
returns-clause-pages g c =
    page_pushed c.args.pages.now.items c.push.new.self.items _ c.args.entries.items c.in-Some.entry.now
    (c.in-Some.ensures.value ∙ ap (λ es. slice_get es 0) c.deref.ensures.value) c.in_ok-push.ensures.items (λ i. (c.in_ok-part.ensures.ok i).entries.items)
