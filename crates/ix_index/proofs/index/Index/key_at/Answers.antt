use Rattle.std.proofs.Common.{ap, ◌∙◌, slice_get}
use Rattle.std.specs.Map.{keys_of}
use Rattle.ix_pages.specs.Paging.{pairs_of}
use Rattle.ix_index.proofs.Found.{key_found}
use Rattle.ix_index.proofs.index.Index.key_at.Goals as goal

pub returns-in-None : goal.returns-in-None
returns-in-None g c = key_found (pairs_of c.self.inside.pages) c.args.place _ c.in-None.ensures ∙ ap (λ es. slice_get (keys_of es) c.args.place) c.self.view_is

pub returns-in-Some : goal.returns-in-Some
returns-in-Some g c = key_found (pairs_of c.self.inside.pages) c.args.place _ c.in-Some.ensures ∙ ap (λ es. slice_get (keys_of es) c.args.place) c.self.view_is
