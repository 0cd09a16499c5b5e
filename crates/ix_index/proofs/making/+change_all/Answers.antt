use Rattle.std.proofs.Common.{ap}
use Rattle.std.proofs.lemmas.Result.{on_ok_weaker}
use Rattle.ix_pages.specs.Paging.{pairs_of}
use Rattle.ix_index.specs.Dealing.{dealt_of}
use Rattle.ix_index.proofs.Made.{cut_made}
use Rattle.ix_index.proofs.making.+change_all.Goals as goal

pub returns : goal.returns
returns g t c =
    on_ok_weaker c.change_all-in-Cut.result
    (λ second. cut_made g.met.K.Ord.total g.met.V.Ord.total (pairs_of c.args.pages.now) c.args.parts c.into_inner.result c.into_inner-in-Cut.result c.in-Cut.left.value c.in-Cut.right.value c.in-Cut.field-1
    c.args.changes.now.items c.change_all.new.changes.items c.change_all-in-Cut.new.changes.items (ap dealt_of c.in-Cut.is)
    c.into_inner.ensures c.into_inner-in-Cut.ensures c.in_ok-change_all-in-Cut.ensures second)
    c.change_all-in-Cut.ensures
