use Rattle.std.proofs.lemmas.Result.{on_ok_weaker}
use Rattle.ix_pages.specs.Paging.{pairs_of}
use Rattle.ix_index.proofs.Made.{part_made}
use Rattle.ix_index.proofs.making.change.Goals as goal

pub returns : goal.returns
returns g c =
    on_ok_weaker c.add_changes.result
    (λ made. part_made g.met.K.Ord.total g.met.V.Ord.total (pairs_of c.args.pages.now) c.args.steps.items c.new-revisions.result.items c.revise.new.revisions.items c.args.changes.now.items c.add_changes.new.changes.items
    c.in_ok-revise.ensures c.new-revisions.ensures.items made)
    c.add_changes.ensures
