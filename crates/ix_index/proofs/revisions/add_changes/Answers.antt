use Rattle.std.proofs.Common.{◌≡◌, ◌++◌, map, sym, subst, ◌∙◌}
use Rattle.std.specs.List.{AllByRecursion}
use Rattle.std.proofs.lemmas.Iterator.Adapters.{YieldsList-from_vec}
use Rattle.std.proofs.lemmas.Iterator.Consumers.{YieldsList-end}
use Rattle.ix_pages.specs.Paging.{pairs_of}
use Rattle.ix_index.specs.Recounting.{change_made, AreRecounts}
use Rattle.ix_index.proofs.Revising.{made_more}
use Rattle.ix_index.proofs.Sorted.{map_same}
use Rattle.ix_index.proofs.revisions.add_changes.Goals as goal

pub loop-revision-preserved : goal.loop-revision-preserved
loop-revision-preserved g c =
    made_more g.V.Ord.cmp g.met.K.Ord.total (pairs_of c.args.pages.now) c.args.changes.now.items c.loop-revision.yielded c.in-Some.revision c.loop-revision.changes.items c.push.new.self.items c.in_ok-change.change
    c.loop-revision.invariant c.in_ok-change.ensures c.in_ok-push.ensures.items

pub returns : goal.returns
returns g c =
    let all = YieldsList-end
    (YieldsList-from_vec {s = c.into_iter-revision-iterator.result} c.args.revisions.items c.into_iter-revision-iterator.ensures.into_iter_gives.0 (c.into_iter-revision-iterator.ensures.into_iter_gives.1 ∙ c.args.revisions.ok.0))
    c.loop-revision.yielded c.loop-revision.revision-iterator c.loop-revision.yielded_by c.next.result c.next.new.self c.in-None.is c.next.ensures.steps in
    subst (λ rs. AllByRecursion (λ revision. AreRecounts g.V.Ord.cmp revision.recounts) rs → c.loop-revision.changes.items ≡ c.args.changes.now.items ++ map (change_made g.K.Ord.cmp g.V.Ord.cmp (pairs_of c.args.pages.now)) rs)
    (sym (map_same c.loop-revision.yielded) ∙ all.0) c.loop-revision.invariant
