use Rattle.std.proofs.Common.{◌≡◌, sym, subst, ◌∙◌}
use Rattle.std.proofs.lemmas.Iterator.Adapters.{YieldsList-from_vec}
use Rattle.std.proofs.lemmas.Iterator.Consumers.{YieldsList-end}
use Rattle.ix_index.specs.Recounting.{all_recounted, AreRecounts}
use Rattle.ix_index.proofs.Merging.{walk_step, walk_end}
use Rattle.ix_index.proofs.Sorted.{map_same}
use Rattle.ix_index.proofs.postings.recounted.Goals as goal

pub loop-recount-preserved : goal.loop-recount-preserved
loop-recount-preserved g c = record {
  rising = c.in_ok-rest.ensures.rising;
  made = walk_step g.V.Ord.cmp c.args.before c.loop-recount.yielded c.in-Some.recount c.loop-recount.rest c.in_ok-rest.rest c.loop-recount.after c.recount_one.new.after c.loop-recount.invariant.made c.in_ok-rest.ensures.recounted;
}

pub returns : goal.returns
returns g c rise =
    let all = YieldsList-end
    (YieldsList-from_vec {s = c.into_iter-recount-iterator.result} c.into_vec-recounts.result.items c.into_iter-recount-iterator.ensures.into_iter_gives.0 (c.into_iter-recount-iterator.ensures.into_iter_gives.1 ∙ c.into_vec-recounts.result.ok.0))
    c.loop-recount.yielded c.loop-recount.recount-iterator c.loop-recount.yielded_by c.next.result c.next.new.self c.in-None.is c.next.ensures.steps in
    let done : c.args.recounts ≡ c.loop-recount.yielded = sym c.into_vec-recounts.ensures ∙ sym all.0 ∙ map_same c.loop-recount.yielded in
    subst (λ rs. c.append.new.self ≡ all_recounted g.V.Ord.cmp c.args.before rs) (sym done)
    (walk_end g.V.Ord.cmp c.args.before c.loop-recount.yielded c.loop-recount.rest c.loop-recount.after c.append.new.self c.loop-recount.invariant.made c.in_ok-append.ensures (subst (AreRecounts g.V.Ord.cmp) done rise))
