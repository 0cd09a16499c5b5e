use Rattle.std.proofs.Common.{rules, ◌≡◌, ◌+◌, ℕ, List, [], ◌∷◌, arith}
use Rattle.std.proofs.lemmas.Result.{IfOk-weaker}
use Rattle.ix_types.specs.Row.{text_cmp}
use Rattle.ix_pages.specs.Paging.{pairs_of, pages_with}
use Rattle.ix_guard.specs.Counts.{count_at, times, AreCountPages}
use Rattle.ix_guard.proofs.Counting.{raised_pages, raised_sound}
use Rattle.ix_guard.proofs.recount.raise.Goals as goal

pub returns-clause-each : goal.returns-clause-each
returns-clause-each c =
    IfOk-weaker c.with.result (λ after. after ≡ pages_with text_cmp 64 c.args.before.now (c.args.name, c.in_ok-more.more))
    (λ after. (other : List ℕ) → count_at (pairs_of after) other ≡ count_at (pairs_of c.args.before.now) other + times other (c.args.name ∷ []))
    (λ after is. raised_pages c.args.before.now after c.args.name c.in_ok-more.more (c.pages_are_the_pairs.ensures.with 64 c.args.before.now (c.args.name, c.in_ok-more.more) c.requires.paged.rising) is (search rules))
    c.with.ensures

pub returns-clause-pages : goal.returns-clause-pages
returns-clause-pages c =
    IfOk-weaker c.with.result (λ after. after ≡ pages_with text_cmp 64 c.args.before.now (c.args.name, c.in_ok-more.more)) AreCountPages
    (λ after is.
    let more : c.in_ok-more.more ≡ count_at (pairs_of c.args.before.now) c.args.name + 1 = search rules in
    raised_sound c.args.before.now after c.args.name c.in_ok-more.more
    (c.pages_are_the_pairs.ensures.with 64 c.args.before.now (c.args.name, c.in_ok-more.more) c.requires.paged.rising)
    (c.pages_stay_pages.ensures.with 64 c.args.before.now (c.args.name, c.in_ok-more.more) (omega arith) c.requires.paged)
    is (omega (arith, more)) c.requires)
    c.with.ensures
