use Rattle.std.proofs.Common.{◌≡◌, ◌-◌, ◌≤◌, ℕ, List, [], ◌∷◌, ap, subst, arith}
use Rattle.std.proofs.lemmas.Result.{IfOk-weaker}
use Rattle.ix_types.specs.Row.{text_cmp}
use Rattle.ix_pages.specs.Paging.{pairs_of, pages_with, pages_without}
use Rattle.ix_guard.specs.Counts.{count_at, times, AreCountPages}
use Rattle.ix_guard.proofs.Counting.{lowered_pages, taken_pages, raised_sound, taken_sound}
use Rattle.ix_guard.proofs.recount.lower.Goals as goal

pub returns-then-now-le1-clause-each : goal.returns-then-now-le1-clause-each
returns-then-now-le1-clause-each c =
    IfOk-weaker c.without.result (λ after. after ≡ pages_without text_cmp c.args.before.now c.args.name)
    (λ after. (other : List ℕ) → count_at (pairs_of after) other ≡ count_at (pairs_of c.args.before.now) other - times other (c.args.name ∷ []))
    (λ after is. taken_pages c.args.before.now after c.args.name (c.pages_are_the_pairs.ensures.without c.args.before.now c.args.name c.requires.paged.rising) is c.requires.paged.rising (subst (λ (n : ℕ). n ≤ 1) c.count-now.ensures c.if-now-le1.true))
    c.without.ensures

pub returns-else-now-le1-clause-each : goal.returns-else-now-le1-clause-each
returns-else-now-le1-clause-each c =
    IfOk-weaker c.with.result (λ after. after ≡ pages_with text_cmp 64 c.args.before.now (c.args.name, c.count-now.result - 1))
    (λ after. (other : List ℕ) → count_at (pairs_of after) other ≡ count_at (pairs_of c.args.before.now) other - times other (c.args.name ∷ []))
    (λ after is. lowered_pages c.args.before.now after c.args.name (c.count-now.result - 1) (c.pages_are_the_pairs.ensures.with 64 c.args.before.now (c.args.name, c.count-now.result - 1) c.requires.paged.rising) is (ap (λ (n : ℕ). n - 1) c.count-now.ensures))
    c.with.ensures

pub returns-then-now-le1-clause-pages : goal.returns-then-now-le1-clause-pages
returns-then-now-le1-clause-pages c =
    IfOk-weaker c.without.result (λ after. after ≡ pages_without text_cmp c.args.before.now c.args.name) AreCountPages
    (λ after is. taken_sound c.args.before.now after c.args.name
    (c.pages_are_the_pairs.ensures.without c.args.before.now c.args.name c.requires.paged.rising)
    (c.pages_stay_pages.ensures.without 64 c.args.before.now c.args.name c.requires.paged)
    is c.requires)
    c.without.ensures

pub returns-else-now-le1-clause-pages : goal.returns-else-now-le1-clause-pages
returns-else-now-le1-clause-pages c =
    IfOk-weaker c.with.result (λ after. after ≡ pages_with text_cmp 64 c.args.before.now (c.args.name, c.count-now.result - 1)) AreCountPages
    (λ after is. raised_sound c.args.before.now after c.args.name (c.count-now.result - 1)
    (c.pages_are_the_pairs.ensures.with 64 c.args.before.now (c.args.name, c.count-now.result - 1) c.requires.paged.rising)
    (c.pages_stay_pages.ensures.with 64 c.args.before.now (c.args.name, c.count-now.result - 1) (omega arith) c.requires.paged)
    is (omega (arith, c.if-now-le1.false)) c.requires)
    c.with.ensures
