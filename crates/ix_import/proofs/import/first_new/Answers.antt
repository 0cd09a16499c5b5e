use Rattle.std.proofs.Common.{rules, ◌≡◌, ◌+◌, ℕ, true, false, List, [], ◌∷◌, ◌++◌, take, ap, sym, ◌∙◌, arith}
use Rattle.std.specs.Option.{is_some}
use Rattle.std.proofs.lemmas.List.{take_more}
use Rattle.std.proofs.lemmas.Option.{slice_get_within, get_or_from_slice_get}
use Rattle.ix_types.specs.Row.{text_cmp}
use Rattle.ix_pages.specs.Pairs.{look_up}
use Rattle.ix_import.proofs.Taken.{next_at, more_taken}
use Rattle.ix_import.proofs.import.first_new.Goals as goal

pub returns-then-not-is_taken-clause-next : goal.returns-then-not-is_taken-clause-next
returns-then-not-is_taken-clause-next c =
    let no : c.is_taken.result ≡ false = search rules in
    next_at c.args.taken.now c.args.fresh.now c.loop-place.place c.loop-place.invariant.passed
    (λ name e. ap (λ (n : List ℕ). is_some (look_up text_cmp c.args.taken.now n)) (sym (c.index-fresh-place.is ∙ get_or_from_slice_get c.args.fresh.now c.loop-place.place name c.index-fresh-place.result e)) ∙ (sym c.is_taken.ensures ∙ no))

pub loop-place-preserved : goal.loop-place-preserved
loop-place-preserved c =
    let yes : c.is_taken.result ≡ true = search rules in
    record {
      forward = omega arith;
      passed = more_taken c.args.taken.now c.args.fresh.now c.loop-place.place c.index-fresh-place.result
          (take_more c.args.fresh.now c.loop-place.place c.index-fresh-place.result c.loop-place-test.true
          ∙ ap (λ (name : List ℕ). take c.loop-place.place c.args.fresh.now ++ name ∷ []) (sym c.index-fresh-place.is))
          c.loop-place.invariant.passed (sym c.is_taken.ensures ∙ yes);
    }

pub returns-clause-next : goal.returns-clause-next
returns-clause-next c =
    next_at c.args.taken.now c.args.fresh.now c.loop-place.place c.loop-place.invariant.passed
    (λ name e. absurd (omega (arith, slice_get_within c.args.fresh.now c.loop-place.place name e, c.loop-place-test.false)))
