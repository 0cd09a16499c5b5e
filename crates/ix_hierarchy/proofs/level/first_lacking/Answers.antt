use Rattle.std.proofs.Common.{rules, ◌≡◌, ℕ, true, false, List, [], ◌∷◌, ◌++◌, take, ap, sym, ◌∙◌, arith}
use Rattle.std.proofs.lemmas.List.{take_more}
use Rattle.std.proofs.lemmas.Option.{slice_get_within, get_or_from_slice_get}
use Rattle.ix_answers.specs.Lookups.{is_among}
use Rattle.ix_lookups.specs.Loaded.{loaded_names}
use Rattle.ix_hierarchy.proofs.Passed.{lacking_at, more_loaded}
use Rattle.ix_hierarchy.proofs.level.first_lacking.Goals as goal

pub returns-then-not-is_loaded-clause-lacking : goal.returns-then-not-is_loaded-clause-lacking
returns-then-not-is_loaded-clause-lacking c passed =
    let loaded : List (List ℕ) = loaded_names c.args.bodies.now in
    let lacks : c.is_loaded.result ≡ false = search rules in
    lacking_at loaded c.args.needed.now c.loop-place.place (c.loop-place.invariant.passed passed)
    (λ name e. ap (is_among loaded) (sym (c.index-needed-place.is ∙ get_or_from_slice_get c.args.needed.now c.loop-place.place name c.index-needed-place.result e)) ∙ (sym c.is_loaded.ensures ∙ lacks))

pub loop-place-preserved : goal.loop-place-preserved
loop-place-preserved c =
    let loaded : List (List ℕ) = loaded_names c.args.bodies.now in
    let stands : c.is_loaded.result ≡ true = search rules in
    record {
      forward = omega arith;
      passed = λ passed. more_loaded loaded c.args.needed.now c.loop-place.place c.index-needed-place.result
          (take_more c.args.needed.now c.loop-place.place c.index-needed-place.result c.loop-place-test.true
          ∙ ap (λ (name : List ℕ). take c.loop-place.place c.args.needed.now ++ name ∷ []) (sym c.index-needed-place.is))
          (c.loop-place.invariant.passed passed) (sym c.is_loaded.ensures ∙ stands);
    }

pub returns-clause-lacking : goal.returns-clause-lacking
returns-clause-lacking c passed =
    lacking_at (loaded_names c.args.bodies.now) c.args.needed.now c.loop-place.place (c.loop-place.invariant.passed passed)
    (λ name e. absurd (omega (arith, slice_get_within c.args.needed.now c.loop-place.place name e, c.loop-place-test.false)))
