use Rattle.std.proofs.Common.{ℕ, List, [], ◌∷◌, Option, map, sym, ap, ◌∙◌}
use Rattle.std.specs.Map.Iter.{deref_pair}
use Rattle.std.proofs.lemmas.List.{map-append}
use Rattle.ix_machine.specs.Step.{name_with_output}
use Rattle.ix_model_run.specs.Kept.{or_named}
use Rattle.ix_model_run.proofs.Found.{named_next}
use Rattle.ix_model_run.proofs.known.name_with_output.Goals as goal

pub loop-name-preserved : goal.loop-name-preserved
loop-name-preserved c =
    c.or_named-found.ensures
    ∙ (ap (λ (o : Option (List ℕ)). or_named c.args.output.now o (c.in-Some.name.now, c.in-Some.stored.now)) c.loop-name.invariant
    ∙ (sym (named_next c.args.output.now (map deref_pair c.loop-name.yielded) (c.in-Some.name.now, c.in-Some.stored.now))
    ∙ sym (ap (name_with_output c.args.output.now) (map-append deref_pair c.loop-name.yielded ((c.in-Some.name, c.in-Some.stored) ∷ [])))))
