use Rattle.std.proofs.Common.{◌≡◌, ◌||◌, [], ◌∷◌, map, sym, ap, ◌∙◌, rules}
use Rattle.std.specs.Map.Iter.{deref_pair}
use Rattle.std.proofs.lemmas.List.{map-append}
use Rattle.std.proofs.lemmas.Map.Iter.{iter_end}
use Rattle.ix_machine.specs.Needs.{units_need}
use Rattle.ix_model_run.proofs.Found.{needs_next}
use Rattle.ix_model_run.proofs.seen.are_needing.Goals as goal

pub returns : goal.returns
returns c =
    let all : map deref_pair c.loop-unit.yielded ≡ c.args.units.now.entries = search (rules, iter_end) in
    c.loop-unit.invariant ∙ ap (units_need c.args.name.now) all

pub loop-unit-preserved : goal.loop-unit-preserved
loop-unit-preserved c =
    c.either-needing.ensures
    ∙ ((λ i. c.loop-unit.invariant i || c.lists.ensures i)
    ∙ (sym (needs_next c.args.name.now (map deref_pair c.loop-unit.yielded) (c.in-Some._unit.now, c.in-Some.stored.now))
    ∙ sym (ap (units_need c.args.name.now) (map-append deref_pair c.loop-unit.yielded ((c.in-Some._unit, c.in-Some.stored) ∷ [])))))
