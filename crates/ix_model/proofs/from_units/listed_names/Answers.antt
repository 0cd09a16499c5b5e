use Rattle.std.proofs.Common.{Bor, List, ℕ, map, sym, ap, ◌∙◌}
use Rattle.std.specs.List.{flat_map}
use Rattle.std.specs.BTreeMap.{values}
use Rattle.std.proofs.lemmas.List.Folds.{flat_map-map}
use Rattle.std.proofs.lemmas.Map.Iter.{iter_end}
use Rattle.ix_model.specs.declared.publication.StoredUnit.{StoredUnit}
use Rattle.ix_model.proofs.from_units.listed_names.Goals as goal

pub returns : goal.returns
returns c =
    let ended = iter_end (λ (b : Bor StoredUnit). b.now) (values c.args.units.now) c.loop-stored.yielded c.into_iter-stored-iterator.result c.loop-stored.stored-iterator c.next.new.self c.next.result (c.into_iter-stored-iterator.ensures.into_iter_gives ∙ c.values-stored-items.ensures.rest) c.loop-stored.yielded_by c.in-None.is c.next.ensures.steps in
    let names_of : StoredUnit → List (List ℕ) = λ stored. map (λ dep. dep.name) stored.unit.records in
    c.loop-stored.invariant
    ∙ (sym (flat_map-map names_of (λ (b : Bor StoredUnit). b.now) c.loop-stored.yielded)
    ∙ (ap (flat_map names_of) ended.0
    ∙ flat_map-map names_of (λ e. e.1) c.args.units.now.entries))
