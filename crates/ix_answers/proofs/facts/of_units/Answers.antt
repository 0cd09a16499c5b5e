use Rattle.std.proofs.Common.{◌≡◌, List, ℕ, map, rules}
use Rattle.std.specs.Map.Iter.{deref_pair}
use Rattle.std.proofs.lemmas.Map.Iter.{iter_end}
use Rattle.ix_model.specs.declared.publication.StoredUnit.{StoredUnit}
use Rattle.ix_answers.proofs.Loops.{all_seen}
use Rattle.ix_answers.proofs.facts.of_units.Goals as goal

pub returns : goal.returns
returns g c =
    let all : map deref_pair c.loop-name.yielded ≡ c.args.units.now.entries = search (rules, iter_end) in
    all_seen deref_pair (λ (entry : List ℕ × StoredUnit). g.F.UnitFacts.of_unit entry.0 entry.1) c.loop-name.yielded c.args.units.now.entries c.loop-name.all.items c.loop-name.invariant all
