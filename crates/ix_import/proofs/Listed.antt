-- A record of units is one that they list.
use Rattle.std.proofs.Common.{◌≡◌, ℕ, zero, suc, ◌<◌, List, [], ◌∷◌, length, map, get_or, Contains, refl, ap, arith}
use Rattle.std.proofs.lemmas.Option.{slice_get_within, get_or_from_slice_get}
use Rattle.ix_record.specs.declared.value.RecordValue.{RecordValue}
use Rattle.ix_unit.specs.declared.value.RecordDep.{RecordDep}
use Rattle.ix_model.specs.Units.{Units}
use Rattle.ix_answers.specs.Meanings.{IsRecord}
use Rattle.ix_outline.specs.Known.{Lists, bare}

mapped : {X Y : Type 0} (f : X → Y) (xs : List X) (i : ℕ) (x : X) → i < length xs → get_or xs i x ≡ x → Contains (map f xs) (f x)
mapped f [] i x below is = absurd (omega arith)
mapped f (y ∷ ys) zero x below is = (zero, omega arith, ap f is)
mapped f (y ∷ ys) (suc i) x below is = let r = mapped f ys i x (omega arith) is in (suc r.0, omega (arith, r.1), r.2)

pub listed_of_record : (units : Units) (dep : RecordDep) (value : RecordValue) → IsRecord units dep value → Lists (map bare units) dep.name
listed_of_record units dep value r = record {
  entry = bare r.entry;
  of_units = mapped bare units r.of_units.0 r.entry r.of_units.1 r.of_units.2;
  dep = dep;
  lists = (r.place, slice_get_within r.entry.1.unit.records r.place dep r.lists, get_or_from_slice_get r.entry.1.unit.records r.place dep dep r.lists);
  has_name = refl;
}
