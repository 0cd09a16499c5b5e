-- What units need, they need whatever the values of their records are.
use Rattle.std.proofs.Common.{◌≡◌, ℕ, List, [], ◌∷◌, ◌++◌, map, refl, ap}
use Rattle.ix_types.specs.Row.{text_cmp}
use Rattle.ix_unit.specs.declared.batch.UnitPut.{UnitPut}
use Rattle.ix_model.specs.SortedSet.{sorted_set}
use Rattle.ix_model.specs.Units.{Units}
use Rattle.ix_guard.specs.Counts.{times}
use Rattle.ix_guard.specs.Listing.{names_in, names_in_all, units_put, need_list_of}
use Rattle.ix_ledger.specs.Handles.{named_puts}
use Rattle.ix_ledger.specs.Kept.{as_units}
use Rattle.ix_ledger.specs.OfState.{named_of}

names_same : (units : Units) → names_in_all (as_units (named_of units)) ≡ names_in_all units
names_same [] = refl
names_same (e ∷ es) = ap (λ (rest : List (List ℕ)). names_in e.1.unit ++ rest) (names_same es)

pub list_same : (units : Units) → need_list_of (as_units (named_of units)) ≡ need_list_of units
unfolding need_list_of
list_same units = ap (λ (names : List (List ℕ)). map (λ name. (name, times name names)) (sorted_set text_cmp names)) (names_same units)

pub nothing_needed : [] ≡ need_list_of []
unfolding need_list_of
nothing_needed = refl

-- the units that were put, by way of their map
pub puts_same : (puts : List UnitPut) → units_put puts ≡ as_units (named_puts puts)
puts_same [] = refl
puts_same (p ∷ ps) = ap (λ (rest : Units). (p.name, record { unit = p.unit.value; values = [] }) ∷ rest) (puts_same ps)
