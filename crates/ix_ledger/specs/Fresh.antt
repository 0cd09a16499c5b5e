-- Names of records that are new.
use Rattle.std.specs.Prelude.{ℕ, Bool, not, List, filter}
use Rattle.std.specs.List.{fold, flat_map}
use Rattle.ix_types.specs.Row.{text_cmp}
use Rattle.ix_unit.specs.declared.batch.UnitPut.{UnitPut}
use Rattle.ix_model.specs.SortedSet.{add_once, sorted_set}
use Rattle.ix_guard.specs.Counts.{Counts}
use Rattle.ix_guard.specs.Listing.{names_in}
use Rattle.ix_guard.specs.Protection.{list_needs}

-- whether the need list lacks the name
abbrev pub lacks : Counts → List ℕ → Bool
lacks needs name = not (list_needs name needs)

-- the names of the records of the units that were put, as often as they are listed
abbrev pub names_put : List UnitPut → List (List ℕ)
names_put puts = flat_map (λ put. names_in put.unit.value) puts

-- sorted names with more of them
abbrev pub with_names : List (List ℕ) → List (List ℕ) → List (List ℕ)
with_names names more = fold (λ set name. add_once text_cmp name set) names more

-- those that the need list lacks, rising, without repeats
abbrev pub fresh_of : Counts → List UnitPut → List (List ℕ)
fresh_of needs puts = sorted_set text_cmp (filter (lacks needs) (names_put puts))
