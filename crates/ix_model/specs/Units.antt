-- Publications, and the units that are visible after some of them.
use Rattle.std.specs.Prelude.{ℕ, ◌+◌, ◌≡◌, ◌≢◌, List, [], ◌∷◌, ◌++◌, length, take, map, Option}
use Rattle.std.specs.List.{fold, flat_map}
use Rattle.std.specs.List.Sorted.{IsStrictlySortedBy}
use Rattle.std.specs.Map.{lookup, keys_of, remove_entry}
use Rattle.std.specs.BTreeMap.{insert_entry, is_at}
use Rattle.ix_types.specs.Row.{text_cmp}
use Rattle.ix_model.specs.declared.publication.StoredUnit.{StoredUnit}
use Rattle.ix_model.specs.declared.publication.Publication.{Publication}
use Rattle.ix_model.specs.declared.publication.Publication.TheVariants.{Put, Gone}
use Rattle.ix_model.specs.SortedSet.{sorted_set}

-- a finite map from names to units: pairs that rise by name
abbrev pub Units : Type 0
Units = List (List ℕ × StoredUnit)

-- the units after one more change
abbrev pub changed : Units → Publication → Units
changed units (Put name unit) = insert_entry text_cmp units name unit
changed units (Gone name) = remove_entry (is_at (text_cmp name)) units

-- the units after the first n publications
abbrev pub units_at : List Publication → ℕ → Units
units_at publications n = fold changed [] (take n publications)

-- the unit of a name
abbrev pub unit_named : List ℕ → Units → Option StoredUnit
unit_named name units = lookup (is_at (text_cmp name)) units

-- the name whose unit a publication changes
abbrev pub changed_name : Publication → List ℕ
changed_name (Put name unit) = name
changed_name (Gone name) = name

-- the units after all of the publications
abbrev pub units_after : List Publication → Units
units_after earlier = units_at earlier (length earlier)

-- the units after all of the publications and one more
abbrev pub units_after_last : List Publication → Publication → Units
units_after_last earlier last = units_at (earlier ++ last ∷ []) (length earlier + 1)

-- each name but one has the unit that it had
abbrev pub KeepsOtherNames : List ℕ → Units → Units → Type 0
KeepsOtherNames name before after = (other : List ℕ) → name ≢ other → unit_named other after ≡ unit_named other before

-- the names stand in rising order, and none of them twice
abbrev pub NamesRise : Units → Type 0
NamesRise units = IsStrictlySortedBy text_cmp (keys_of units)

-- the names of the records that the units need, rising
abbrev pub needs : Units → List (List ℕ)
needs units = sorted_set text_cmp (flat_map (λ entry. map (λ dep. dep.name) entry.1.unit.records) units)
