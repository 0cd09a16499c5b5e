-- The plain machine: what its fields stand for.
use Rattle.std.specs.Prelude.{ℕ, Bool, List, map}
use Rattle.std.specs.List.{list_any}
use Rattle.std.specs.Map.{remove_entry}
use Rattle.std.specs.BTreeMap.{insert_entry, is_at}
use Rattle.std.specs.Str.{bytes_eq}
use Rattle.ix_types.specs.Row.{text_cmp}
use Rattle.ix_unit.specs.declared.value.UnitValue.{UnitValue}
use Rattle.ix_model.specs.declared.publication.Publication.{Publication}
use Rattle.ix_model.specs.declared.publication.Publication.TheVariants as model
use Rattle.ix_model.specs.Units.{Units}
use Rattle.ix_machine.specs.declared.units.Change.{Change}
use Rattle.ix_machine.specs.declared.units.Change.TheVariants.{Put, Gone}

-- the publication that a change is
abbrev pub publication_of : Change → Publication
publication_of (Put name unit values) = model.Put name (record { unit = unit.value; values = map (λ v. v.value) values })
publication_of (Gone name) = model.Gone name

-- units by name, without the values of their records
abbrev pub UnitMap : Type 0
UnitMap = List (List ℕ × UnitValue)

abbrev pub unit_map : Units → UnitMap
unit_map units = map (λ entry. (entry.0, entry.1.unit)) units

-- one change more
abbrev pub changed_map : UnitMap → Publication → UnitMap
changed_map units (model.Put name stored) = insert_entry text_cmp units name stored.unit
changed_map units (model.Gone name) = remove_entry (is_at (text_cmp name)) units

-- whether one of the units lists the record
abbrev pub map_needs : List ℕ → UnitMap → Bool
map_needs name units = list_any (λ entry. list_any (λ dep. bytes_eq dep.name name) entry.1.records) units
