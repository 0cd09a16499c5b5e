-- What the ten look-ups find: those of some tables, and those from scratch.
use Rattle.std.specs.Prelude.{ℕ, List, map, Option, slice_get}
use Rattle.std.specs.Map.{lookup}
use Rattle.std.specs.BTreeMap.{is_at}
use Rattle.ix_types.specs.Row.{text_cmp}
use Rattle.ix_unit.specs.declared.value.UnitValue.{UnitValue}
use Rattle.ix_model.specs.Units.{Units}
use Rattle.ix_answers.specs.Lookups as scratch

-- what each look-up finds, whichever way it is kept
pub record Found : Type 0 where
  -- of a USR, the records that hold a symbol of it
  pub providers : List ℕ → List (List ℕ)
  -- of a USR, the records with a relation to it
  pub related : List ℕ → List (List ℕ)
  -- of a name, the USRs that symbols of that name have
  pub named : List ℕ → List (List ℕ)
  -- of a code generation name, the USRs that symbols of it have
  pub coded : List ℕ → List (List ℕ)
  -- of a path, the records that are listed under it
  pub in_path : List ℕ → List (List ℕ)
  -- of a record, the paths under which it is listed
  pub paths : List ℕ → List (List ℕ)
  -- of a path, the units that list it as a record's or a file's
  pub listing : List ℕ → List (List ℕ)
  -- the names of symbols, in order
  pub names : List (List ℕ)
  -- the units with their names, in order of these
  pub units : List (List ℕ × UnitValue)

-- the name at a place
abbrev pub name_at : ℕ → Found → Option (List ℕ)
name_at place found = slice_get found.names place

-- the unit at a place, with its name
abbrev pub unit_at : ℕ → Found → Option (List ℕ × UnitValue)
unit_at place found = slice_get found.units place

-- the unit of a name
abbrev pub unit : List ℕ → Found → Option UnitValue
unit name found = lookup (is_at (text_cmp name)) found.units

-- what the look-ups find in a map of units
abbrev pub found_in : Units → Found
found_in units = record {
  providers = λ usr. scratch.providers usr units;
  related = λ usr. scratch.related usr units;
  named = λ name. scratch.named name units;
  coded = λ codegen. scratch.coded codegen units;
  in_path = λ path. scratch.in_path path units;
  paths = λ name. scratch.paths name units;
  listing = λ path. scratch.listing path units;
  names = scratch.names units;
  units = map (λ entry. (entry.0, entry.1.unit)) units;
}
