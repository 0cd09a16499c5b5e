-- What opening found, as the definitions see it.
use Rattle.std.specs.Prelude.{List, [], map}
use Rattle.std.specs.List.{fold}
use Rattle.std.specs.BTreeMap.{insert_entry}
use Rattle.ix_types.specs.Row.{text_cmp}
use Rattle.ix_record.specs.declared.body.Body.{Body}
use Rattle.ix_model.specs.declared.publication.StoredUnit.{StoredUnit}
use Rattle.ix_machine.specs.declared.opened.Opened.{Opened}
use Rattle.ix_machine.specs.declared.opened.StoredUnit as code
use Rattle.ix_machine.specs.Run.{Opening}
use Rattle.ix_machine.specs.State.{Files}

abbrev pub found_unit : code.StoredUnit → StoredUnit
found_unit stored = record { unit = stored.unit.value; values = map (λ v. v.value) stored.values }

-- one record file more, in the place of an earlier one of its name
abbrev pub with_file : Files → Body → Files
with_file files body = insert_entry text_cmp files body.name body.bytes

-- the record files by name
abbrev pub files_of : List Body → Files
files_of bodies = fold with_file [] bodies

abbrev pub opening_of : Opened → Opening
opening_of opened = record {
  units = map (λ stored. (stored.name, found_unit stored)) opened.units;
  refused = opened.refused;
  records = files_of opened.records;
}
