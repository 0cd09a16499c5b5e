-- What holds of all that jobs make.
use Rattle.std.specs.Prelude.{◌≡◌, ◌↔◌, true, List, Contains}
use Rattle.std.specs.List.{list_any}
use Rattle.std.specs.Str.{bytes_eq}
use Rattle.ix_record.specs.declared.body.Body.{Body}
use Rattle.ix_unit.specs.declared.value.RecordDep.{RecordDep}

-- one of the files has the dependency's name
abbrev pub IsWrittenIn : List Body → RecordDep → Type 0
IsWrittenIn bodies dep = list_any (λ body. bytes_eq body.name dep.name) bodies ≡ true

-- two lists have the same elements
abbrev pub ListSame : {A : Type 0} → List A → List A → Type 0
ListSame {A} first second = (each : A) → Contains first each ↔ Contains second each
