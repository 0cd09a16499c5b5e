-- The text of a check: a line for each sound unit, one for each refused unit file, and how many there are of both.
use Rattle.std.specs.Prelude.{ℕ, List, ◌++◌, length, map, codes}
use Rattle.std.specs.List.{flat_map}
use Rattle.std.specs.Fmt.{decimal}
use Rattle.ix_unit.specs.declared.value.UnitValue.{UnitValue}
use Rattle.ix_machine.specs.declared.opened.Refused.{Refused}
use Rattle.ix_machine.specs.Run.{Opening}
use Rattle.ix_opening.specs.Found.{unit_row}
use Rattle.ix_replays.specs.Text.{newline, refused_line, space}

-- a sound unit's name, and how many records it has
abbrev pub unit_line : List ℕ × UnitValue → List ℕ
unit_line unit = codes "unit " ++ unit.0 ++ space ++ decimal (length unit.1.records) ++ newline

-- how many sound units and how many refused unit files there are
abbrev pub checked_line : ℕ → ℕ → List ℕ
checked_line units refused = codes "checked " ++ decimal units ++ space ++ decimal refused ++ newline

-- the lines of these units and of these refused files
abbrev pub text_over : List (List ℕ × UnitValue) → List Refused → List ℕ
text_over units refused = flat_map unit_line units ++ flat_map refused_line refused ++ checked_line (length units) (length refused)

-- the text of what opening finds
abbrev pub check_text : Opening → List ℕ
check_text opening = text_over (map unit_row opening.units) opening.refused
