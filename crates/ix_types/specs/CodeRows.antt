-- Rows as they lie in memory.
use Rattle.std.specs.Prelude.{List, map}
use Rattle.ix_types.specs.declared.code_table.CodeRow.{CodeRow}
use Rattle.ix_types.specs.Codes.{Table}

-- the table that contracts see of rows
abbrev pub seen : List CodeRow → Table
seen rows = map (λ row. (row.code, row.name.now)) rows
