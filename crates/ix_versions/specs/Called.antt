-- Where something is called.
use Rattle.std.specs.Prelude.{◌≡◌, Contains}
use Rattle.std.specs.Int.{bit_at}
use Rattle.ix_types.specs.declared.row.RelRow.{RelRow}
use Rattle.ix_types.specs.declared.row.OccRow.{OccRow}

-- something calls the row's symbol there: a relation of it has CalledBy, bit 13
pub record IsCalled (row : OccRow) : Type 0 where
  pub relation : RelRow
  pub has_relation : Contains row.relations relation
  pub is_called : bit_at relation.roles 13 ≡ 1
