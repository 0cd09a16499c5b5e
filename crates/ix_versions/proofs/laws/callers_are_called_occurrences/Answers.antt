use Rattle.std.proofs.Common.{refl, sym, ap, subst}
use Rattle.ix_types.specs.declared.row.OccRow.{OccRow}
use Rattle.ix_types.specs.declared.row.Row.{Row}
use Rattle.ix_types.specs.declared.row.Row.TheVariants.{Occ, Path, Unit as UnitRow, Edge}
use Rattle.ix_answers.specs.Meanings.{IsCall, IsOccurrence, IsRowOf}
use Rattle.ix_model.specs.Rows.{rows}
use Rattle.ix_versions.proofs.laws.callers_are_called_occurrences.Goals as goal

-- the row of an occurrence
abbrev occurrence_in : OccRow → Row → OccRow
occurrence_in other (Occ row) = row
occurrence_in other (Path path) = other
occurrence_in other (UnitRow name) = other
occurrence_in other (Edge e) = other

-- of a row of an occurrence is true what is true of that occurrence
of-row : (P : OccRow → Type 0) (row : OccRow) → IsRowOf P (Occ row) → P row
of-row P row is = subst P (sym (ap (occurrence_in row) is.1)) is.2

pub returns : goal.returns
returns c usr roles units row shares = (
  λ called.
      let call = of-row (IsCall usr (rows units)) row ((c.rows_are_those.ensures.callers usr units (Occ row)).0 called) in (
        (c.rows_are_those.ensures.occ usr roles units (Occ row)).1 (row, refl, record { of_all = call.of_all; of_usr = call.of_usr; has_role = shares }),
        record { relation = call.relation; has_relation = call.has_relation; is_called = call.is_called },
      ),
  λ both.
      let occurs = of-row (IsOccurrence usr roles (rows units)) row ((c.rows_are_those.ensures.occ usr roles units (Occ row)).0 both.0) in
      (c.rows_are_those.ensures.callers usr units (Occ row)).1
      (row, refl, record { of_all = occurs.of_all; of_usr = occurs.of_usr; relation = both.1.relation; has_relation = both.1.has_relation; is_called = both.1.is_called }),
)
