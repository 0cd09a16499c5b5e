use Rattle.std.proofs.Common.{refl}
use Rattle.std.specs.BTreeMap.{is_at}
use Rattle.ix_types.specs.Row.{text_cmp}
use Rattle.ix_model.specs.declared.publication.StoredUnit.{StoredUnit}
use Rattle.ix_one_lane.proofs.Rows.{rows_among, spelled_by}
use Rattle.ix_one_lane.proofs.laws.visible_builds_have_their_rows.Goals as goal

pub returns : goal.returns
returns c name_of job units built =
    let stored : StoredUnit = record { unit = job.unit; values = built.values } in
    (stored, built.stands, refl, spelled_by job.bodies job.unit.records built.values built.spelled, λ row of_unit. rows_among (is_at (text_cmp (name_of job.unit.output))) stored row of_unit units built.stands)
