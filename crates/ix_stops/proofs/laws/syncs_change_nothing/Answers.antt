use Rattle.ix_stops.proofs.Shapes.{syncs_areas, settled_records, settled_units, syncs_disk, syncs_leave}
use Rattle.ix_stops.proofs.laws.syncs_change_nothing.Goals as goal

pub returns-clause-areas : goal.returns-clause-areas
returns-clause-areas c moves records units area = syncs_areas c.given.ensures moves records units area

pub returns-clause-records : goal.returns-clause-records
returns-clause-records c moves records units settled = settled_records c.given.ensures moves (λ name. name) records units settled

pub returns-clause-units : goal.returns-clause-units
returns-clause-units c moves records units settled = settled_units c.given.ensures moves (λ name. name) records units settled

pub returns-clause-disk : goal.returns-clause-disk
returns-clause-disk c name_of pending publications moves records units disk = syncs_disk c.given.ensures moves name_of publications pending disk records units

pub returns-clause-leaves : goal.returns-clause-leaves
returns-clause-leaves c name_of pending publications moves records units disk = syncs_leave c.given.ensures moves name_of publications pending disk records units
