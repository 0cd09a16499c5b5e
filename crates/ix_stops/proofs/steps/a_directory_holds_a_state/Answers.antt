use Rattle.ix_stops.proofs.Whole.{settled_where_none_pends}
use Rattle.ix_stops.proofs.steps.a_directory_holds_a_state.Goals as goal

pub returns-clause-records : goal.returns-clause-records
returns-clause-records c name_of s moves name stands = stands.records name

pub returns-clause-units : goal.returns-clause-units
returns-clause-units c name_of s moves stands = stands.disk.unit_files

pub returns-clause-settled : goal.returns-clause-settled
returns-clause-settled c name_of s moves stands none = settled_where_none_pends name_of s moves stands none

pub returns-clause-counts : goal.returns-clause-counts
returns-clause-counts c from base publications moves = (
  λ counts. (counts.within, counts.none_waits, counts.each),
  λ parts. record { within = parts.0; none_waits = parts.1; each = parts.2 },
)

pub returns-clause-prefix : goal.returns-clause-prefix
returns-clause-prefix c name_of publications least most image = (
  λ p. (p.count, p.enough, p.within, p.units, p.refused),
  λ parts. record { count = parts.0; enough = parts.1; within = parts.2; units = parts.3; refused = parts.4 },
)
