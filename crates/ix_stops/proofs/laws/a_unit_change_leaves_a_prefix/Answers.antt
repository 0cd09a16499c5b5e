use Rattle.ix_stops.proofs.Shapes.{unit_put, unit_gone}
use Rattle.ix_stops.proofs.laws.a_unit_change_leaves_a_prefix.Goals as goal

pub returns-clause-put : goal.returns-clause-put
returns-clause-put c name_of pending publications moves records units name bytes stamp stored settled disk settled_records settled_units spelled named values now made =
    unit_put c.given.ensures moves name_of publications pending disk records units settled_records settled_units name bytes stamp stored spelled named values settled now made

pub returns-clause-gone : goal.returns-clause-gone
returns-clause-gone c name_of pending publications moves units name stored settled disk settled_units is now made =
    unit_gone c.given.ensures moves name_of publications pending disk units settled_units name stored is settled now made
