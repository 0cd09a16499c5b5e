use Rattle.ix_changes.proofs.Looking.{scan_puts, scan_goes, scan_stays, on_disk}
use Rattle.ix_changes.proofs.laws.a_scan_leads_to_what_is_visible.Goals as goal

pub returns-clause-come : goal.returns-clause-come
returns-clause-come c name_of s shelf moves put holds at = scan_puts c.given_looks.ensures name_of s moves (on_disk name_of s shelf moves holds) put at

pub returns-clause-go : goal.returns-clause-go
returns-clause-go c name_of s shelf moves known now name holds is gone = scan_goes c.given_looks.ensures name_of s moves (on_disk name_of s shelf moves holds) known now name is gone

pub returns-clause-stay : goal.returns-clause-stay
returns-clause-stay c name_of s shelf moves before known now puts name holds fresh stamps is names not_put not_gone =
    scan_stays c.given_looks.ensures name_of s moves (on_disk name_of s shelf moves holds) before known now stamps is name fresh puts names not_put not_gone
