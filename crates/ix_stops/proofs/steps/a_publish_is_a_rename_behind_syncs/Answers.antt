use Rattle.ix_stops.proofs.MachineSteps.{publish_made}
use Rattle.ix_stops.proofs.steps.a_publish_is_a_rename_behind_syncs.Goals as goal

pub returns : goal.returns
returns c name_of s moves lane lease unit settled stepped records bytes stamp now stands sound has_lease staged taken ends synced spelled made =
    publish_made c.given.ensures c.given_steps.ensures name_of s moves stands lane unit sound lease has_lease staged settled stepped records bytes stamp taken ends synced spelled now made
