use Rattle.std.proofs.Common.{◌∙◌}
use Rattle.ix_facts.proofs.Leases.{lease_is_sound, leased_as, leased_names, put_names, staged_same}
use Rattle.ix_facts.proofs.Memory.{kept_fields, kept_units}
use Rattle.ix_facts.proofs.facts.what_is_kept_is_the_states.Goals as goal
use Rattle.ix_facts.proofs.Told.{on_disk}

pub returns-clause-marks : goal.returns-clause-marks
returns-clause-marks c name_of s kept shelf known dir stands = kept_fields name_of s kept stands.keeps

pub returns-clause-units : goal.returns-clause-units
returns-clause-units c name_of s kept shelf known dir stands = kept_units name_of s kept stands.keeps

pub returns-clause-staged : goal.returns-clause-staged
returns-clause-staged c name_of s kept shelf known dir stands lane = staged_same name_of kept s stands.keeps lane

pub returns-clause-leased : goal.returns-clause-leased
returns-clause-leased c name_of s kept shelf known dir stands lane = leased_names c.given_of_guard.ensures name_of kept s stands.keeps lane

pub returns-clause-put : goal.returns-clause-put
returns-clause-put c name_of s kept shelf known dir stands lane = put_names c.given_of_guard.ensures name_of kept s stands.keeps lane

pub returns-clause-records : goal.returns-clause-records
returns-clause-records c name_of s kept shelf known dir moves stands told = (on_disk name_of s kept shelf known dir moves stands told).records

pub returns-clause-lanes : goal.returns-clause-lanes
returns-clause-lanes c name_of s kept shelf known dir stands lane = leased_as c.given_of_guard.ensures name_of kept s stands.keeps lane

pub returns-clause-leases : goal.returns-clause-leases
returns-clause-leases c name_of s kept shelf known dir stands lane lease is = let sound = lease_is_sound name_of s lane lease (stands.keeps.sound.leases lane) is in (sound.leased, sound.staged)

pub returns-clause-staged_slots : goal.returns-clause-staged_slots
returns-clause-staged_slots c name_of s kept shelf known dir stands lane unit is = stands.staged lane unit (staged_same name_of kept s stands.keeps lane ∙ is)
