use Rattle.std.specs.Map.{keys_of}
use Rattle.ix_machine.specs.Needs.{has_name, settled}
use Rattle.ix_machine.specs.Needs as machine
use Rattle.ix_machine.specs.State.{lease_of}
use Rattle.ix_guard.specs.OfMachine.{guarding_of}
use Rattle.ix_guard.proofs.AsMachine.{needed_as, protected_as, guarded_as, first_as, leased_alone}
use Rattle.ix_guard.proofs.laws.the_guard_agrees_with_the_machine.Goals as goal

pub returns-clause-needed : goal.returns-clause-needed
returns-clause-needed c s name = needed_as c.answers_are_sorted_sets.ensures.texts name s

pub returns-clause-protected : goal.returns-clause-protected
returns-clause-protected c s name = protected_as c.answers_are_sorted_sets.ensures.texts s name

pub returns-clause-guarded : goal.returns-clause-guarded
returns-clause-guarded c name_of s lane name sound = guarded_as c.answers_are_sorted_sets.ensures.texts s lane name (leased_alone name_of s.records (lease_of s lane) (sound.leases lane))

pub returns-clause-first : goal.returns-clause-first
returns-clause-first c s first rises least = first_as (guarding_of (settled s)) (machine.is_protected (settled s)) (protected_as c.answers_are_sorted_sets.ensures.texts (settled s)) (keys_of s.records) rises first least
