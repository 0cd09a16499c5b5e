use Rattle.std.proofs.Common.{ℕ, Option, None, refl}
use Rattle.std.proofs.lemmas.List.{length-replicate}
use Rattle.ix_machine.specs.State.{Lease}
use Rattle.ix_machine.proofs.Begun.{found_visible}
use Rattle.ix_machine.proofs.Runs.{none_at}
use Rattle.ix_machine.proofs.laws.a_run_begins_with_what_is_found.Goals as goal

pub returns-clause-pending : goal.returns-clause-pending
returns-clause-pending c = λ opening lanes. refl

pub returns-clause-imported : goal.returns-clause-imported
returns-clause-imported c = λ opening lanes. refl

pub returns-clause-current : goal.returns-clause-current
returns-clause-current c = λ opening lanes. refl

pub returns-clause-leased : goal.returns-clause-leased
returns-clause-leased c = λ opening lanes lane. let none : Option Lease = None in none_at none lanes lane

pub returns-clause-held : goal.returns-clause-held
returns-clause-held c = λ opening lanes lane. let none : Option ℕ = None in none_at none lanes lane

pub returns-clause-lanes : goal.returns-clause-lanes
returns-clause-lanes c = λ opening lanes. let no_lease : Option Lease = None in let no_hold : Option ℕ = None in (length-replicate lanes no_lease, length-replicate lanes no_hold)

pub returns-clause-units : goal.returns-clause-units
returns-clause-units c = found_visible

pub returns-clause-records : goal.returns-clause-records
returns-clause-records c = λ name_of units records lanes. refl

pub returns-clause-publications : goal.returns-clause-publications
returns-clause-publications c = λ opening lanes. refl
