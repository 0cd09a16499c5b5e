use Rattle.std.proofs.Common.{refl, ap}
use Rattle.ix_machine.specs.declared.event.Call.TheVariants as call
use Rattle.ix_library.specs.Endings.{name_of_unit}
use Rattle.ix_facts.proofs.Playing.{runs_join}
use Rattle.ix_facts.proofs.runs.a_run_as_worked.Goals as goal

pub returns-clause-shown : goal.returns-clause-shown
returns-clause-shown c name_of s name = refl

pub returns-clause-named : goal.returns-clause-named
returns-clause-named c name_of s lane unit output body = (refl, refl, refl, λ staged. ap (λ o. call.Publish (name_of_unit name_of o)) staged)

pub returns-clause-none : goal.returns-clause-none
returns-clause-none c name_of s lane turns = refl

pub returns-clause-first : goal.returns-clause-first
returns-clause-first c name_of s earlier later front rest = runs_join name_of earlier s later front rest
