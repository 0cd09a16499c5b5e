use Rattle.ix_stops.proofs.MachineSteps.{removed_made, nothing_made}
use Rattle.ix_stops.proofs.steps.a_collect_is_a_removal_behind_a_sync.Goals as goal

pub returns-clause-removed : goal.returns-clause-removed
returns-clause-removed c name_of s moves lane stepped name stands sound taken ends = removed_made c.given.ensures c.given_steps.ensures name_of s moves stands sound lane stepped taken name ends

pub returns-clause-nothing : goal.returns-clause-nothing
returns-clause-nothing c name_of s moves lane stepped stands sound taken ends = nothing_made c.given.ensures c.given_steps.ensures name_of s moves stands sound lane stepped taken ends
