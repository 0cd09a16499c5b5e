use Rattle.std.proofs.Common.{◌≡◌, take}
use Rattle.ix_jobs.specs.Made.{joined_roles}
use Rattle.ix_jobs.proofs.records.joined_roles.Given as goal

abbrev pub invariant-loop-relation : goal.invariant-loop-relation
invariant-loop-relation l = l.roles ≡ joined_roles l.fn.first (take l.relation-index l.relations)
