use Rattle.std.proofs.Common.{map, take}
use Rattle.ix_guard.specs.Protection.{IsFirstLoose}
use Rattle.ix_guard.proofs.guard.Guard.first_loose.Given as goal

-- the least loose one of those so far
abbrev pub invariant-loop-listed : goal.invariant-loop-listed
invariant-loop-listed l = IsFirstLoose l.self (map (λ listed. listed.name) (take l.listed-index l.listed-items)) l.first
