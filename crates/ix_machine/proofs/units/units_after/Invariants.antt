use Rattle.std.proofs.Common.{◌≡◌, take}
use Rattle.ix_machine.specs.PlainMap.{shown}
use Rattle.ix_machine.proofs.Seen.{map_after}
use Rattle.ix_machine.proofs.units.units_after.Given as goal

-- the units after the changes so far
abbrev pub invariant-loop-change : goal.invariant-loop-change
invariant-loop-change l = shown l.units.entries ≡ map_after (take l.change-index l.change-items)
