use Rattle.std.proofs.Common.{◌≤◌, ◌-◌, take, length}
use Rattle.ix_import.specs.Importing.{AreTaken}
use Rattle.ix_import.proofs.import.first_new.Given as goal

abbrev pub invariant-loop-place : goal.invariant-loop-place
invariant-loop-place l = record { forward : l.from ≤ l.place; passed : AreTaken l.taken (take l.place l.fresh) }

abbrev pub decreases-loop-place : goal.decreases-loop-place
decreases-loop-place l = length l.fresh - l.place
