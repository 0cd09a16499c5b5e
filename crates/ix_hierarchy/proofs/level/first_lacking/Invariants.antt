use Rattle.std.proofs.Common.{◌≤◌, ◌-◌, take, length}
use Rattle.ix_answers.specs.Rising.{AreLoaded}
use Rattle.ix_lookups.specs.Loaded.{loaded_names}
use Rattle.ix_hierarchy.proofs.level.first_lacking.Given as goal

abbrev pub invariant-loop-place : goal.invariant-loop-place
invariant-loop-place l = record {
  forward : l.from ≤ l.place;
  passed : AreLoaded (loaded_names l.bodies) (take l.from l.needed) → AreLoaded (loaded_names l.bodies) (take l.place l.needed);
}

abbrev pub decreases-loop-place : goal.decreases-loop-place
decreases-loop-place l = length l.needed - l.place
