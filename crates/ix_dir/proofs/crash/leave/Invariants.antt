use Rattle.std.proofs.Common.{◌≡◌, false, take}
use Rattle.ix_dir.specs.declared.area.Area.{Area}
use Rattle.ix_dir.specs.Crash.{LeavesOf, IsSettled}
use Rattle.ix_dir.specs.Moves.{area_after, same_area}
use Rattle.ix_dir.proofs.crash.leave.Given as goal

abbrev pub invariant-loop-i : goal.invariant-loop-i
invariant-loop-i l = record {
  leaves : LeavesOf l.pick l.moves l.area (take l.i l.name-items) (area_after l.left.moves l.area);
  others : (a : Area) → same_area a l.area ≡ false → area_after l.left.moves a ≡ area_after l.initial.left.moves a;
  settled : IsSettled l.initial.left.moves → IsSettled l.left.moves;
  state : l.left ≡ record l.initial.left { moves = l.left.moves };
}
