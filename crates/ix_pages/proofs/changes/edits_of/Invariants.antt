use Rattle.std.proofs.Common.{◌≡◌, map}
use Rattle.ix_pages.specs.Edits.{change_of}
use Rattle.ix_pages.proofs.changes.edits_of.Given as goal

abbrev pub invariant-loop-change : goal.invariant-loop-change
invariant-loop-change g l = map change_of l.edits.items ≡ l.yielded
