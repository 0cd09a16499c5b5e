use Rattle.std.proofs.Common.{◌≡◌, [], fold}
use Rattle.ix_model.specs.Units.{changed}
use Rattle.ix_model.proofs.publication.units_at.Given as goal

-- the units after the changes so far
abbrev pub invariant-loop-publication : goal.invariant-loop-publication
invariant-loop-publication l = l.units.entries ≡ fold changed [] l.yielded
