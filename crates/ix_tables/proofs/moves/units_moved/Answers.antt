use Rattle.std.proofs.Common.{rules}
use Rattle.ix_outline.specs.Moving.{units_moved}
use Rattle.ix_tables.proofs.moves.units_moved.Goals as goal

pub returns : goal.returns
unfolding units_moved
returns c = search rules
