use Rattle.std.proofs.Common.{rules}
use Rattle.ix_outline.specs.Moving.{outlines_moved}
use Rattle.ix_tables.proofs.moves.outlines_moved.Goals as goal

pub returns : goal.returns
unfolding outlines_moved
returns c = search rules
