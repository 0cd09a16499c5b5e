use Rattle.std.proofs.Common.{rules}
use Rattle.ix_io.proofs.Pieces.{on_err, takes_more}
use Rattle.ix_io.proofs.transfer.read_up_to.Goals as goal

pub returns-in_err-read_piece-clause-front : goal.returns-in_err-read_piece-clause-front
returns-in_err-read_piece-clause-front g c =
    let before = c.loop-bytes.invariant in
    on_err c.from_residual.result (takes_more _ _ _ _ _ _ before.taken c.in_err-read_piece.ensures.front (search rules))
