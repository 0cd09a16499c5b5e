use Rattle.std.proofs.Common.{◌++◌, take, rules}
use Rattle.std.proofs.KnownBytes.{Appends-trans}
use Rattle.ix_io.proofs.Pieces.{on_err, moves_front, part_of_done}
use Rattle.ix_io.proofs.transfer.write_all.Goals as goal

pub returns-in_err-taken-clause-front : goal.returns-in_err-taken-clause-front
returns-in_err-taken-clause-front g c =
    let (done, split, appended, no_fault) = c.loop-rest.invariant in
    on_err c.from_residual.result (part_of_done _ _ _ _ done _ split (search rules) appended (c.in_err-taken.ensures.kept))

pub loop-rest-preserved : goal.loop-rest-preserved
loop-rest-preserved g c =
    let (done, split, appended, no_fault) = c.loop-rest.invariant in
    let rest = c.loop-rest.rest.now in
    let n = c.in_ok-taken.taken in
    (done ++ take n rest, moves_front _ done rest n split, Appends-trans _ _ _ _ _ appended c.in_ok-taken.ensures.grown, search rules)
