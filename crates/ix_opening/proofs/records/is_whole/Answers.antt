use Rattle.ix_opening.proofs.RecordsOfAUnit.{not_whole, no_value_of}
use Rattle.ix_opening.proofs.records.is_whole.Goals as goal
use Rattle.ix_opening.proofs.records.is_whole.Goals.{in-Ok, in-Err+in_ok-told_of_bytes-in-Err}

pub returns-clause-damaged : goal.returns-clause-damaged
returns-clause-damaged g c =
    elim c.match-decode.branch [
      | in-Ok w ↦ λ e. let is = w.result-is in cc
      | in-Err+in_ok-told_of_bytes-in-Err w ↦ λ e.
          not_whole g.N.Naming.name_of c.args.name c.args.bytes.now (no_value_of c.args.bytes.now w.in-Err.error w.in_ok-told_of_bytes-in-Err.ensures.bytes w.in-Err.ensures.fault)
    ]
