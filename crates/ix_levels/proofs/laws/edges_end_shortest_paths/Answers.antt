use Rattle.ix_model.specs.Rows.{rows}
use Rattle.ix_answers.specs.declared.walks.Walk.TheVariants.{Incoming, Outgoing}
use Rattle.ix_answers.specs.Paths.{turned}
use Rattle.ix_levels.proofs.Paths.{walked-has, edge-path, edge-shortest}
use Rattle.ix_levels.proofs.laws.edges_end_shortest_paths.Goals as goal

pub returns-clause-path : goal.returns-clause-path
returns-clause-path c = edge-path

pub returns-clause-shortest : goal.returns-clause-shortest
returns-clause-shortest c = edge-shortest

pub returns-clause-mirror : goal.returns-clause-mirror
returns-clause-mirror c units e =
    let first = walked-has Incoming (rows units) e.from 1 e in
    let turn = c.walks_are_those.ensures.mirror (rows units) e in
    let last = walked-has Outgoing (rows units) e.to 1 (turned e) in
    (λ k. last.1 (turn.0 (first.0 k)), λ k. first.1 (turn.1 (last.0 k)))
