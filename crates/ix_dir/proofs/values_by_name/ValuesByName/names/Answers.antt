use Rattle.std.proofs.Common.{ap, ◌∙◌, filter, arith}
use Rattle.ix_dir.specs.NotedInOneWalk.{is_there}
use Rattle.ix_dir.proofs.NamesNoted.{names_are}
use Rattle.ix_dir.proofs.ValuesAfterAMove.{take_full}
use Rattle.ix_dir.proofs.values_by_name.ValuesByName.names.Goals as goal

pub returns : goal.returns
returns c area is =
    let names = c.as_slice-name-items.result.now in
    let kept = filter (is_there c.args.moves.now c.args.self.now) in
    c.loop-name.invariant
    ∙ ap kept (take_full names c.loop-name.name-index (omega arith) ∙ c.as_slice-name-items.ensures ∙ c.keys.ensures.rest)
    ∙ names_are c.args.moves.now area c.args.self.now is
