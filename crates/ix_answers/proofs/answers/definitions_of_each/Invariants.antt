use Rattle.std.proofs.Common.{◌≡◌, take}
use Rattle.std.specs.List.{flat_map}
use Rattle.ix_model.specs.Answer.{definitions}
use Rattle.ix_model.specs.Rows.{rows}
use Rattle.ix_answers.proofs.answers.definitions_of_each.Given as goal

-- the definitions of the USRs so far
abbrev pub invariant-loop-usr : goal.invariant-loop-usr
invariant-loop-usr l = l.chosen.items ≡ flat_map (λ usr. definitions usr (rows l.units.entries)) (take l.usr-index l.usr-items)
