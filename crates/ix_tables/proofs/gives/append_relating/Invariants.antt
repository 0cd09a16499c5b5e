use Rattle.std.proofs.Common.{◌≡◌, ◌++◌, map, take}
use Rattle.ix_tables.specs.Steps.{step_of}
use Rattle.ix_tables.proofs.gives.append_relating.Given as goal

abbrev pub invariant-loop-usr : goal.invariant-loop-usr
invariant-loop-usr l = l.steps.items ≡ l.initial.steps.items ++ map (λ usr. step_of l.gains (usr, l.name)) (take l.usr-index l.usrs)
