use Rattle.std.proofs.Common.{◌≡◌, map, take}
use Rattle.std.specs.List.{list_any}
use Rattle.ix_model.specs.Units.{units_at}
use Rattle.ix_machine.specs.Needs.{option_any, units_need}
use Rattle.ix_machine.specs.Plain.{publication_of}
use Rattle.ix_machine.proofs.parts.needs_any.Given as goal

-- whether one of the marks so far does
abbrev pub invariant-loop-mark : goal.invariant-loop-mark
invariant-loop-mark l = l.needed ≡ list_any (option_any (λ m. units_need l.name (units_at (map publication_of l.changes) m))) (take l.mark-index l.marks)
