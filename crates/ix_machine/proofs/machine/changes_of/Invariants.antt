use Rattle.std.proofs.Common.{◌≡◌, map, take}
use Rattle.ix_model.specs.declared.publication.Publication.TheVariants as model
use Rattle.ix_machine.specs.Plain.{publication_of}
use Rattle.ix_machine.specs.PlainOpened.{found_unit}
use Rattle.ix_machine.proofs.machine.changes_of.Given as goal

abbrev pub invariant-loop-stored : goal.invariant-loop-stored
invariant-loop-stored l = map publication_of l.changes.items ≡ map (λ u. model.Put u.name (found_unit u)) (take l.stored-index l.units)
