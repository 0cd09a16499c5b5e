use Rattle.std.proofs.Common.{◌≡◌, map, take}
use Rattle.ix_model.specs.declared.publication.Publication.TheVariants as model
use Rattle.ix_machine.specs.PlainOpened.{found_unit}
use Rattle.ix_model_run.proofs.known.publications_of.Given as goal

abbrev pub invariant-loop-stored : goal.invariant-loop-stored
invariant-loop-stored l = l.publications.items ≡ map (λ u. model.Put u.name (found_unit u)) (take l.stored-index l.units)
