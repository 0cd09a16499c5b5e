use Rattle.std.proofs.Common.{◌≡◌, take}
use Rattle.ix_machine.specs.PlainOpened.{files_of}
use Rattle.ix_model_run.proofs.known.files_of.Given as goal

abbrev pub invariant-loop-body : goal.invariant-loop-body
invariant-loop-body l = l.files.entries ≡ files_of (take l.body-index l.bodies)
