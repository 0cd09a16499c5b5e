use Rattle.std.proofs.Common.{◌≡◌, ◌++◌, map, take}
use Rattle.ix_tables.specs.Steps.{step_of}
use Rattle.ix_tables.proofs.gives.append_file_paths.Given as goal

abbrev pub invariant-loop-file : goal.invariant-loop-file
invariant-loop-file l = l.steps.items ≡ l.initial.steps.items ++ map (λ file. step_of l.gains (file.path, l.name)) (take l.file-index l.files)
