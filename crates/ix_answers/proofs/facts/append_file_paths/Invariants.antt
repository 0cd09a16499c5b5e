use Rattle.std.proofs.Common.{◌≡◌, ◌++◌, map, take}
use Rattle.ix_answers.specs.Facts.{listed_path}
use Rattle.ix_answers.proofs.facts.append_file_paths.Given as goal

abbrev pub invariant-loop-file : goal.invariant-loop-file
invariant-loop-file l = l.out.items ≡ l.initial.out.items ++ map (λ file. listed_path l.name l.stored file.path) (take l.file-index l.file-items)
