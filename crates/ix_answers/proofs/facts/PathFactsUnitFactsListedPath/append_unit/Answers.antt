use Rattle.std.proofs.Common.{map}
use Rattle.ix_answers.specs.Facts.{listed_path}
use Rattle.ix_answers.proofs.Loops.{joined}
use Rattle.ix_answers.proofs.facts.PathFactsUnitFactsListedPath.append_unit.Goals as goal

pub returns : goal.returns
returns c =
    joined c.args.out.now.items
    (map (λ dep. listed_path c.args.name.now c.args.stored.now dep.path) c.args.stored.now.unit.records)
    (map (λ file. listed_path c.args.name.now c.args.stored.now file.path) c.args.stored.now.unit.files)
    c.append_record_paths.new.out.items c.append_file_paths.new.out.items c.in_ok-append_record_paths.ensures c.in_ok-append_file_paths.ensures
