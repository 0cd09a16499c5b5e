use Rattle.std.proofs.Common.{◌≡◌, ◌++◌, ℕ, List, map, OnOk, ap, subst, ◌∙◌}
use Rattle.ix_unit.specs.declared.value.RecordDep.{RecordDep}
use Rattle.ix_unit.specs.declared.value.FileDep.{FileDep}
use Rattle.ix_outline.specs.Facts.{Fact}
use Rattle.ix_index.specs.declared.steps.Step.{Step}
use Rattle.ix_tables.specs.Steps.{step_of}
use Rattle.ix_tables.proofs.Stepped.{two_made}
use Rattle.ix_tables.proofs.gives.ListingGivesUnitValueTextFileName.append.Goals as goal

pub returns : goal.returns
returns c =
    let step : Fact → Step (List ℕ) (List ℕ) = step_of {K = List ℕ} {V = List ℕ} c.args.gains in
    let of_dep : RecordDep → Fact = λ dep. (dep.path, c.args.name.now) in
    let of_file : FileDep → Fact = λ file. (file.path, c.args.name.now) in
    subst (λ (made : List (Step (List ℕ) (List ℕ))). OnOk c.append_file_paths.result (c.append_file_paths.new.steps.items ≡ made))
    (two_made step of_dep of_file c.as_slice.result.now c.as_slice-2.result.now c.args.steps.now.items c.append_record_paths.new.steps.items c.in_ok-append_record_paths.ensures
    ∙ (ap (λ (xs : List RecordDep). c.args.steps.now.items ++ map step (map of_dep xs ++ map of_file c.as_slice-2.result.now)) c.as_slice.ensures
    ∙ ap (λ (ys : List FileDep). c.args.steps.now.items ++ map step (map of_dep c.args.value.now.records ++ map of_file ys)) c.as_slice-2.ensures))
    c.append_file_paths.ensures
