use Rattle.std.proofs.Common.{◌≡◌, ◌++◌, ℕ, List, map, OnOk, ap, subst, ◌∙◌}
use Rattle.ix_unit.specs.declared.value.RecordDep.{RecordDep}
use Rattle.ix_outline.specs.Facts.{Fact}
use Rattle.ix_index.specs.declared.steps.Step.{Step}
use Rattle.ix_tables.specs.Steps.{step_of}
use Rattle.ix_tables.proofs.Stepped.{made_twice}
use Rattle.ix_tables.proofs.gives.PlacingGivesUnitValueTextFileName.append.Goals as goal

pub returns : goal.returns
returns c =
    let step : Fact → Step (List ℕ) (List ℕ) = step_of {K = List ℕ} {V = List ℕ} c.args.gains in
    subst (λ (made : List (Step (List ℕ) (List ℕ))). OnOk c.append_placing.result (c.append_placing.new.steps.items ≡ c.args.steps.now.items ++ made))
    (made_twice step (λ (dep : RecordDep). (dep.path, dep.name)) c.as_slice.result.now ∙ ap (λ (xs : List (RecordDep)). map step (map (λ (dep : RecordDep). (dep.path, dep.name)) xs)) c.as_slice.ensures) c.append_placing.ensures
