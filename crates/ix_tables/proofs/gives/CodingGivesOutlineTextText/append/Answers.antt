use Rattle.std.proofs.Common.{◌≡◌, ◌++◌, ◌==◌, ℕ, List, not, length, map, filter, OnOk, ap, subst, ◌∙◌}
use Rattle.ix_outline.specs.declared.outline.OutlineSymbol.{OutlineSymbol}
use Rattle.ix_outline.specs.Facts.{Fact}
use Rattle.ix_index.specs.declared.steps.Step.{Step}
use Rattle.ix_tables.specs.Steps.{step_of}
use Rattle.ix_tables.proofs.Stepped.{made_twice}
use Rattle.ix_tables.proofs.gives.CodingGivesOutlineTextText.append.Goals as goal

pub returns : goal.returns
returns c =
    let step : Fact → Step (List ℕ) (List ℕ) = step_of {K = List ℕ} {V = List ℕ} c.args.gains in
    subst (λ (made : List (Step (List ℕ) (List ℕ))). OnOk c.append_coding.result (c.append_coding.new.steps.items ≡ c.args.steps.now.items ++ made))
    (made_twice step (λ (s : OutlineSymbol). (s.codegen, s.usr)) (filter (λ (s : OutlineSymbol). not (length s.codegen == 0)) c.as_slice.result.now) ∙ ap (λ (xs : List (OutlineSymbol)). map step (map (λ (s : OutlineSymbol). (s.codegen, s.usr)) (filter (λ (s : OutlineSymbol). not (length s.codegen == 0)) xs))) c.as_slice.ensures) c.append_coding.ensures
