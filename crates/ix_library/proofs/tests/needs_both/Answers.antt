use Rattle.std.proofs.Common.{◌≡◌, ℕ, Bool, true, List, sym, subst, ◌∙◌}
use Rattle.std.specs.List.{AllByRecursion}
use Rattle.std.specs.Cmp.Lexicographic.{same_text}
use Rattle.ix_unit.specs.declared.value.RecordDep.{RecordDep}
use Rattle.ix_library.proofs.FewRecords.{two}
use Rattle.ix_library.proofs.tests.needs_both.Goals as goal

pub returns-then-eq : goal.returns-then-eq
returns-then-eq c same test h k =
    subst (λ (deps : List RecordDep). AllByRecursion (λ (d : RecordDep). test d.name ≡ true) deps) c.as_slice.ensures
    (two test c.as_slice.result.now c.dep-item.result c.other-item.result c.args.first c.args.second c.in-len2.len_at_least c.in-len2.len_below c.dep-item.is c.other-item.is
    (same_text c.dep-item.result.name c.args.first (sym (sym c.eq.ensures ∙ c.if-eq.true))) (same_text c.other-item.result.name c.args.second (sym (sym c.eq-then-eq.ensures ∙ same))) h k)
