use Rattle.std.proofs.Common.{◌≡◌, ℕ, Bool, true, List, sym, subst, ◌∙◌}
use Rattle.std.specs.List.{AllByRecursion}
use Rattle.std.specs.Cmp.Lexicographic.{same_text}
use Rattle.ix_unit.specs.declared.value.RecordDep.{RecordDep}
use Rattle.ix_library.proofs.FewRecords.{one}
use Rattle.ix_library.proofs.tests.needs_alone.Goals as goal

pub returns-in-len1 : goal.returns-in-len1
returns-in-len1 c same test h =
    subst (λ (deps : List RecordDep). AllByRecursion (λ (d : RecordDep). test d.name ≡ true) deps) c.as_slice.ensures
    (one test c.as_slice.result.now c.dep-item.result c.args.name c.in-len1.len_at_least c.in-len1.len_below c.dep-item.is (same_text c.dep-item.result.name c.args.name (sym (sym c.eq.ensures ∙ same))) h)
