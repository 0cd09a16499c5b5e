use Rattle.std.proofs.Common.{◌≡◌, List, ◌++◌, [], ◌∷◌, ℕ, Some, None, refl, sym, ap, ◌∙◌}
use Rattle.ix_unit.specs.declared.value.RecordDep.{RecordDep}
use Rattle.ix_unit.specs.declared.value.FileDep.{FileDep}
use Rattle.ix_unit.specs.ByKind.{as_unit, as_record, as_file}
use Rattle.ix_unit.proofs.Merged.{gives_one, gives_none}
use Rattle.ix_unit.proofs.reading.part_by_kind.Goals as goal

pub loop-dependency-preserved-in-Continue-1 : goal.loop-dependency-preserved-in-Continue-1
loop-dependency-preserved-in-Continue-1 c =
    let l = c.loop-dependency in
    let d = c.in-Some.dependency in
    let u = c.in-Unit.output in
    let one : as_unit d ≡ Some u = rw c.in-Unit.is refl in
    let no_record : as_record d ≡ None = rw c.in-Unit.is refl in
    let no_file : as_file d ≡ None = rw c.in-Unit.is refl in (
      c.in_ok-push-in-Unit.ensures.items ∙ ap (λ (xs : List (List ℕ)). xs ++ u ∷ []) l.invariant.0 ∙ sym (gives_one as_unit l.yielded d u one),
      l.invariant.1 ∙ sym (gives_none as_record l.yielded d no_record),
      l.invariant.2 ∙ sym (gives_none as_file l.yielded d no_file),
    )

pub loop-dependency-preserved-in-Continue-branch-2 : goal.loop-dependency-preserved-in-Continue-branch-2
loop-dependency-preserved-in-Continue-branch-2 c =
    let l = c.loop-dependency in
    let d = c.in-Some.dependency in
    let r = c.in-Record.dep in
    let one : as_record d ≡ Some r = rw c.in-Record.is refl in
    let no_unit : as_unit d ≡ None = rw c.in-Record.is refl in
    let no_file : as_file d ≡ None = rw c.in-Record.is refl in (
      l.invariant.0 ∙ sym (gives_none as_unit l.yielded d no_unit),
      c.in_ok-push-in-Record.ensures.items ∙ ap (λ (xs : List RecordDep). xs ++ r ∷ []) l.invariant.1 ∙ sym (gives_one as_record l.yielded d r one),
      l.invariant.2 ∙ sym (gives_none as_file l.yielded d no_file),
    )

pub loop-dependency-preserved : goal.loop-dependency-preserved
loop-dependency-preserved c =
    let l = c.loop-dependency in
    let d = c.in-Some.dependency in
    let f = c.in-File.dep in
    let one : as_file d ≡ Some f = rw c.in-File.is refl in
    let no_unit : as_unit d ≡ None = rw c.in-File.is refl in
    let no_record : as_record d ≡ None = rw c.in-File.is refl in (
      l.invariant.0 ∙ sym (gives_none as_unit l.yielded d no_unit),
      l.invariant.1 ∙ sym (gives_none as_record l.yielded d no_record),
      c.in_ok-push-in-File.ensures.items ∙ ap (λ (xs : List FileDep). xs ++ f ∷ []) l.invariant.2 ∙ sym (gives_one as_file l.yielded d f one),
    )
