use Rattle.std.proofs.Common.{◌≡◌, ap, sym, ◌∙◌, subst, refl}
use Rattle.ix_dir.specs.declared.area.Area.TheVariants.{Units, Records}
use Rattle.ix_dir.specs.Crash.{IsPicked, LeavesOf, names_since}
use Rattle.ix_dir.specs.Moves.{area_after}
use Rattle.ix_dir.proofs.PickIsAnImage.{image_ok}
use Rattle.ix_dir.proofs.memory.MemoryDir.stopped.Goals as goal

pub returns-clause-possible : goal.returns-clause-possible
returns-clause-possible c =
    let moves = c.args.self.now.moves in
    let same : c.deref.result.now ≡ moves = c.deref.ensures.value ∙ ap (λ d. d.moves) c.self.view_is in
    let same_again : c.deref-2.result.now ≡ moves = c.deref-2.ensures.value ∙ ap (λ d. d.moves) c.self.view_is in
    let units : LeavesOf c.args.pick moves Units (names_since moves Units) (area_after c.leave.new.left.moves Units) =
    subst (λ ms. LeavesOf c.args.pick ms Units (names_since ms Units) (area_after c.leave.new.left.moves Units)) same c.in_ok-leave.ensures.leaves in
    let records : LeavesOf c.args.pick moves Records (names_since moves Records) (area_after c.leave-2.new.left.moves Records) =
    subst (λ ms. LeavesOf c.args.pick ms Records (names_since ms Records) (area_after c.leave-2.new.left.moves Records)) same_again c.in_ok-leave-2.ensures.leaves in
    let picked : IsPicked c.args.pick moves c.leave-2.new.left.moves = elim [
      | Units ↦ subst (LeavesOf c.args.pick moves Units (names_since moves Units)) (sym (c.in_ok-leave-2.ensures.others Units refl)) units
      | Records ↦ records
    ] in
    image_ok c.args.pick moves c.leave-2.new.left.moves picked
