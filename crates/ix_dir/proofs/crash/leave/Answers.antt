use Rattle.std.proofs.Common.{◌<◌, ap, sym, ◌∙◌, subst, length, arith, refl}
use Rattle.ix_dir.specs.Crash.{LeavesOf, IsSettled, value_for}
use Rattle.ix_dir.specs.Images.{values_of}
use Rattle.ix_dir.specs.Moves.{area_after}
use Rattle.ix_dir.specs.ValuesByNumber.{left_with}
use Rattle.ix_dir.proofs.WhatACrashLeaves.{leaves_none, leaves_step, left_settled, left_others, left_state, names_distinct, IsDistinctNames}
use Rattle.ix_dir.proofs.ValuesAfterAMove.{take_full}
use Rattle.ix_dir.proofs.crash.leave.Goals as goal

pub loop-i-init : goal.loop-i-init
loop-i-init c = record {
  leaves = leaves_none c.args.pick c.args.moves.now c.args.area (area_after c.args.left.now.moves c.args.area) c.requires;
  others = λ a e. refl;
  settled = λ s. s;
  state = refl;
}

pub loop-i-preserved : goal.loop-i-preserved
loop-i-preserved c =
    let names = c.deref-name-items.result.now in
    let inv = c.loop-i.invariant in
    let name = c.name-item.result in
    let v = value_for c.args.pick c.loop-i.i (values_of c.args.moves.now c.args.area name) in
    let after = c.in_ok-leave_name.ensures.ok ∙ ap (left_with c.loop-i.left c.args.area name) (c.value_left-value.ensures c.args.area c.in_ok-pending.ensures) in
    let distinct = subst IsDistinctNames (sym (c.deref-name-items.ensures.value ∙ c.in_ok-names.ensures c.args.area c.in_ok-pending.ensures)) (names_distinct c.args.moves.now c.args.area) in
    let small : c.loop-i.i < length names = omega arith in
    record {
      leaves = leaves_step c.args.pick c.args.moves.now c.args.area c.loop-i.left c.leave_name.new.left names c.loop-i.i name distinct small c.name-item.is inv.leaves after;
      others = λ a e. ap (λ d. area_after d.moves a) after ∙ left_others c.loop-i.left c.args.area name v a e ∙ inv.others a e;
      settled = λ s. subst (λ d. IsSettled d.moves) (sym after) (left_settled c.loop-i.left c.args.area name v (inv.settled s));
      state = left_state c.args.left.now c.loop-i.left c.leave_name.new.left c.args.area name v after inv.state;
    }

pub returns-clause-leaves : goal.returns-clause-leaves
returns-clause-leaves c =
    let names = c.deref-name-items.result.now in
    subst (λ ns. LeavesOf c.args.pick c.args.moves.now c.args.area ns (area_after c.loop-i.left.moves c.args.area))
    (take_full names c.loop-i.i (omega arith) ∙ c.deref-name-items.ensures.value ∙ c.in_ok-names.ensures c.args.area c.in_ok-pending.ensures) c.loop-i.invariant.leaves
