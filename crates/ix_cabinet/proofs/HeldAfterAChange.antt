-- An area that held units alone before a change holds them alone after it, whatever was answered.
use Rattle.std.proofs.Common.{◌≡◌, List, refl, sym, ap, subst, Option, Some, None, IfSome, OnOk, OnErr, Result, Ok, Err}
use Rattle.std.proofs.lemmas.Option.{same_Some}
use Rattle.ix_types.specs.declared.failures.Failed.{Failed}
use Rattle.ix_dir.specs.declared.moves.Move.{Move}
use Rattle.ix_dir.specs.State.{DirState, spent, failed}
use Rattle.ix_dir.specs.WhatAChangeLeaves.{AddsTo, IfTold}
use Rattle.ix_cabinet.specs.declared.change.Settled.{Settled}

same_moves : (before now : DirState) (r : Result Settled Failed) → OnErr r (now ≡ failed (spent before)) → OnErr r (now.moves ≡ before.moves)
same_moves before now (Ok s) same = tt
same_moves before now (Err e) same = ap (λ d. d.moves) same

module _ (H : List Move → Type 0) (P : List Move → List Move → Type 0) where
  held_by : (before now : Option (List Move)) (r : Result Settled Failed) → ((b n : List Move) → before ≡ Some b → H b → P b n → H n) → IfSome before H → AddsTo before now → OnErr r (now ≡ before) → OnOk r (IfTold before now P) → IfSome now H
  held_by before None r step held adds same left = tt
  held_by None (Some n) r step held adds same left = absurd adds
  held_by (Some b) (Some n) (Ok s) step held adds same left = step b n refl held left
  held_by (Some b) (Some n) (Err e) step held adds same left = subst H (sym (same_Some n b same)) held

  pub held_after : (before now : DirState) (r : Result Settled Failed) → ((b n : List Move) → before.moves ≡ Some b → H b → P b n → H n) → IfSome before.moves H → AddsTo before.moves now.moves → OnErr r (now ≡ failed (spent before))
      → OnOk r (IfTold before.moves now.moves P) → IfSome now.moves H
  held_after before now r step held adds same left = held_by before.moves now.moves r step held adds (same_moves before now r same) left
