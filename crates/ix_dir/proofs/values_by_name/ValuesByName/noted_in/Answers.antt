use Rattle.std.proofs.Common.{◌<◌, ℕ, List, length, map, refl, ap, ◌∙◌, arith}
use Rattle.ix_dir.specs.Images.{values_of}
use Rattle.ix_dir.specs.NotedInOneWalk.{held}
use Rattle.ix_dir.specs.ValuesByNumber.{value_at}
use Rattle.ix_dir.proofs.ValuesAfterAMove.{values_more, take_full}
use Rattle.ix_dir.proofs.values_by_name.ValuesByName.noted_in.Goals as goal

pub loop-number-init : goal.loop-number-init
loop-number-init c = record {
  holds = λ q. rw c.new.ensures.empty (record { held = refl; later = omega arith; older = tt });
  values = λ q. rw c.new.ensures.empty refl;
}

pub loop-number-preserved : goal.loop-number-preserved
loop-number-preserved c =
    let moves = c.args.moves.now in
    let inv = c.loop-number.invariant in
    let old = c.loop-number.pending in
    let small : c.loop-number.number < length moves = omega arith in
    let after = λ (q : List ℕ). c.in_ok-note.ensures q (held old q) (inv.holds q) in
    record {
      holds = λ q. record { held = refl; later = (after q).later; older = (after q).older };
      values = λ q.
          ap (map (value_at moves)) (after q).held
          ∙ values_more moves c.args.area q (held old q) c.loop-number.number c.index-moves-number.result small c.index-moves-number.is (inv.values q);
    }

pub returns : goal.returns
returns c q = c.loop-number.invariant.values q ∙ ap (λ ms. values_of ms c.args.area q) (take_full c.args.moves.now c.loop-number.number (omega arith))
