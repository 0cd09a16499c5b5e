use Rattle.std.proofs.Common.{take, vec_len, ap, sym, ◌∙◌}
use Rattle.ix_types.specs.CodeRows.{seen}
use Rattle.ix_types.specs.Codes.{words_of}
use Rattle.ix_types.proofs.Words.{next_set, next_clear, front_kept, on_err}
use Rattle.ix_types.proofs.code_table.push_names.Goals as goal
use Rattle.ix_types.proofs.code_table.push_names.Goals.{then-has_bit+in_ok-push_name, else-has_bit}

pub returns-in_err-push_name-clause-front : goal.returns-in_err-push_name-clause-front
returns-in_err-push_name-clause-front c =
    on_err c.from_residual.result
    (front_kept c.args.out.now.items c.loop-row.out.items c.push_name.new.out.items (words_of (seen (take c.loop-row.row-index c.args.rows.now)) c.args.bits) (vec_len c.args.out.now) (vec_len c.loop-row.out)
    c.args.out.now.ok.0 c.loop-row.out.ok.0 c.loop-row.invariant.words c.in_err-push_name.ensures.front)

pub loop-row-preserved : goal.loop-row-preserved
loop-row-preserved c =
    elim c.if-has_bit.branch [
      | then-has_bit+in_ok-push_name w ↦
          next_set c.args.out.now.items c.loop-row.out.items c.if-has_bit.out.items c.loop-row.first c.if-has_bit.first c.args.rows.now c.loop-row.row-index _ c.args.bits c.loop-row.invariant c.loop-row-test.true
          (sym c.has_bit.ensures ∙ w.if-has_bit.true) (ap (λ v. v.items) w.out-is ∙ w.in_ok-push_name.ensures.name) w.first-is
      | else-has_bit w ↦
          next_clear c.args.out.now.items c.loop-row.out.items c.if-has_bit.out.items c.loop-row.first c.if-has_bit.first c.args.rows.now c.loop-row.row-index _ c.args.bits c.loop-row.invariant c.loop-row-test.true
          (sym c.has_bit.ensures ∙ w.if-has_bit.false) (ap (λ v. v.items) w.out-is) w.first-is
    ]
