use Rattle.std.proofs.Common.{◌≡◌, ℕ, suc, ◌+◌, List, ◌++◌, map, take, drop, get_or, slice_set, ap, ◌∙◌, arith}
use Rattle.ix_answers.specs.Pattern.{folded_byte}
use Rattle.ix_query.proofs.Begun.{one_folded, not_yet}
use Rattle.ix_query.proofs.pattern.fold_bytes.Goals as goal

pub loop-byte-preserved : goal.loop-byte-preserved
loop-byte-preserved c =
    let bytes : List ℕ = c.args.bytes.now in
    let byte : c.folded_byte.result ≡ folded_byte (get_or bytes c.loop-byte.byte-index 0) =
    c.folded_byte.ensures ∙ ap folded_byte (ap (λ (xs : List ℕ). get_or xs c.loop-byte.byte-index 0) c.loop-byte.invariant ∙ not_yet folded_byte bytes c.loop-byte.byte-index c.loop-byte-test.true) in
    let next : suc c.loop-byte.byte-index ≡ c.loop-byte.byte-index + 1 = omega arith in
    (λ j. slice_set (c.loop-byte.invariant j) c.loop-byte.byte-index (byte j))
    ∙ (one_folded folded_byte bytes c.loop-byte.byte-index c.loop-byte-test.true ∙ ap (λ (k : ℕ). map folded_byte (take k bytes) ++ drop k bytes) next)
