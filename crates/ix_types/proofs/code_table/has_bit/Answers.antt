use Rattle.std.proofs.Common.{◌≡◌, ◌+◌, ◌/◌, ◌^◌, ◌<◌, ◌≤◌, refl, arith, zero-add}
use Rattle.std.proofs.Math.Pow.{pow_mono}
use Rattle.std.proofs.lemmas.Bool.{le-ltb}
use Rattle.std.proofs.lemmas.Nat.{shr_below}
use Rattle.ix_types.proofs.code_table.has_bit.Goals as goal

pub returns-else-bit-lt32 : goal.returns-else-bit-lt32
returns-else-bit-lt32 c =
    let large : 2 ^ 32 ≤ 2 ^ c.args.bit = pow_mono c.if-bit-lt32.false in
    let above : c.args.bits < 2 ^ (0 + c.args.bit) = rw (zero-add c.args.bit) (omega arith) in
    let gone : c.args.bits / 2 ^ c.args.bit < 2 ^ 0 = shr_below c.args.bits 0 c.args.bit above in
    let zero_left : c.args.bits / 2 ^ c.args.bit ≡ 0 = omega arith in
    rw (le-ltb c.args.bit 32 c.if-bit-lt32.false, zero_left) refl
