use Rattle.std.proofs.Common.{◌≡◌, ◌≢◌, ◌==◌, ◌*◌, ◌<◌, ℕ, zero, suc, true, not, refl, ap, ◌∙◌, arith, bit_and}
use Rattle.std.proofs.lemmas.Nat.Bits.{and_pow, bit_at-lt}
use Rattle.std.specs.Int.{bit_at}
use Rattle.ix_types.proofs.SharedBits.{shared, not_none}
use Rattle.ix_types.proofs.laws.a_common_bit_is_set.Goals as goal

is_some : (n : ℕ) → not (n == 0) ≡ true → n ≢ 0
is_some zero e = cc e
is_some (suc n) e = λ is. cc is

some_is : (n : ℕ) → n ≢ 0 → not (n == 0) ≡ true
some_is zero some = absurd (some refl)
some_is (suc n) some = grind arith

one_bit : (bit : ℕ) → bit < 2 → not (bit * 2 == 0) ≡ (bit == 1)
one_bit zero small = refl
one_bit (suc zero) small = refl
one_bit (suc (suc n)) small = absurd (omega arith)

pub returns-clause-some : goal.returns-clause-some
returns-clause-some c = λ roles mask. (
  λ any. shared roles mask (is_some (bit_and roles mask) any),
  λ share. some_is (bit_and roles mask) (not_none roles mask share),
)

pub returns-clause-definition : goal.returns-clause-definition
returns-clause-definition c = λ roles.
    ap (λ both. not (both == 0)) (and_pow roles 1) ∙ one_bit (bit_at roles 1) (bit_at-lt roles 1)
