-- A bit that two numbers share is what keeps their conjunction from being 0.
use Rattle.std.proofs.Common.{◌≡◌, ◌≢◌, ℕ, zero, suc, ◌/◌, ◌%◌, ◌≤◌, inl, inr, ap, ◌∙◌, arith, bit_and}
use Rattle.std.specs.Int.{bit_at}
use Rattle.std.proofs.lemmas.Bool.{cases_lt}
use Rattle.std.proofs.lemmas.Nat.Bits.{bit_at_lowest, bit_at-suc, bit_at-zero, bit_at_and, bit_at-lt}
use Rattle.ix_types.specs.Codes.{ShareBit}

-- a number that isn't 0 has a bit
a_bit : (most n : ℕ) → n ≤ most → n ≢ 0 → (i : ℕ) × (bit_at n i ≡ 1)
a_bit zero n small some = absurd (some (omega arith))
a_bit (suc most) n small some =
    elim (cases_lt (n % 2) 1) [
      | inl even ↦
          let half : n / 2 ≢ 0 = λ e. some (omega arith) in
          let found = a_bit most (n / 2) (omega arith) half in
          (suc found.0, bit_at-suc n found.0 ∙ found.1)
      | inr odd ↦ (0, omega (arith, bit_at_lowest n))
    ]

pub shared : (roles mask : ℕ) → bit_and roles mask ≢ 0 → ShareBit roles mask
shared roles mask some =
    let (i, set) = a_bit (bit_and roles mask) (bit_and roles mask) (omega arith) some in
    record {
      bit = i;
      in_roles = omega (arith, set, bit_at_and roles mask i, bit_at-lt roles i);
      in_mask = omega (arith, set, bit_at_and roles mask i, bit_at-lt mask i);
    }

pub not_none : (roles mask : ℕ) → ShareBit roles mask → bit_and roles mask ≢ 0
not_none roles mask s none =
    let gone : bit_at (bit_and roles mask) s.bit ≡ 0 = ap (λ n. bit_at n s.bit) none ∙ bit_at-zero s.bit in
    omega (arith, gone, bit_at_and roles mask s.bit, s.in_roles, s.in_mask)
