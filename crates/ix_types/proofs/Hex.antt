-- The hex text of bytes has lower-case digits alone.
use Rattle.std.proofs.Common.{◌≡◌, ℕ, zero, suc, ◌/◌, ◌%◌, ◌<◌, Bool, true, ◌&&◌, inl, inr, List, [], ◌∷◌, length, slice_index, refl, arith}
use Rattle.std.specs.List.{list_all}
use Rattle.std.proofs.lemmas.Bool.{and_parts, cases_lt}
use Rattle.hex.specs.Hex.{IsBytes, encode_with, lower_digits}
use Rattle.hex.proofs.HexLemmas.{length-encode_with}
use Rattle.ix_types.specs.Name.{is_lower_hex, IsFileName}

abbrev first_are_hex : ℕ → Bool
first_are_hex zero = true
first_are_hex (suc n) = is_lower_hex (slice_index lower_digits n) && first_are_hex n

digit_below : (n k : ℕ) → first_are_hex n ≡ true → k < n → is_lower_hex (slice_index lower_digits k) ≡ true
digit_below zero k h lt = absurd (omega arith)
digit_below (suc n) k h lt =
    let parts = and_parts (is_lower_hex (slice_index lower_digits n)) (first_are_hex n) h in
    elim (cases_lt k n) [
      | inl below ↦ digit_below n k parts.1 below
      | inr top ↦
          let e : k ≡ n = omega arith in
          rw e parts.0
    ]

digit : (k : ℕ) → k < 16 → is_lower_hex (slice_index lower_digits k) ≡ true
digit k lt = digit_below 16 k refl lt

pub hex_digits : (xs : List ℕ) → IsBytes xs → list_all is_lower_hex (encode_with lower_digits xs) ≡ true
unfolding encode_with
hex_digits [] bytes = refl
hex_digits (b ∷ rest) bytes =
    let small : b < 256 = bytes 0 in
    let high : b / 16 < 16 = omega arith in
    let low : b % 16 < 16 = omega arith in
    rw (digit (b / 16) high, digit (b % 16) low) (hex_digits rest (λ i. bytes (suc i)))

-- the hex text of 32 bytes is a name
pub hex_is_name : (xs : List ℕ) → IsBytes xs → length xs ≡ 32 → IsFileName (encode_with lower_digits xs)
hex_is_name xs bytes long = record {
  not_empty = omega (arith, length-encode_with lower_digits xs);
  short = omega (arith, length-encode_with lower_digits xs);
  digits = hex_digits xs bytes;
}
