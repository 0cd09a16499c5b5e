-- The digest's bytes are bytes, so its hex text is a name.
use Rattle.std.proofs.Common.{ℕ, zero, suc, ◌-◌, List, ◌++◌, length, inl, inr, refl, arith}
use Rattle.std.specs.Int.{to_be_bytes, w32}
use Rattle.std.specs.Prelude.{slice_index}
use Rattle.std.proofs.lemmas.Bool.{cases_lt}
use Rattle.std.proofs.lemmas.List.{get_or_append_left, get_or-append_right}
use Rattle.hex.specs.Hex.{IsBytes}
use Rattle.sha2.specs.Sha256.{digest_bytes, sha256}
use Rattle.sha2.proofs.Facts256.{length-sha256}
use Rattle.ix_types.specs.Name.{IsFileName, sha_name}
use Rattle.ix_types.proofs.Hex.{hex_is_name}

word_bytes : (n : ℕ) → IsBytes (to_be_bytes w32 n)
word_bytes n zero = omega arith
word_bytes n (suc zero) = omega arith
word_bytes n (suc (suc zero)) = omega arith
word_bytes n (suc (suc (suc zero))) = omega arith
word_bytes n (suc (suc (suc (suc i)))) = omega arith

append_bytes : (xs ys : List ℕ) → IsBytes xs → IsBytes ys → IsBytes (xs ++ ys)
append_bytes xs ys first second i = elim (cases_lt i (length xs)) [
  | inl below ↦ rw (get_or_append_left xs ys 0 i below) (first i)
  | inr above ↦ rw (get_or-append_right xs ys (length xs) i 0 refl above) (second (i - length xs))
]

words_bytes : (h : List ℕ) (n : ℕ) → IsBytes (digest_bytes h n)
unfolding digest_bytes
words_bytes h zero = λ i. omega arith
words_bytes h (suc n) = append_bytes (digest_bytes h n) (to_be_bytes w32 (slice_index h n)) (words_bytes h n) (word_bytes (slice_index h n))

pub digest_is_name : (bytes : List ℕ) → IsFileName (sha_name bytes)
unfolding sha256
digest_is_name bytes = hex_is_name (sha256 bytes) (words_bytes _ 8) (length-sha256 bytes)
