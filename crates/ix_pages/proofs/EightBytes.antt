-- Eight bytes as a number.
use Rattle.std.proofs.Common.{◌≡◌, ℕ, zero, suc, ◌+◌, ◌-◌, ◌*◌, ◌^◌, ◌<◌, ◌≤◌, nat_lt, true, List, [], ◌∷◌, length, get_or, drop, w64, refl, sym, ◌∙◌, ap, subst, arith, if◌then◌else◌}
use Rattle.std.specs.Int.{from_be_bytes}
use Rattle.std.proofs.lemmas.Bool.{lt-ltb}
use Rattle.ix_pages.specs.Heads.{leading}

none_leads : (n : ℕ) → leading n [] ≡ 0
none_leads zero = refl
none_leads (suc n) = refl

one_more : (n byte rest : ℕ) → byte < 256 → (if nat_lt byte 256 then byte * 256 ^ n + rest else 256 ^ suc n - 1) ≡ byte * 256 ^ n + rest
one_more n byte rest small = let e = lt-ltb byte 256 small in rw e refl

step : (k n : ℕ) (bytes : List ℕ) → ((i : ℕ) → get_or bytes i 0 < 256) → leading (suc n) (drop k bytes) ≡ get_or bytes k 0 * 256 ^ n + leading n (drop (suc k) bytes)
step zero n [] small = let none = none_leads n in omega (arith, none)
step zero n (byte ∷ bytes) small = one_more n byte (leading n bytes) (small 0)
step (suc k) n [] small = let none = none_leads n in omega (arith, none)
step (suc k) n (byte ∷ bytes) small = step k n bytes (λ i. small (suc i))

-- the eight bytes in front, 0 where there is none
pub from_eight : (bytes : List ℕ) → ((i : ℕ) → get_or bytes i 0 < 256)
    → from_be_bytes w64 (get_or bytes 0 0 ∷ get_or bytes 1 0 ∷ get_or bytes 2 0 ∷ get_or bytes 3 0 ∷ get_or bytes 4 0 ∷ get_or bytes 5 0 ∷ get_or bytes 6 0 ∷ get_or bytes 7 0 ∷ []) ≡ leading 8 bytes
from_eight bytes small =
    let s0 : leading 8 bytes ≡ get_or bytes 0 0 * 72057594037927936 + leading 7 (drop 1 bytes) = step 0 7 bytes small in
    let s1 : leading 7 (drop 1 bytes) ≡ get_or bytes 1 0 * 281474976710656 + leading 6 (drop 2 bytes) = step 1 6 bytes small in
    let s2 : leading 6 (drop 2 bytes) ≡ get_or bytes 2 0 * 1099511627776 + leading 5 (drop 3 bytes) = step 2 5 bytes small in
    let s3 : leading 5 (drop 3 bytes) ≡ get_or bytes 3 0 * 4294967296 + leading 4 (drop 4 bytes) = step 3 4 bytes small in
    let s4 : leading 4 (drop 4 bytes) ≡ get_or bytes 4 0 * 16777216 + leading 3 (drop 5 bytes) = step 4 3 bytes small in
    let s5 : leading 3 (drop 5 bytes) ≡ get_or bytes 5 0 * 65536 + leading 2 (drop 6 bytes) = step 5 2 bytes small in
    let s6 : leading 2 (drop 6 bytes) ≡ get_or bytes 6 0 * 256 + leading 1 (drop 7 bytes) = step 6 1 bytes small in
    let s7 : leading 1 (drop 7 bytes) ≡ get_or bytes 7 0 * 1 + 0 = step 7 0 bytes small in
    let all : leading 8 bytes ≡ get_or bytes 0 0 * 72057594037927936 + get_or bytes 1 0 * 281474976710656 + get_or bytes 2 0 * 1099511627776 + get_or bytes 3 0 * 4294967296 + get_or bytes 4 0 * 16777216 + get_or bytes 5 0 * 65536 + get_or bytes 6 0 * 256 + get_or bytes 7 0 =
    omega (arith, s0, s1, s2, s3, s4, s5, s6, s7) in
    sym all
