-- Numbers that lead in the order of lists of bytes.
use Rattle.std.specs.Prelude.{ℕ, zero, suc, ◌+◌, ◌-◌, ◌*◌, ◌^◌, nat_lt, List, [], ◌∷◌, take, drop, if◌then◌else◌}
use Rattle.std.specs.Cmp.Lexicographic.{slice_cmp}
use Rattle.std.specs.Ordering.{nat_cmp, match_ordering}

-- the first bytes as a number whose first byte leads, with zeros behind fewer; the greatest number from what is no byte on
abbrev pub leading : ℕ → List ℕ → ℕ
leading zero bytes = 0
leading (suc n) [] = 0
leading (suc n) (byte ∷ bytes) = if nat_lt byte 256 then byte * 256 ^ n + leading n bytes else 256 ^ suc n - 1

-- the eight bytes behind as many as the skip, where those in front are the base's; 0 or the greatest number where they are less or greater
abbrev pub leading_from : List ℕ → List ℕ → ℕ → ℕ
leading_from bytes base skip = match_ordering (slice_cmp nat_cmp (take skip bytes) (take skip base)) 0 (leading 8 (drop skip bytes)) (256 ^ 8 - 1)
