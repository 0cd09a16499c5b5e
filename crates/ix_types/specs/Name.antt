-- What a file's name is.
use Rattle.std.specs.Prelude.{◌≡◌, ℕ, ◌-◌, ◌<◌, ◌≤◌, ◌&&◌, ◌||◌, nat_le, List, ◌++◌, length, take, drop, replicate, Bool}
use Rattle.std.specs.Prelude.{IsTrue}
use Rattle.std.specs.List.{list_all}
use Rattle.hex.specs.Hex.{encode_lower}
use Rattle.sha2.specs.Sha256.{sha256}

-- the name that SHA-256 gives to some bytes: 64 digits
abbrev pub sha_name : List ℕ → List ℕ
sha_name bytes = encode_lower (sha256 bytes)

-- the codes of 0 to 9 and of a to f
abbrev pub is_lower_hex : ℕ → Bool
is_lower_hex c = (nat_le 48 c && nat_le c 57) || (nat_le 97 c && nat_le c 102)

-- 1 to 64 lower-case hex digits
pub record IsFileName (bytes : List ℕ) : Type 0 where
  pub not_empty : 0 < length bytes
  pub short : length bytes ≤ 64
  pub digits : IsTrue (list_all is_lower_hex bytes)

-- the first len cells have the name, and zeros stand behind it
pub record IsNamed (cells : List ℕ) (len : ℕ) : Type 0 where
  pub fits : len ≤ 64
  pub all : length cells ≡ 64
  pub name : IsFileName (take len cells)
  pub zeros : drop len cells ≡ replicate (64 - len) 0

-- the cells of a name
abbrev pub cells_of : List ℕ → List ℕ
cells_of name = name ++ replicate (64 - length name) 0
