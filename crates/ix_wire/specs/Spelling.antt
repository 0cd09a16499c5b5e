-- The one spelling of each number and each text.
use Rattle.std.specs.Prelude.{ℕ, ◌<◌, List, ◌++◌, length, slice_index}
use Rattle.std.specs.Int.{w32, w64, to_be_bytes}

-- each is a byte
abbrev pub IsBytes : List ℕ → Type 0
IsBytes bytes = (i : ℕ) → slice_index bytes i < 256

-- four bytes, the most significant first
unfoldable pub u32_bytes : ℕ → List ℕ
u32_bytes n = to_be_bytes w32 n

-- eight bytes, the most significant first
unfoldable pub u64_bytes : ℕ → List ℕ
u64_bytes n = to_be_bytes w64 n

-- the length in bytes as a number of four bytes, and the bytes
unfoldable pub text_bytes : List ℕ → List ℕ
text_bytes text = u32_bytes (length text) ++ text
