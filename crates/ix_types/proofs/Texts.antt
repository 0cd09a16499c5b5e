-- What bytes are refused for, once they are known to be short and UTF-8.
use Rattle.std.proofs.Common.{◌≡◌, ℕ, ◌≤◌, List, length, refl, Some, None, position, arith}
use Rattle.std.specs.Str.{IsUtf8}
use Rattle.std.proofs.lemmas.Str.{utf8_valid_len-IsUtf8}
use Rattle.std.proofs.lemmas.Bool.{le-ltb}
use Rattle.ix_types.specs.declared.text.TextError.TheVariants.{Control}
use Rattle.ix_types.specs.Text.{max_text_len, is_control, refusal_or_empty}

pub refusal-control : (bytes : List ℕ) (at : ℕ) → length bytes ≤ max_text_len → IsUtf8 bytes → Some at ≡ position is_control bytes → refusal_or_empty bytes ≡ Some (Control at)
refusal-control bytes at short utf8 found =
    rw (le-ltb max_text_len (length bytes) short, utf8_valid_len-IsUtf8 bytes utf8, le-ltb (length bytes) (length bytes) (omega arith), ← found) refl

pub refusal-none : (bytes : List ℕ) → length bytes ≤ max_text_len → IsUtf8 bytes → None ≡ position is_control bytes → refusal_or_empty bytes ≡ None
refusal-none bytes short utf8 found =
    rw (le-ltb max_text_len (length bytes) short, utf8_valid_len-IsUtf8 bytes utf8, le-ltb (length bytes) (length bytes) (omega arith), ← found) refl
