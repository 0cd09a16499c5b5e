-- What a text is, and why bytes are none.
use Rattle.std.specs.Prelude.{◌≡◌, ℕ, ◌==◌, ◌||◌, nat_lt, if◌then◌else◌, List, length, Bool, Option, Some, None, position}
use Rattle.std.specs.Str.Lossy.{utf8_valid_len}
use Rattle.ix_types.specs.declared.text.TheConstants.Text.{MAX_LEN}
use Rattle.ix_types.specs.declared.text.TextError.{TextError}
use Rattle.ix_types.specs.declared.text.TextError.TheVariants.{Empty, TooLong, NotUtf8, Control}

-- the most bytes that a text has
abbrev pub max_text_len : ℕ
max_text_len = MAX_LEN

-- U+0000 to U+001F and U+007F
abbrev pub is_control : ℕ → Bool
is_control byte = nat_lt byte 32 || byte == 127

-- the first control byte
abbrev control_refusal : Option ℕ → Option TextError
control_refusal None = None
control_refusal (Some at) = Some (Control at)

-- why bytes are no text, where a text may be empty: the first cause that holds
abbrev pub refusal_or_empty : List ℕ → Option TextError
refusal_or_empty bytes =
    if nat_lt max_text_len (length bytes) then Some TooLong
    else (if nat_lt (utf8_valid_len bytes) (length bytes) then Some (NotUtf8 (utf8_valid_len bytes))
    else control_refusal (position is_control bytes))

-- why bytes are no text
abbrev pub refusal : List ℕ → Option TextError
refusal bytes = if length bytes == 0 then Some Empty else refusal_or_empty bytes

-- a text of at least one byte
abbrev pub IsText : List ℕ → Type 0
IsText bytes = refusal bytes ≡ None

-- a text that may be empty
abbrev pub IsTextOrEmpty : List ℕ → Type 0
IsTextOrEmpty bytes = refusal_or_empty bytes ≡ None
