-- Reading one field: its value with what is left, or why it can't be read.
use Rattle.std.specs.Prelude.{ℕ, nat_lt, if◌then◌else◌, List, length, take, Bool, true, false, is_none, Ok, Err}
use Rattle.std.specs.Int.{w32, w64, from_be_bytes}
use Rattle.ix_types.specs.Text.{max_text_len, refusal, refusal_or_empty}
use Rattle.ix_wire.specs.declared.fault.WireError.{WireError}
use Rattle.ix_wire.specs.declared.fault.WireError.TheVariants.{Short, BadText, TooLong}
use Rattle.ix_wire.specs.Input.{Input, skip}
use Rattle.ix_wire.specs.Read.{Read, ◌>>=◌}

unfoldable pub u32_at : Input → Read WireError ℕ
u32_at from = if nat_lt (length from.rest) 4 then Err (Short from.at) else Ok (from_be_bytes w32 (take 4 from.rest), skip 4 from)

unfoldable pub u64_at : Input → Read WireError ℕ
u64_at from = if nat_lt (length from.rest) 8 then Err (Short from.at) else Ok (from_be_bytes w64 (take 8 from.rest), skip 8 from)

-- whether the bytes are a text
unfoldable pub is_text : Bool → List ℕ → Bool
is_text true bytes = is_none (refusal_or_empty bytes)
is_text false bytes = is_none (refusal bytes)

-- The bytes of a text, of the length that was read. The field began at start.
unfoldable pub text_of : Bool → ℕ → ℕ → Input → Read WireError (List ℕ)
text_of may_be_empty start len from =
    if nat_lt max_text_len len then Err (TooLong start)
    else (if nat_lt (length from.rest) len then Err (Short start)
    else (if is_text may_be_empty (take len from.rest) then Ok (take len from.rest, skip len from)
    else Err (BadText start)))

-- A length and that many bytes. A fault's place is that of the length.
unfoldable pub text_at : Bool → Input → Read WireError (List ℕ)
text_at may_be_empty from = u32_at from >>= λ len. text_of may_be_empty from.at len.0 len.1
