-- A field is read exactly where it is spelled, and no spelling begins another.
use Rattle.std.proofs.Common.{◌≡◌, ℕ, ◌+◌, ◌^◌, ◌<◌, ◌≤◌, Bool, true, false, cond, ltb, List, ◌++◌, length, take, drop, Option, Some, eqb, Ok, Err, refl, sym, ap, ◌∙◌, append_assoc, arith}
use Rattle.std.specs.Prelude.{IsTrue, is_none}
use Rattle.std.specs.Int.{Width, w32, w64, byte_len, from_be_bytes, to_be_bytes}
use Rattle.std.proofs.lemmas.Bool.{ltb-false, le-ltb}
use Rattle.std.proofs.lemmas.List.{take_at, drop_at, take-append-drop, length-append, length-take}
use Rattle.std.proofs.lemmas.Nat.{be_bytes_4, be_bytes_8, from_be_bytes-to_be_bytes_4, from_be_bytes-to_be_bytes_8}
use Rattle.ix_types.specs.declared.text.TextError.TheVariants as text_errors
use Rattle.ix_types.specs.Text.{max_text_len, refusal_or_empty}
use Rattle.ix_wire.specs.declared.fault.WireError.{WireError}
use Rattle.ix_wire.specs.declared.fault.WireError.TheVariants.{Short, BadText, TooLong}
use Rattle.ix_wire.specs.Input.{Input, Passes, skip}
use Rattle.ix_wire.specs.Laws.{IsReadWhereSpelled, TextIsReadWhereSpelled, BeginsNoOther, TextBeginsNoOther}
use Rattle.ix_wire.specs.Read.{Read}
use Rattle.ix_wire.specs.Reading.{u32_at, u64_at, is_text, text_of, text_at}
use Rattle.ix_wire.specs.Spelling.{IsBytes, u32_bytes, u64_bytes, text_bytes}
use Rattle.ix_wire.proofs.Steps.{IsBytes-take, bind_ok, guard_ok, test_ok, read_is, passes_join, passes_split}

-- ---- numbers of any width

record IsWide (w : Width) (limit : ℕ) : Type 0 where
  pub len : (n : ℕ) → length (to_be_bytes w n) ≡ byte_len w
  pub back : (bytes : List ℕ) → length bytes ≡ byte_len w → IsBytes bytes → to_be_bytes w (from_be_bytes w bytes) ≡ bytes
  pub again : (n : ℕ) → n < limit → from_be_bytes w (to_be_bytes w n) ≡ n
  pub below : (bytes : List ℕ) → IsBytes bytes → from_be_bytes w bytes < limit

wide32 : IsWide w32 (2 ^ 32)
wide32 = record {
  len = λ n. refl;
  back = λ bytes len fits. be_bytes_4 bytes _ len fits refl;
  again = λ n lt. from_be_bytes-to_be_bytes_4 n lt;
  below = λ bytes fits. omega (arith, fits 0, fits 1, fits 2, fits 3);
}

wide64 : IsWide w64 (2 ^ 64)
wide64 = record {
  len = λ n. refl;
  back = λ bytes len fits. be_bytes_8 bytes _ len fits refl;
  again = λ n lt. from_be_bytes-to_be_bytes_8 n lt;
  below = λ bytes fits. omega (arith, fits 0, fits 1, fits 2, fits 3, fits 4, fits 5, fits 6, fits 7);
}

abbrev number_at : Width → Input → Read WireError ℕ
number_at w from = cond (ltb (length from.rest) (byte_len w)) (Err (Short from.at)) (Ok (from_be_bytes w (take (byte_len w) from.rest), skip (byte_len w) from))

abbrev done : ℕ → Input → Read WireError ℕ
done n to = Ok (n, to)

done_is : (m n : ℕ) (a b : Input) → done m a ≡ done n b → (m ≡ n) × (a ≡ b)
done_is m n a b e = read_is e

number_takes : (w : Width) (limit : ℕ) → IsWide w limit → (from to : Input) (n : ℕ) → IsBytes from.rest → number_at w from ≡ Ok (n, to) → (n < limit) × Passes from (to_be_bytes w n) to
number_takes w limit wide from to n fits e =
    let k = byte_len w in
    let g = guard_ok (ltb (length from.rest) k) (Short from.at) (done (from_be_bytes w (take k from.rest)) (skip k from)) (n, to) e in
    let long : k ≤ length from.rest = ltb-false _ _ g.0 in
    let is = done_is (from_be_bytes w (take k from.rest)) n (skip k from) to g.1 in
    let len : length (take k from.rest) ≡ k = omega (arith, length-take k from.rest) in
    let front : to_be_bytes w n ≡ take k from.rest = rw (← is.0) (wide.back (take k from.rest) len (IsBytes-take k from.rest fits)) in
    let there : Passes from (take k from.rest) (skip k from) = record { parts = sym (take-append-drop k from.rest); moved = rw len refl } in
    (rw (← is.0) (wide.below (take k from.rest) (IsBytes-take k from.rest fits)), rw (front, ← is.1) there)

number_again : (w : Width) (limit : ℕ) → IsWide w limit → (from to : Input) (n : ℕ) → n < limit → Passes from (to_be_bytes w n) to → number_at w from ≡ Ok (n, to)
number_again w limit wide from to n lt there =
    let len = wide.len n in
    let long : ltb (length (to_be_bytes w n ++ to.rest)) (byte_len w) ≡ false = le-ltb _ _ (omega (arith, length-append (to_be_bytes w n) to.rest)) in
    let moved : to.at ≡ from.at + byte_len w = there.moved ∙ ap (λ (k : ℕ). from.at + k) len in
    rw (there.parts, long, take_at (to_be_bytes w n) to.rest (byte_len w) len, drop_at (to_be_bytes w n) to.rest (byte_len w) len, wide.again n lt) (ap (λ (at : ℕ). done n (record { at = at; rest = to.rest })) (sym moved))

pub u32_where_spelled : IsReadWhereSpelled u32_at u32_bytes (2 ^ 32)
unfolding u32_at u32_bytes
u32_where_spelled = record { is_read = number_again w32 (2 ^ 32) wide32; was_spelled = number_takes w32 (2 ^ 32) wide32 }

pub u64_where_spelled : IsReadWhereSpelled u64_at u64_bytes (2 ^ 64)
unfolding u64_at u64_bytes
u64_where_spelled = record { is_read = number_again w64 (2 ^ 64) wide64; was_spelled = number_takes w64 (2 ^ 64) wide64 }

number_begins_no_other : (w : Width) (limit : ℕ) → IsWide w limit → BeginsNoOther (to_be_bytes w) limit
number_begins_no_other w limit wide m n x y lm ln e =
    let from : Input = record { at = 0; rest = to_be_bytes w m ++ x } in
    let after_m : Input = record { at = 0 + length (to_be_bytes w m); rest = x } in
    let after_n : Input = record { at = 0 + length (to_be_bytes w n); rest = y } in
    let first : number_at w from ≡ done m after_m = number_again w limit wide from after_m m lm (record { parts = refl; moved = refl }) in
    let second : number_at w from ≡ done n after_n = number_again w limit wide from after_n n ln (record { parts = e; moved = refl }) in
    let is = done_is m n after_m after_n (sym first ∙ second) in
    (is.0, ap (λ (to : Input). to.rest) is.1)

pub u32_begins_no_other : BeginsNoOther u32_bytes (2 ^ 32)
unfolding u32_bytes
u32_begins_no_other = number_begins_no_other w32 (2 ^ 32) wide32

pub u64_begins_no_other : BeginsNoOther u64_bytes (2 ^ 64)
unfolding u64_bytes
u64_begins_no_other = number_begins_no_other w64 (2 ^ 64) wide64

-- ---- texts

passed_test : {A : Type 0} (b : Bool) (x : A) (o : Option A) → is_none (cond b (Some x) o) ≡ true → (b ≡ false) × (is_none o ≡ true)
passed_test true x o e = absurd cc
passed_test false x o e = (refl, e)

-- a text has at most 4,096 bytes
text_is_short : (may_be_empty : Bool) (text : List ℕ) → is_text may_be_empty text ≡ true → length text ≤ max_text_len
unfolding is_text
text_is_short true text e = ltb-false _ _ (passed_test (ltb max_text_len (length text)) text_errors.TooLong _ e).0
text_is_short false text e =
    let rest = (passed_test (eqb (length text) 0) text_errors.Empty (refusal_or_empty text) e).1 in
    ltb-false _ _ (passed_test (ltb max_text_len (length text)) text_errors.TooLong _ rest).0

text_of_takes : (may_be_empty : Bool) (start len : ℕ) (from to : Input) (text : List ℕ) → text_of may_be_empty start len from ≡ Ok (text, to) → (is_text may_be_empty text ≡ true) × (length text ≡ len) × Passes from text to
unfolding text_of
text_of_takes may_be_empty start len from to text e =
    let bytes = take len from.rest in
    let g1 = guard_ok (ltb max_text_len len) (TooLong start) (cond (ltb (length from.rest) len) (Err (Short start)) (cond (is_text may_be_empty bytes) (Ok (bytes, skip len from)) (Err (BadText start)))) (text, to) e in
    let g2 = guard_ok (ltb (length from.rest) len) (Short start) (cond (is_text may_be_empty bytes) (Ok (bytes, skip len from)) (Err (BadText start))) (text, to) g1.1 in
    let g3 = test_ok (is_text may_be_empty bytes) (BadText start) (Ok (bytes, skip len from)) (text, to) g2.1 in
    let is = read_is g3.1 in
    let long : len ≤ length from.rest = ltb-false _ _ g2.0 in
    let length_is : length bytes ≡ len = omega (arith, length-take len from.rest) in
    let there : Passes from bytes (skip len from) = record { parts = sym (take-append-drop len from.rest); moved = rw length_is refl } in
    rw (← is.0, ← is.1) (g3.0, length_is, there)

text_of_again : (may_be_empty : Bool) (start : ℕ) (from to : Input) (text : List ℕ) → is_text may_be_empty text ≡ true → Passes from text to → text_of may_be_empty start (length text) from ≡ Ok (text, to)
unfolding text_of
text_of_again may_be_empty start from to text valid there =
    let short : ltb max_text_len (length text) ≡ false = le-ltb _ _ (text_is_short may_be_empty text valid) in
    let long : ltb (length (text ++ to.rest)) (length text) ≡ false = le-ltb _ _ (omega (arith, length-append text to.rest)) in
    rw (there.parts, short, long, take_at text to.rest (length text) refl, drop_at text to.rest (length text) refl, valid, ← there.moved) refl

text_takes : (may_be_empty : Bool) (from to : Input) (text : List ℕ) → IsBytes from.rest → text_at may_be_empty from ≡ Ok (text, to) → IsTrue (is_text may_be_empty text) × Passes from (text_bytes text) to
unfolding text_at text_bytes
text_takes may_be_empty from to text fits e =
    let b = bind_ok (u32_at from) (λ len. text_of may_be_empty from.at len.0 len.1) (text, to) e in
    let len = u32_where_spelled.was_spelled from b.0.1 b.0.0 fits b.1 in
    let t = text_of_takes may_be_empty from.at b.0.0 b.0.1 to text b.2 in
    let front : Passes from (u32_bytes (length text)) b.0.1 = rw (t.1) len.1 in
    (t.0, passes_join from b.0.1 to (u32_bytes (length text)) text front t.2)

text_again : (may_be_empty : Bool) (from to : Input) (text : List ℕ) → IsTrue (is_text may_be_empty text) → Passes from (text_bytes text) to → text_at may_be_empty from ≡ Ok (text, to)
unfolding text_at text_bytes
text_again may_be_empty from to text valid there =
    let parts = passes_split from to (u32_bytes (length text)) text there in
    let short : length text < 2 ^ 32 = omega (arith, text_is_short may_be_empty text valid) in
    let len = u32_where_spelled.is_read from parts.0 (length text) short parts.1 in
    rw len (text_of_again may_be_empty from.at parts.0 to text valid parts.2)

pub text_where_spelled : TextIsReadWhereSpelled
text_where_spelled = record { is_read = text_again; was_spelled = text_takes }

pub text_begins_no_other : TextBeginsNoOther
unfolding text_bytes
text_begins_no_other a b s t x y vs vt e =
    let short_s : length s < 2 ^ 32 = omega (arith, text_is_short a s vs) in
    let short_t : length t < 2 ^ 32 = omega (arith, text_is_short b t vt) in
    let regrouped : u32_bytes (length s) ++ (s ++ x) ≡ u32_bytes (length t) ++ (t ++ y) = sym (append_assoc (u32_bytes (length s)) s x) ∙ e ∙ append_assoc (u32_bytes (length t)) t y in
    let parts = u32_begins_no_other (length s) (length t) (s ++ x) (t ++ y) short_s short_t regrouped in
    let same : s ≡ t = sym (take_at s x (length s) refl) ∙ ap (take (length s)) parts.1 ∙ take_at t y (length s) (sym parts.0) in
    let after : x ≡ y = sym (drop_at s x (length s) refl) ∙ ap (drop (length s)) parts.1 ∙ drop_at t y (length s) (sym parts.0) in
    (same, after)
