-- What the single fields read where they are spelled.
use Rattle.std.proofs.Common.{◌≡◌, ℕ, zero, suc, ◌^◌, ◌<◌, ◌≤◌, ◌==◌, Bool, true, false, ◌&&◌, nat_lt, nat_le, List, [], ◌∷◌, length, None, position, Ok, refl, subst, arith}
use Rattle.std.specs.List.{list_all, position_or_len}
use Rattle.std.proofs.lemmas.Bool.{and_parts, and_from, ltb-true, lt-ltb, le-ltb, leb-true, le-leb, eqb-true, eq-eqb}
use Rattle.std.proofs.lemmas.Str.{utf8_valid_len-IsUtf8, IsUtf8-from_ascii}
use Rattle.std.proofs.lemmas.Str.Ascii.{IsAscii-from_all}
use Rattle.std.proofs.lemmas.List.Elements.{All-from_recursion}
use Rattle.std.specs.List.{AllByRecursion}
use Rattle.ix_types.specs.Name.{IsFileName, is_lower_hex}
use Rattle.ix_types.specs.Text.{IsText, IsTextOrEmpty, is_control, max_text_len}
use Rattle.ix_wire.specs.Grammar.{tested_at}
use Rattle.ix_wire.specs.Input.{Input, Passes}
use Rattle.ix_wire.specs.Spelling.{u32_bytes, text_bytes}
use Rattle.ix_wire.proofs.Door.{IsReader, IsReader-also, step, number_field_reader, text_field_reader, any_text_field_reader, tested_reader, either_true, done_is}
use Rattle.ix_unit.specs.declared.fault.UnitError.TheVariants.{BadMagic, BadField}
use Rattle.ix_unit.specs.Fault.{unit_error}
use Rattle.ix_unit.specs.Value.{IsLine}
use Rattle.ix_unit.specs.Spelling.{flag_number, flag_bytes}
use Rattle.ix_unit.specs.Reading.{number_at, path_at, any_text_at, is_magic, magic_at, is_flag, flag_at, is_line, line_at, is_file_name, name_at}

-- ---- plain fields

pub number_reader : IsReader number_at u32_bytes (λ n. n < 2 ^ 32)
unfolding number_at
number_reader = number_field_reader unit_error

pub path_reader : IsReader path_at text_bytes IsText
unfolding path_at
path_reader = text_field_reader unit_error

pub any_text_reader : IsReader any_text_at text_bytes IsTextOrEmpty
unfolding any_text_at
any_text_reader = any_text_field_reader unit_error

-- ---- fields that pass a test

abbrev IsNumber : ℕ → Type 0
IsNumber n = n < 2 ^ 32

pub magic_reader : IsReader magic_at u32_bytes (λ n. n ≡ 0x4958_5531)
unfolding magic_at
magic_reader = IsReader-also (tested_at number_at (λ _. BadMagic) is_magic) u32_bytes (λ n. IsNumber n × (is_magic n ≡ true)) (λ n. n ≡ 0x4958_5531)
    (λ n h. eqb-true n 0x4958_5531 h.1) (λ n e. (omega (arith, e), eq-eqb n 0x4958_5531 e)) (tested_reader number_at u32_bytes IsNumber (λ _. BadMagic) is_magic number_reader)

pub line_reader : IsReader line_at u32_bytes IsLine
unfolding line_at
line_reader = IsReader-also (tested_at number_at BadField is_line) u32_bytes (λ n. IsNumber n × (is_line n ≡ true)) IsLine
    (λ n h. (ltb-true 0 n h.1, h.0)) (λ n h. (h.1, lt-ltb 0 n h.0)) (tested_reader number_at u32_bytes IsNumber BadField is_line number_reader)

flag_number_reader : IsReader (tested_at number_at BadField is_flag) u32_bytes (λ n. IsNumber n × (is_flag n ≡ true))
flag_number_reader = tested_reader number_at u32_bytes IsNumber BadField is_flag number_reader

flag_fits : (b : Bool) → IsNumber (flag_number b) × (is_flag (flag_number b) ≡ true)
flag_fits true = (omega arith, refl)
flag_fits false = (omega arith, refl)

flag_again : (b : Bool) → (flag_number b == 1) ≡ b
flag_again true = refl
flag_again false = refl

flag_is : (n : ℕ) → is_flag n ≡ true → flag_number (n == 1) ≡ n
flag_is zero e = refl
flag_is (suc zero) e = refl
flag_is (suc (suc n)) e =
    let lt = ltb-true (suc (suc n)) 2 e in
    absurd (omega (arith, lt))

pub flag_reader : IsReader flag_at flag_bytes (λ _. Unit {0})
unfolding flag_at flag_bytes
flag_reader = record {
  is_read = λ from to b valid there. rw (flag_number_reader.is_read from to (flag_number b) (flag_fits b) there, flag_again b) refl;
  was_spelled = λ from to b bytes e.
      let s = step (tested_at number_at BadField is_flag) u32_bytes _ flag_number_reader (λ n. Ok (n.0 == 1, n.1)) from (b, to) bytes e in
      let passes : Passes from (u32_bytes (flag_number (s.0.0 == 1))) s.0.1 = rw (flag_is s.0.0 s.1.valid.1) s.1.passes in
      (tt, subst (λ (y : Bool × Input). Passes from (u32_bytes (flag_number y.0)) y.1) (done_is (s.0.0 == 1, s.0.1) (b, to) s.1.goes_on) passes);
}

-- ---- names

pub name_from_test : (name : List ℕ) → is_file_name name ≡ true → IsFileName name
unfolding is_file_name
name_from_test name e =
    let p = and_parts (nat_lt 0 (length name)) _ e in
    let q = and_parts (nat_le (length name) 64) (list_all is_lower_hex name) p.1 in
    record { not_empty = ltb-true 0 (length name) p.0; short = leb-true (length name) 64 q.0; digits = q.1 }

pub test_from_name : (name : List ℕ) → IsFileName name → is_file_name name ≡ true
unfolding is_file_name
test_from_name name named =
    and_from (nat_lt 0 (length name)) _ (lt-ltb 0 (length name) named.not_empty) (and_from (nat_le (length name) 64) (list_all is_lower_hex name) (le-leb (length name) 64 named.short) named.digits)

false_from_not : (b : Bool) → (b ≡ true → ⊥) → b ≡ false
false_from_not true refuted = absurd (refuted refl)
false_from_not false refuted = refl

pub test_from_no_name : (name : List ℕ) → (IsFileName name → ⊥) → is_file_name name ≡ false
test_from_no_name name refuted = false_from_not (is_file_name name) (λ e. refuted (name_from_test name e))

pub hex_is_small : (c : ℕ) → is_lower_hex c ≡ true → (48 ≤ c) × (c < 127)
hex_is_small c e =
    either_true (nat_le 48 c && nat_le c 57) (nat_le 97 c && nat_le c 102) e
    (λ d. let p = and_parts (nat_le 48 c) (nat_le c 57) d in let low = leb-true 48 c p.0 in let high = leb-true c 57 p.1 in (low, omega (arith, high)))
    (λ d. let p = and_parts (nat_le 97 c) (nat_le c 102) d in let low = leb-true 97 c p.0 in let high = leb-true c 102 p.1 in (omega (arith, low), omega (arith, high)))

no_control : (c : ℕ) → is_lower_hex c ≡ true → is_control c ≡ false
no_control c e =
    let small = hex_is_small c e in
    let other : (c == 127) ≡ false = false_from_not (c == 127) (λ d. let same = eqb-true c 127 d in omega (arith, same, small.1)) in
    rw (le-ltb c 32 (omega (arith, small.0)), other) refl

hex_is_ascii : (name : List ℕ) → list_all is_lower_hex name ≡ true → AllByRecursion (λ c. c < 128) name
hex_is_ascii [] e = tt
hex_is_ascii (c ∷ cs) e =
    let p = and_parts (is_lower_hex c) (list_all is_lower_hex cs) e in
    let small = (hex_is_small c p.0).1 in
    (omega (arith, small), hex_is_ascii cs p.1)

no_control_in : (name : List ℕ) → list_all is_lower_hex name ≡ true → position_or_len is_control name ≡ length name
no_control_in [] e = refl
no_control_in (c ∷ cs) e =
    let p = and_parts (is_lower_hex c) (list_all is_lower_hex cs) e in
    rw (no_control c p.0) (omega (arith, no_control_in cs p.1))

name_is_text : (name : List ℕ) → IsFileName name → IsText name
name_is_text name named =
    let none : position is_control name ≡ None = rw (no_control_in name named.digits, le-ltb (length name) (length name) (omega arith)) refl in
    let utf8 = utf8_valid_len-IsUtf8 name (IsUtf8-from_ascii name (IsAscii-from_all name (All-from_recursion (λ c. c < 128) name (hex_is_ascii name named.digits)))) in
    let some : (length name == 0) ≡ false = false_from_not (length name == 0) (λ e. let same = eqb-true (length name) 0 e in omega (arith, same, named.not_empty)) in
    rw (some, le-ltb max_text_len (length name) (omega (arith, named.short)), utf8, le-ltb (length name) (length name) (omega arith), none) refl

pub name_reader : IsReader name_at text_bytes IsFileName
unfolding name_at
name_reader = IsReader-also (tested_at path_at BadField is_file_name) text_bytes (λ t. IsText t × (is_file_name t ≡ true)) IsFileName
    (λ t h. name_from_test t h.1) (λ t named. (name_is_text t named, test_from_name t named)) (tested_reader path_at text_bytes IsText BadField is_file_name path_reader)
