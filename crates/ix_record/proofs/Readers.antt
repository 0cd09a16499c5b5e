-- What the single fields read where they are spelled.
use Rattle.std.proofs.Common.{◌≡◌, ℕ, ◌^◌, ◌<◌, ◌==◌, Bool, true, nat_lt, List, [], ◌∷◌, Ok, refl, sym, ap, subst, ◌∙◌, arith}
use Rattle.std.specs.Prelude.{IsTrue, bit_and}
use Rattle.std.specs.List.{list_all}
use Rattle.std.proofs.lemmas.Bool.{and_parts, and_from, ltb-true, lt-ltb, eqb-true, eq-eqb}
use Rattle.std.proofs.lemmas.Nat.{and_le_r}
use Rattle.ix_types.specs.Codes.{Table, has_code, kinds, langs, relation_bits}
use Rattle.ix_types.specs.Text.{IsText, IsTextOrEmpty}
use Rattle.ix_wire.specs.Input.{Input, Passes}
use Rattle.ix_wire.specs.Spelling.{IsBytes, u32_bytes, text_bytes}
use Rattle.ix_wire.proofs.Door.{IsReader, IsReader-also, number_field_reader, text_field_reader, any_text_field_reader, tested_reader, either_true, step, of_test, done, done_is, passes_nothing}
use Rattle.ix_record.specs.declared.fault.RecordError.{RecordError}
use Rattle.ix_record.specs.declared.fault.RecordError.TheVariants.{BadField, BadIndex}
use Rattle.ix_types.specs.declared.format.Format.{Format}
use Rattle.ix_types.specs.declared.format.Format.TheVariants.{One, Two}
use Rattle.ix_record.specs.declared.value.TheConstants.{MAGIC_ONE, MAGIC_TWO}
use Rattle.ix_record.specs.Fault.{record_error}
use Rattle.ix_record.specs.Spelling.{magic_bytes, codegen_bytes}
use Rattle.ix_record.specs.Value.{IsCodegen, IsCoordinate}
use Rattle.ix_record.specs.Reading.{number_at, usr_at, name_at, codegen_at, format_at, field_at, is_kind, kind_at, is_lang, lang_at, are_props, props_at, is_coordinate, coordinate_at, is_index, index_at, are_roles, roles_at, are_relations, relation_roles_at}

-- ---- plain fields

pub number_reader : IsReader number_at u32_bytes (λ n. n < 2 ^ 32)
unfolding number_at
number_reader = number_field_reader record_error

pub usr_reader : IsReader usr_at text_bytes IsText
unfolding usr_at
usr_reader = text_field_reader record_error

pub name_reader : IsReader name_at text_bytes IsTextOrEmpty
unfolding name_at
name_reader = any_text_field_reader record_error

codegen_read : (format : Format) (from to : Input) (codegen : List ℕ) → IsCodegen format codegen → Passes from (codegen_bytes format codegen) to → codegen_at format from ≡ Ok (codegen, to)
unfolding codegen_at
codegen_read One from to codegen none passes =
    ap (λ (c : List ℕ). done RecordError (c, from)) (sym none) ∙ ap (λ (i : Input). done RecordError (codegen, i)) (passes_nothing from to passes)
codegen_read Two from to codegen valid passes = (any_text_field_reader record_error).is_read from to codegen valid passes

codegen_was_spelled : (format : Format) (from to : Input) (codegen : List ℕ) → IsBytes from.rest → codegen_at format from ≡ Ok (codegen, to) → IsCodegen format codegen × Passes from (codegen_bytes format codegen) to
unfolding codegen_at
codegen_was_spelled One from to codegen bytes e =
    let nothing : Passes from [] from = record { parts = refl; moved = omega arith } in
    subst (λ (y : List ℕ × Input). (y.0 ≡ []) × Passes from [] y.1) (done_is ([], from) (codegen, to) e) (refl, nothing)
codegen_was_spelled Two from to codegen bytes e = (any_text_field_reader record_error).was_spelled from to codegen bytes e

pub codegen_reader : (format : Format) → IsReader (codegen_at format) (codegen_bytes format) (IsCodegen format)
codegen_reader format = record { is_read = codegen_read format; was_spelled = codegen_was_spelled format }

-- ---- the magic

pub magic_is_one : u32_bytes MAGIC_ONE ≡ magic_bytes One
unfolding u32_bytes
magic_is_one = refl

pub magic_is_two : u32_bytes MAGIC_TWO ≡ magic_bytes Two
unfolding u32_bytes
magic_is_two = refl

format_read : (from to : Input) (format : Format) → Passes from (magic_bytes format) to → format_at from ≡ Ok (format, to)
unfolding format_at
format_read from to One passes =
    let magic : Passes from (u32_bytes MAGIC_ONE) to = rw magic_is_one passes in
    rw (number_reader.is_read from to MAGIC_ONE (omega arith) magic) refl
format_read from to Two passes =
    let magic : Passes from (u32_bytes MAGIC_TWO) to = rw magic_is_two passes in
    rw (number_reader.is_read from to MAGIC_TWO (omega arith) magic) refl

-- the number was the format's
format_was : (from : Input) (magic : ℕ) (format : Format) (to : Input) (y : Format × Input) → Passes from (u32_bytes magic) to → u32_bytes magic ≡ magic_bytes format → (format, to) ≡ y → Passes from (magic_bytes y.0) y.1
format_was from magic format to y passes is e =
    let there : Passes from (magic_bytes format) to = rw (← is) passes in
    subst (λ (z : Format × Input). Passes from (magic_bytes z.0) z.1) e there

format_was_spelled : (from to : Input) (format : Format) → IsBytes from.rest → format_at from ≡ Ok (format, to) → Unit {0} × Passes from (magic_bytes format) to
unfolding format_at
format_was_spelled from to format bytes e =
    let s = step number_at u32_bytes _ number_reader _ from (format, to) bytes e in
    let n = s.0.0 in (
      tt,
      of_test (n == MAGIC_ONE) _ _ (format, to) s.1.goes_on
          (λ k h. format_was from n One s.0.1 (format, to) s.1.passes (ap u32_bytes (eqb-true n MAGIC_ONE k) ∙ magic_is_one) (done_is (One, s.0.1) (format, to) h))
          (λ f. of_test (n == MAGIC_TWO) _ _ (format, to) f
          (λ k h. format_was from n Two s.0.1 (format, to) s.1.passes (ap u32_bytes (eqb-true n MAGIC_TWO k) ∙ magic_is_two) (done_is (Two, s.0.1) (format, to) h))
          (λ h. absurd cc)),
    )

pub format_reader : IsReader format_at magic_bytes (λ _. Unit {0})
format_reader = record { is_read = λ from to format valid passes. format_read from to format passes; was_spelled = format_was_spelled }

-- ---- numbers that pass a test

field_reader : (fault : ℕ → RecordError) (passes : ℕ → Bool) → IsReader (field_at fault passes) u32_bytes (λ n. (n < 2 ^ 32) × (passes n ≡ true))
field_reader fault passes = tested_reader number_at u32_bytes (λ n. n < 2 ^ 32) fault passes number_reader

-- the codes of a table are as small as its rows'
code_is_small : (table : Table) (limit code : ℕ) → list_all (λ row. nat_lt row.0 limit) table ≡ true → has_code table code ≡ true → code < limit
code_is_small [] limit code small known = absurd cc
code_is_small (row ∷ rows) limit code small known =
    let parts = and_parts (nat_lt row.0 limit) (list_all (λ r. nat_lt r.0 limit) rows) small in
    either_true (row.0 == code) (has_code rows code) known (λ e. rw (← eqb-true row.0 code e) (ltb-true row.0 limit parts.0)) (λ e. code_is_small rows limit code parts.1 e)

pub kind_reader : IsReader kind_at u32_bytes (λ k. IsTrue (has_code kinds k))
unfolding kind_at is_kind
kind_reader = IsReader-also (field_at BadField is_kind) u32_bytes (λ n. (n < 2 ^ 32) × (is_kind n ≡ true)) (λ k. IsTrue (has_code kinds k))
    (λ k h. h.1) (λ k known. (code_is_small kinds (2 ^ 32) k refl known, known)) (field_reader BadField is_kind)

pub lang_reader : IsReader lang_at u32_bytes (λ l. IsTrue (has_code langs l))
unfolding lang_at is_lang
lang_reader = IsReader-also (field_at BadField is_lang) u32_bytes (λ n. (n < 2 ^ 32) × (is_lang n ≡ true)) (λ l. IsTrue (has_code langs l))
    (λ l h. h.1) (λ l known. (code_is_small langs (2 ^ 32) l refl known, known)) (field_reader BadField is_lang)

pub props_reader : IsReader props_at u32_bytes (λ p. p < 2 ^ 9)
unfolding props_at
props_reader = IsReader-also (field_at BadField are_props) u32_bytes (λ n. (n < 2 ^ 32) × (are_props n ≡ true)) (λ p. p < 2 ^ 9)
    (λ p h. ltb-true p (2 ^ 9) h.1) (λ p lt. (omega arith, lt-ltb p (2 ^ 9) lt)) (field_reader BadField are_props)

pub coordinate_reader : IsReader coordinate_at u32_bytes IsCoordinate
unfolding coordinate_at
coordinate_reader = IsReader-also (field_at BadField is_coordinate) u32_bytes (λ n. (n < 2 ^ 32) × (is_coordinate n ≡ true)) IsCoordinate
    (λ n h. (ltb-true 0 n h.1, h.0)) (λ n h. (h.1, lt-ltb 0 n h.0)) (field_reader BadField is_coordinate)

pub index_reader : (symbols : ℕ) → symbols < 2 ^ 32 → IsReader (index_at symbols) u32_bytes (λ n. n < symbols)
unfolding index_at
index_reader symbols few = IsReader-also (field_at BadIndex (is_index symbols)) u32_bytes (λ n. (n < 2 ^ 32) × (is_index symbols n ≡ true)) (λ n. n < symbols)
    (λ n h. ltb-true n symbols h.1) (λ n lt. (omega arith, lt-ltb n symbols lt)) (field_reader BadIndex (is_index symbols))

-- some role, and no bit past the known ones
abbrev pub AreRoles : ℕ → Type 0
AreRoles n = (0 < n) × (n < 2 ^ 19)

pub roles_reader : IsReader roles_at u32_bytes AreRoles
unfolding roles_at
roles_reader = IsReader-also (field_at BadField are_roles) u32_bytes (λ n. (n < 2 ^ 32) × (are_roles n ≡ true)) AreRoles
    (λ n h. let p = and_parts (nat_lt 0 n) (nat_lt n (2 ^ 19)) h.1 in (ltb-true 0 n p.0, ltb-true n (2 ^ 19) p.1))
    (λ n h. (omega arith, and_from (nat_lt 0 n) (nat_lt n (2 ^ 19)) (lt-ltb 0 n h.0) (lt-ltb n (2 ^ 19) h.1))) (field_reader BadField are_roles)

-- some role, and relations alone
abbrev pub AreRelations : ℕ → Type 0
AreRelations n = (0 < n) × (bit_and n relation_bits ≡ n)

pub relation_roles_reader : IsReader relation_roles_at u32_bytes AreRelations
unfolding relation_roles_at
relation_roles_reader = IsReader-also (field_at BadField are_relations) u32_bytes (λ n. (n < 2 ^ 32) × (are_relations n ≡ true)) AreRelations
    (λ n h. let p = and_parts (nat_lt 0 n) (bit_and n relation_bits == n) h.1 in (ltb-true 0 n p.0, eqb-true (bit_and n relation_bits) n p.1))
    (λ n h. (omega (arith, and_le_r n relation_bits, h.1), and_from (nat_lt 0 n) (bit_and n relation_bits == n) (lt-ltb 0 n h.0) (eq-eqb (bit_and n relation_bits) n h.1))) (field_reader BadField are_relations)
