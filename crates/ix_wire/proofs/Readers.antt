-- A reader, and what it reads where it is spelled: steps, fields, and fields that pass a test.
use Rattle.std.proofs.Common.{◌≡◌, ℕ, ◌^◌, ◌<◌, Bool, true, false, cond, ◌||◌, List, Option, Some, None, Ok, Err, refl, ap, subst}
use Rattle.std.specs.Prelude.{is_none}
use Rattle.ix_types.specs.Text.{IsText, IsTextOrEmpty, refusal, refusal_or_empty}
use Rattle.ix_wire.specs.declared.fault.WireError.{WireError}
use Rattle.ix_wire.specs.Grammar.{of_field, number_field, text_field, any_text_field, tested_at}
use Rattle.ix_wire.specs.Input.{Input, Passes}
use Rattle.ix_wire.specs.Read.{Read, ◌>>=◌}
use Rattle.ix_wire.specs.Reading.{u32_at, text_at, is_text}
use Rattle.ix_wire.specs.Spelling.{IsBytes, u32_bytes, text_bytes}
use Rattle.ix_wire.proofs.Fields.{u32_where_spelled, text_where_spelled}
use Rattle.ix_wire.proofs.Steps.{bind_ok, test_ok, done_is, passes_bytes}

-- what is spelled is read, and what was read was spelled there
pub record IsReader {E X : Type 0} (read : Input → Read E X) (spelling : X → List ℕ) (IsValid : X → Type 0) : Type 0 where
  pub is_read : (from to : Input) (x : X) → IsValid x → Passes from (spelling x) to → read from ≡ Ok (x, to)
  pub was_spelled : (from to : Input) (x : X) → IsBytes from.rest → read from ≡ Ok (x, to) → IsValid x × Passes from (spelling x) to

-- the same values under another word
pub IsReader-also : {E X : Type 0} (read : Input → Read E X) (spelling : X → List ℕ) (P Q : X → Type 0) → ((x : X) → P x → Q x) → ((x : X) → Q x → P x) → IsReader read spelling P → IsReader read spelling Q
IsReader-also read spelling P Q there back r = record {
  is_read = λ from to x q passes. r.is_read from to x (back x q) passes;
  was_spelled = λ from to x bytes e. let h = r.was_spelled from to x bytes e in (there x h.0, h.1);
}

-- what a step read, and that the next ones did not fail
pub record IsStep {E X Y : Type 0} (spelling : X → List ℕ) (IsValid : X → Type 0) (next : X × Input → Read E Y) (from : Input) (y : Y × Input) (x : X × Input) : Type 0 where
  pub valid : IsValid x.0
  pub passes : Passes from (spelling x.0) x.1
  pub bytes : IsBytes x.1.rest
  pub goes_on : next x ≡ Ok y

pub step : {E X Y : Type 0} (read : Input → Read E X) (spelling : X → List ℕ) (IsValid : X → Type 0) → IsReader read spelling IsValid → (next : X × Input → Read E Y) (from : Input) (y : Y × Input) → IsBytes from.rest
    → (read from >>= next) ≡ Ok y → (x : X × Input) × IsStep spelling IsValid next from y x
step read spelling IsValid reader next from y bytes e =
    let b = bind_ok (read from) next y e in
    let h = reader.was_spelled from b.0.1 b.0.0 bytes b.1 in
    (b.0, record { valid = h.0; passes = h.1; bytes = passes_bytes from b.0.1 (spelling b.0.0) bytes h.1; goes_on = b.2 })

-- ---- plain fields

of_field_ok : {E A : Type 0} (convert : WireError → E) (r : Read WireError A) (y : A × Input) → of_field convert r ≡ Ok y → r ≡ Ok y
of_field_ok convert (Ok x) y e = ap (λ z. Ok z) (done_is x y e)
of_field_ok convert (Err d) y e = absurd cc

pub number_field_reader : {E : Type 0} (convert : WireError → E) → IsReader (number_field convert) u32_bytes (λ n. n < 2 ^ 32)
number_field_reader convert = record {
  is_read = λ from to n lt passes. rw (u32_where_spelled.is_read from to n lt passes) refl;
  was_spelled = λ from to n bytes e. u32_where_spelled.was_spelled from to n bytes (of_field_ok convert (u32_at from) (n, to) e);
}

none_from_test : {A : Type 0} (o : Option A) → is_none o ≡ true → o ≡ None
none_from_test None e = refl
none_from_test (Some x) e = absurd cc

test_from_none : {A : Type 0} (o : Option A) → o ≡ None → is_none o ≡ true
test_from_none o e = rw e refl

pub text_field_reader : {E : Type 0} (convert : WireError → E) → IsReader (text_field convert) text_bytes IsText
unfolding is_text
text_field_reader convert = record {
  is_read = λ from to t valid passes. rw (text_where_spelled.is_read false from to t (test_from_none (refusal t) valid) passes) refl;
  was_spelled = λ from to t bytes e. let h = text_where_spelled.was_spelled false from to t bytes (of_field_ok convert (text_at false from) (t, to) e) in (none_from_test (refusal t) h.0, h.1);
}

pub any_text_field_reader : {E : Type 0} (convert : WireError → E) → IsReader (any_text_field convert) text_bytes IsTextOrEmpty
unfolding is_text
any_text_field_reader convert = record {
  is_read = λ from to t valid passes. rw (text_where_spelled.is_read true from to t (test_from_none (refusal_or_empty t) valid) passes) refl;
  was_spelled = λ from to t bytes e. let h = text_where_spelled.was_spelled true from to t bytes (of_field_ok convert (text_at true from) (t, to) e) in (none_from_test (refusal_or_empty t) h.0, h.1);
}

-- ---- fields that pass a test

pub tested_reader : {E A : Type 0} (read : Input → Read E A) (spelling : A → List ℕ) (P : A → Type 0) (fault : ℕ → E) (passes : A → Bool) → IsReader read spelling P → IsReader (tested_at read fault passes) spelling (λ x. P x × (passes x ≡ true))
tested_reader {E} {A} read spelling P fault passes reader = record {
  is_read = λ from to x valid there. rw (reader.is_read from to x valid.0 there, valid.1) refl;
  was_spelled = λ from to x bytes e.
      let s = step read spelling P reader (λ y. cond (passes y.0) (Ok y) (Err (fault from.at))) from (x, to) bytes e in
      let t = test_ok (passes s.0.0) (fault from.at) (Ok s.0) (x, to) s.1.goes_on in
      subst (λ (y : A × Input). (P y.0 × (passes y.0 ≡ true)) × Passes from (spelling y.0) y.1) (done_is s.0 (x, to) t.1) ((s.1.valid, t.0), s.1.passes);
}

pub either_true : {P : Type 0} (a b : Bool) → (a || b) ≡ true → (a ≡ true → P) → (b ≡ true → P) → P
either_true true b e p q = p refl
either_true false b e p q = q e
