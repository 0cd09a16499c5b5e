-- What formats are made of: fields, fields that pass a test, and rising lists of items.
use Rattle.std.specs.Prelude.{ℕ, zero, suc, ◌-◌, if◌then◌else◌, List, [], ◌∷◌, length, slice_get, Bool, true, false, Option, Some, None, Ok, Err}
use Rattle.std.specs.declared.cmp.Ordering.{Ordering}
use Rattle.std.specs.Ordering.{is_lt}
use Rattle.ix_wire.specs.declared.fault.WireError.{WireError}
use Rattle.ix_wire.specs.Input.{Input}
use Rattle.ix_wire.specs.Read.{Read, ◌>>=◌}
use Rattle.ix_wire.specs.Reading.{u32_at, text_at}

-- ---- fields

-- a field's fault as one of the format
abbrev pub of_field : {E A : Type 0} → (WireError → E) → Read WireError A → Read E A
of_field convert (Ok x) = Ok x
of_field convert (Err e) = Err (convert e)

abbrev pub number_field : {E : Type 0} → (WireError → E) → Input → Read E ℕ
number_field convert from = of_field convert (u32_at from)

-- a text of at least one byte
abbrev pub text_field : {E : Type 0} → (WireError → E) → Input → Read E (List ℕ)
text_field convert from = of_field convert (text_at false from)

-- a text that may be empty
abbrev pub any_text_field : {E : Type 0} → (WireError → E) → Input → Read E (List ℕ)
any_text_field convert from = of_field convert (text_at true from)

-- a field that passes the test, or a fault at its place
abbrev pub tested_at : {E A : Type 0} → (Input → Read E A) → (ℕ → E) → (A → Bool) → Input → Read E A
tested_at read fault passes from = do
  x ← read from
  if passes x.0 then Ok x else Err (fault from.at)

-- ---- lists

-- the last of a list
abbrev pub last_of : {X : Type 0} → List X → Option X
last_of xs = slice_get xs (length xs - 1)

-- whether the next is greater than the last, if there is one
abbrev pub may_follow : {X : Type 0} → (X → X → Ordering) → Option X → X → Bool
may_follow cmp None next = true
may_follow cmp (Some last) next = is_lt (cmp last next)

-- So many items, each greater than the one before it. Where one isn't, it is read whole before it is refused.
unfoldable pub items_at : {E X : Type 0} → (ℕ → E) → (Input → Read E X) → (X → X → Ordering) → ℕ → Option X → Input → Read E (List X)
items_at out_of_order read cmp zero before from = Ok ([], from)
items_at out_of_order read cmp (suc n) before from = do
  first ← read from
  if may_follow cmp before first.0 then (items_at out_of_order read cmp n (Some first.0) first.1 >>= λ others. Ok (first.0 ∷ others.0, others.1))
      else Err (out_of_order from.at)
