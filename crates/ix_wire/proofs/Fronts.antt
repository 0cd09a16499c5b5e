-- What a reader makes of the front of some bytes: fields, fields that pass a test, a reader behind another, and rising lists.
use Rattle.std.proofs.Common.{◌≡◌, ◌≢◌, ℕ, zero, suc, ◌≤◌, Bool, true, false, cond, ltb, List, ◌++◌, length, take, Option, Some, None, Ok, Err, inl, inr, refl, ap, arith}
use Rattle.std.specs.declared.cmp.Ordering.{Ordering}
use Rattle.std.specs.Int.{w32, w64, from_be_bytes}
use Rattle.std.proofs.lemmas.Bool.{cases_lt, lt-ltb, le-ltb}
use Rattle.std.proofs.lemmas.List.{length-append, take-append-le, drop-append-le}
use Rattle.ix_types.specs.Text.{max_text_len}
use Rattle.ix_wire.specs.declared.fault.WireError.{WireError}
use Rattle.ix_wire.specs.declared.fault.WireError.TheVariants.{Short, BadText}
use Rattle.ix_wire.specs.Fronts.{with_more, read_with_more, IsShortOrSame, ReadsFronts, FieldReadsFronts}
use Rattle.ix_wire.specs.Grammar.{of_field, number_field, text_field, any_text_field, tested_at, may_follow, items_at}
use Rattle.ix_wire.specs.Input.{Input, skip}
use Rattle.ix_wire.specs.Read.{Read, ◌>>=◌}
use Rattle.ix_wire.specs.Reading.{u32_at, u64_at, is_text, text_of, text_at}

-- ---- a reader behind another

pub front_then : {E X Y : Type 0} (short : E) (more : List ℕ) (front all : Read E X) (next next_of_all : X × Input → Read E Y) → IsShortOrSame short more front all
    → ((x : X) (to : Input) → IsShortOrSame short more (next (x, to)) (next_of_all (x, with_more more to))) → IsShortOrSame short more (front >>= next) (all >>= next_of_all)
front_then short more front all next next_of_all (inl ran_short) behind = inl (rw ran_short refl)
front_then short more (Ok x) all next next_of_all (inr same) behind = rw same (behind x.0 x.1)
front_then short more (Err e) all next next_of_all (inr same) behind = inr (rw same refl)

-- what was read decides by a test
pub front_test : {E X : Type 0} (short : E) (more : List ℕ) (b : Bool) (front all other other_of_all : Read E X) → IsShortOrSame short more front all → IsShortOrSame short more other other_of_all
    → IsShortOrSame short more (cond b front other) (cond b all other_of_all)
front_test short more true front all other other_of_all p q = p
front_test short more false front all other other_of_all p q = q

-- ---- what the front answers

pub front_read : {E X : Type 0} (short : E) (more : List ℕ) (front all : Read E X) (x : X) (to : Input) → IsShortOrSame short more front all → front ≡ Ok (x, to) → all ≡ Ok (x, with_more more to)
front_read short more front all x to (inl ran_short) is_read = absurd cc
front_read short more front all x to (inr same) is_read = rw (same, is_read) refl

pub front_refused : {E X : Type 0} (short : E) (more : List ℕ) (front all : Read E X) (e : E) → e ≢ short → IsShortOrSame short more front all → front ≡ Err e → all ≡ Err e
front_refused short more front all e is_other (inl ran_short) is_refused =
    let is_short : e ≡ short = cc in
    absurd (is_other is_short)
front_refused short more front all e is_other (inr same) is_refused = rw (same, is_refused) refl

-- ---- numbers

number_front : {E : Type 0} (n : ℕ) (f : List ℕ → ℕ) (fault : E) (more : List ℕ) (from : Input)
    → IsShortOrSame fault more (cond (ltb (length from.rest) n) (Err fault) (Ok (f (take n from.rest), skip n from))) (cond (ltb (length (from.rest ++ more)) n) (Err fault) (Ok (f (take n (from.rest ++ more)), skip n (with_more more from))))
number_front n f fault more from =
    elim (cases_lt (length from.rest) n) [
      | inl lt ↦ inl (rw (lt-ltb (length from.rest) n lt) refl)
      | inr le ↦
          let long : n ≤ length (from.rest ++ more) = omega (arith, le, length-append from.rest more) in
          inr (rw (le-ltb (length from.rest) n le, le-ltb (length (from.rest ++ more)) n long, take-append-le n from.rest more le, drop-append-le n from.rest more le) refl)
    ]

pub u32_front : FieldReadsFronts u32_at
unfolding u32_at
u32_front more from = number_front 4 (from_be_bytes w32) (Short from.at) more from

pub u64_front : FieldReadsFronts u64_at
unfolding u64_at
u64_front more from = number_front 8 (from_be_bytes w64) (Short from.at) more from

-- ---- texts

text_is_same : (b : Bool) (text : List ℕ) (fault : WireError) (more : List ℕ) (to : Input) → cond b (Ok (text, with_more more to)) (Err fault) ≡ read_with_more more (cond b (Ok (text, to)) (Err fault))
text_is_same true text fault more to = refl
text_is_same false text fault more to = refl

text_of_front : (may_be_empty : Bool) (start len : ℕ) (more : List ℕ) (from : Input) → IsShortOrSame (Short start) more (text_of may_be_empty start len from) (text_of may_be_empty start len (with_more more from))
unfolding text_of
text_of_front may_be_empty start len more from =
    elim (cases_lt max_text_len len) [
      | inl lt ↦ inr (rw (lt-ltb max_text_len len lt) refl)
      | inr short ↦
          elim (cases_lt (length from.rest) len) [
            | inl lt ↦ inl (rw (le-ltb max_text_len len short, lt-ltb (length from.rest) len lt) refl)
            | inr le ↦
                let long : len ≤ length (from.rest ++ more) = omega (arith, le, length-append from.rest more) in
                inr (rw (le-ltb max_text_len len short, le-ltb (length from.rest) len le, le-ltb (length (from.rest ++ more)) len long, take-append-le len from.rest more le, drop-append-le len from.rest more le) (text_is_same (is_text may_be_empty (take len from.rest)) (take len from.rest) (BadText start) more (skip len from)))
          ]
    ]

pub text_front : (may_be_empty : Bool) → FieldReadsFronts (text_at may_be_empty)
unfolding text_at
text_front may_be_empty more from = front_then (Short from.at) more (u32_at from) (u32_at (with_more more from)) _ _ (u32_front more from) (λ len to. text_of_front may_be_empty from.at len more to)

-- ---- fields of a format, in whose faults running short has no place

of_field_front : {E X : Type 0} (convert : WireError → E) (short : E) (at : ℕ) (more : List ℕ) (front all : Read WireError X) → convert (Short at) ≡ short
    → IsShortOrSame (Short at) more front all → IsShortOrSame short more (of_field convert front) (of_field convert all)
of_field_front convert short at more front all e (inl ran_short) = inl (rw ran_short (ap (λ x. Err x) e))
of_field_front convert short at more (Ok x) all e (inr same) = inr (rw same refl)
of_field_front convert short at more (Err d) all e (inr same) = inr (rw same refl)

pub number_field_front : {E : Type 0} (convert : WireError → E) (short : E) → ((at : ℕ) → convert (Short at) ≡ short) → ReadsFronts short (number_field convert)
number_field_front convert short e more from = of_field_front convert short from.at more (u32_at from) (u32_at (with_more more from)) (e from.at) (u32_front more from)

pub text_field_front : {E : Type 0} (convert : WireError → E) (short : E) → ((at : ℕ) → convert (Short at) ≡ short) → ReadsFronts short (text_field convert)
text_field_front convert short e more from = of_field_front convert short from.at more (text_at false from) (text_at false (with_more more from)) (e from.at) (text_front false more from)

pub any_text_field_front : {E : Type 0} (convert : WireError → E) (short : E) → ((at : ℕ) → convert (Short at) ≡ short) → ReadsFronts short (any_text_field convert)
any_text_field_front convert short e more from = of_field_front convert short from.at more (text_at true from) (text_at true (with_more more from)) (e from.at) (text_front true more from)

-- ---- fields that pass a test

pub tested_front : {E A : Type 0} (short : E) (read : Input → Read E A) (fault : ℕ → E) (passes : A → Bool) → ReadsFronts short read → ReadsFronts short (tested_at read fault passes)
tested_front short read fault passes reads more from =
    front_then short more (read from) (read (with_more more from)) _ _ (reads more from)
    (λ x to. front_test short more (passes x) (Ok (x, to)) (Ok (x, with_more more to)) (Err (fault from.at)) (Err (fault from.at)) (inr refl) (inr refl))

-- ---- rising lists

items_front : {E X : Type 0} (short : E) (out_of_order : ℕ → E) (read : Input → Read E X) (cmp : X → X → Ordering) → ReadsFronts short read
    → (count : ℕ) (before : Option X) → ReadsFronts short (items_at out_of_order read cmp count before)
unfolding items_at
items_front short out_of_order read cmp reads zero before more from = inr refl
items_front short out_of_order read cmp reads (suc n) before more from =
    front_then short more (read from) (read (with_more more from)) _ _ (reads more from)
    (λ x to. front_test short more (may_follow cmp before x) _ _ (Err (out_of_order from.at)) (Err (out_of_order from.at))
    (front_then short more (items_at out_of_order read cmp n (Some x) to) (items_at out_of_order read cmp n (Some x) (with_more more to)) _ _ (items_front short out_of_order read cmp reads n (Some x) more to) (λ xs end. inr refl)) (inr refl))

pub rising_front : {E X : Type 0} (short : E) (out_of_order : ℕ → E) (read : Input → Read E X) (cmp : X → X → Ordering) → ReadsFronts short read
    → (count : ℕ) → ReadsFronts short (items_at out_of_order read cmp count None)
rising_front short out_of_order read cmp reads count = items_front short out_of_order read cmp reads count None
