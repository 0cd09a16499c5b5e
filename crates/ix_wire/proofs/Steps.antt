-- Steps of a reader, and places between fields.
use Rattle.std.proofs.Common.{◌≡◌, ℕ, ◌+◌, ◌<◌, Bool, true, false, cond, List, ◌++◌, length, get_or, take, Result, Ok, Err, refl, sym, ap, ◌∙◌, append_assoc, arith, inl, inr}
use Rattle.std.proofs.lemmas.Bool.{cases_lt}
use Rattle.std.proofs.lemmas.List.{length-append, length-take, get_or-take, get_or-append-add, get_or_past}
use Rattle.ix_wire.specs.Input.{Input}
use Rattle.ix_wire.specs.Laws.{PassesJoin, PassesSplit, PassesBytes}
use Rattle.ix_wire.specs.Read.{Read, ◌>>=◌}
use Rattle.ix_wire.specs.Spelling.{IsBytes}

pub IsBytes-take : (n : ℕ) (bytes : List ℕ) → IsBytes bytes → IsBytes (take n bytes)
IsBytes-take n bytes h i =
    elim (cases_lt i n) [
      | inl lt ↦ rw (get_or-take n bytes i 0 lt) (h i)
      | inr le ↦ rw (get_or_past (take n bytes) i 0 (omega (arith, length-take n bytes))) (omega arith)
    ]

-- the value of a step that did not fail
pub bind_ok : {E A B : Type 0} (r : Read E A) (f : A × Input → Read E B) (y : B × Input) → (r >>= f) ≡ Ok y → (x : A × Input) × (r ≡ Ok x) × (f x ≡ Ok y)
bind_ok (Ok x) f y e = (x, refl, e)
bind_ok (Err d) f y e = absurd cc

-- a test that did not fail
pub guard_ok : {E A : Type 0} (b : Bool) (d : E) (x : Result A E) (y : A) → cond b (Err d) x ≡ Ok y → (b ≡ false) × (x ≡ Ok y)
guard_ok true d x y e = absurd cc
guard_ok false d x y e = (refl, e)

pub test_ok : {E A : Type 0} (b : Bool) (d : E) (x : Result A E) (y : A) → cond b x (Err d) ≡ Ok y → (b ≡ true) × (x ≡ Ok y)
test_ok true d x y e = (refl, e)
test_ok false d x y e = absurd cc

-- what a test decided
pub of_test : {E A : Type 0} {P : Type 0} (b : Bool) (x z : Read E A) (y : A × Input) → cond b x z ≡ Ok y → (b ≡ true → x ≡ Ok y → P) → (z ≡ Ok y → P) → P
of_test true x z y e p q = p refl e
of_test false x z y e p q = q e

abbrev pub done : (E : Type 0) {A : Type 0} → A × Input → Read E A
done E x = Ok x

pub done_is : {E A : Type 0} (x y : A × Input) → done E x ≡ done E y → x ≡ y
done_is x y e = cc

-- one read gives one value
pub read_is : {E A : Type 0} {m n : A} {a b : Input} → done E (m, a) ≡ done E (n, b) → (m ≡ n) × (a ≡ b)
read_is {E} {A} {m} {n} {a} {b} e =
    let p = done_is (m, a) (n, b) e in
    (ap (λ (q : A × Input). q.0) p, ap (λ (q : A × Input). q.1) p)

pub same_value : {E A : Type 0} (v w : A) (a b : Input) → done E (v, a) ≡ done E (w, b) → v ≡ w
same_value {E} {A} v w a b e = ap (λ (x : A × Input). x.0) (done_is (v, a) (w, b) e)

pub passes_join : PassesJoin
passes_join from mid to a b p q = record {
  parts = p.parts ∙ ap (λ (t : List ℕ). a ++ t) q.parts ∙ sym (append_assoc a b to.rest);
  moved = omega (arith, p.moved, q.moved, length-append a b);
}

pub passes_split : PassesSplit
passes_split from to a b p =
    let mid : Input = record { at = from.at + length a; rest = b ++ to.rest } in
    (mid, record { parts = p.parts ∙ append_assoc a b to.rest; moved = refl }, record { parts = refl; moved = omega (arith, p.moved, length-append a b) })

pub passes_bytes : PassesBytes
passes_bytes from to a bytes p i =
    let e : get_or (a ++ to.rest) (length a + i) 0 < 256 = rw (← p.parts) (bytes (length a + i)) in
    rw (get_or-append-add a to.rest i 0) at e
