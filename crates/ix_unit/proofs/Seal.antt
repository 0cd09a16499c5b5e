-- The digest behind the fields.
use Rattle.std.proofs.Common.{◌≡◌, ℕ, ◌+◌, ◌-◌, Bool, true, false, cond, nat_lt, nat_eq, List, ◌++◌, length, take, Option, Some, None, refl, sym, ◌∙◌, arith}
use Rattle.std.specs.Cmp.Lexicographic.{pointwise, same_text}
use Rattle.std.proofs.lemmas.Bool.{ltb-false}
use Rattle.std.proofs.lemmas.Cmp.{nat_list_eq_equiv}
use Rattle.std.proofs.lemmas.List.{take_at, drop_at, take_all, length-append}
use Rattle.sha2.specs.Sha256.{sha256}
use Rattle.sha2.proofs.Facts256.{length-sha256}
use Rattle.ix_unit.specs.declared.fault.UnitError.{UnitError}
use Rattle.ix_unit.specs.declared.fault.UnitError.TheVariants.{Short, BadDigest, Trailing}
use Rattle.ix_unit.specs.Reading.{seal_fault}

-- what is wrong with the bytes behind the body, at their place
abbrev judged : List ℕ → List ℕ → ℕ → Option UnitError
judged body rest at =
    cond (nat_lt (length rest) 32) (Some Short)
    (cond (pointwise nat_eq (take 32 rest) (sha256 body)) (cond (nat_lt 32 (length rest)) (Some (Trailing (at + 32))) None)
    (Some BadDigest))

seal_is : (body rest : List ℕ) (at : ℕ) → length body ≡ at → seal_fault (body ++ rest) at ≡ judged body rest at
unfolding seal_fault
seal_is body rest at len =
    let left : length (body ++ rest) - at ≡ length rest = omega (arith, length-append body rest, len) in
    rw (left, drop_at body rest at len, take_at body rest at len) refl

pub sealed : (body : List ℕ) (at : ℕ) → length body ≡ at → seal_fault (body ++ sha256 body) at ≡ None
sealed body at len =
    let n = length-sha256 body in
    let all : take 32 (sha256 body) ≡ sha256 body = take_all 32 (sha256 body) (omega (arith, n)) in
    rw (seal_is body (sha256 body) at len, n, all, nat_list_eq_equiv.refl (sha256 body)) refl

not_some : {A : Type 0} (b : Bool) (x : A) (o : Option A) → cond b (Some x) o ≡ None → (b ≡ false) × (o ≡ None)
not_some true x o e = absurd cc
not_some false x o e = (refl, e)

passes_test : {A : Type 0} (b : Bool) (x : A) (o : Option A) → cond b o (Some x) ≡ None → (b ≡ true) × (o ≡ None)
passes_test true x o e = (refl, e)
passes_test false x o e = absurd cc

pub was_sealed : (body rest : List ℕ) (at : ℕ) → length body ≡ at → seal_fault (body ++ rest) at ≡ None → rest ≡ sha256 body
was_sealed body rest at len e =
    let whole : judged body rest at ≡ None = sym (seal_is body rest at len) ∙ e in
    let p = not_some (nat_lt (length rest) 32) Short _ whole in
    let q = passes_test (pointwise nat_eq (take 32 rest) (sha256 body)) BadDigest _ p.1 in
    let r = not_some (nat_lt 32 (length rest)) (Trailing (at + 32)) None q.1 in
    let all : take 32 rest ≡ rest = take_all 32 rest (ltb-false 32 (length rest) r.0) in
    sym all ∙ same_text (take 32 rest) (sha256 body) (sym q.0)
