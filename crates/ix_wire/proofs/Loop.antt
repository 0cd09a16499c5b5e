-- Reading items one after the other, as a loop does.
use Rattle.std.proofs.Common.{◌≡◌, ℕ, suc, ◌-◌, ◌+◌, ◌≤◌, ◌<◌, inl, inr, true, false, List, [], ◌∷◌, ◌++◌, length, Some, Ok, Err, refl, sym, ap, ◌∙◌, append_assoc, arith}
use Rattle.std.specs.declared.cmp.Ordering.{Ordering}
use Rattle.std.proofs.lemmas.List.{append-nil, get_or_push, length-append}
use Rattle.std.proofs.lemmas.Option.{slice_get-get_or}
use Rattle.ix_wire.specs.Grammar.{last_of, may_follow, items_at}
use Rattle.ix_wire.specs.Input.{Input}
use Rattle.ix_wire.specs.Read.{Read, ◌>>=◌, Fails}

-- what was read before, and what is still read
abbrev pub with_front : {E X : Type 0} → List X → Read E (List X) → Read E (List X)
with_front front read = read >>= λ x. Ok (front ++ x.0, x.1)

-- the items that are still to be read, behind those at the front
abbrev pub still : {E X : Type 0} → (ℕ → E) → (Input → Read E X) → (X → X → Ordering) → List X → ℕ → Input → Read E (List X)
still out_of_order read cmp front count from = with_front front (items_at out_of_order read cmp count (last_of front) from)

regroup : {E X : Type 0} (front : List X) (x : X) (read : Read E (List X)) → with_front front (read >>= λ xs. Ok (x ∷ xs.0, xs.1)) ≡ with_front (front ++ x ∷ []) read
regroup {E} {X} front x (Ok xs) = ap (λ (ys : List X). Ok (ys, xs.1)) (simp append_assoc)
regroup front x (Err f) = refl

last_of-push : {X : Type 0} (front : List X) (x : X) → last_of (front ++ x ∷ []) ≡ Some x
last_of-push front x =
    let k : length (front ++ x ∷ []) - 1 ≡ length front = omega (arith, length-append front (x ∷ [])) in
    let lt : length front < length (front ++ x ∷ []) = omega (arith, length-append front (x ∷ [])) in
    rw (k, slice_get-get_or (front ++ x ∷ []) (length front) x lt, get_or_push front x x (length front) refl) refl

pub goes_on : {E X : Type 0} (out_of_order : ℕ → E) (read : Input → Read E X) (cmp : X → X → Ordering) (front : List X) (count i : ℕ) (from to : Input) (x : X) (total : Read E (List X)) → i < count
    → read from ≡ Ok (x, to) → may_follow cmp (last_of front) x ≡ true → still out_of_order read cmp front (count - i) from ≡ total → still out_of_order read cmp (front ++ x ∷ []) (count - (i + 1)) to ≡ total
unfolding items_at
goes_on out_of_order read cmp front count i from to x total lt h follows so_far =
    let k : count - i ≡ suc (count - (i + 1)) = omega arith in
    let one : still out_of_order read cmp front (count - i) from ≡ still out_of_order read cmp (front ++ x ∷ []) (count - (i + 1)) to = rw (k, h, follows, last_of-push front x) (regroup front x (items_at out_of_order read cmp (count - (i + 1)) (Some x) to)) in
    sym one ∙ so_far

pub ends : {E X : Type 0} (out_of_order : ℕ → E) (read : Input → Read E X) (cmp : X → X → Ordering) (front : List X) (count i : ℕ) (from : Input) (memory e : E) (total : Read E (List X)) → i < count
    → Fails memory e (read from) → still out_of_order read cmp front (count - i) from ≡ total → Fails memory e total
unfolding items_at
ends out_of_order read cmp front count i from memory e total lt (inl m) so_far = inl m
ends out_of_order read cmp front count i from memory e total lt (inr h) so_far =
    let k : count - i ≡ suc (count - (i + 1)) = omega arith in
    let one : still out_of_order read cmp front (count - i) from ≡ Err e = rw (k, h) refl in
    inr (sym so_far ∙ one)

pub falls_back : {E X : Type 0} (out_of_order : ℕ → E) (read : Input → Read E X) (cmp : X → X → Ordering) (front : List X) (count i : ℕ) (from to : Input) (x : X) (total : Read E (List X)) → i < count
    → read from ≡ Ok (x, to) → may_follow cmp (last_of front) x ≡ false → still out_of_order read cmp front (count - i) from ≡ total → total ≡ Err (out_of_order from.at)
unfolding items_at
falls_back out_of_order read cmp front count i from to x total lt h follows so_far =
    let k : count - i ≡ suc (count - (i + 1)) = omega arith in
    let one : still out_of_order read cmp front (count - i) from ≡ Err (out_of_order from.at) = rw (k, h, follows) refl in
    sym so_far ∙ one

pub is_done : {E X : Type 0} (out_of_order : ℕ → E) (read : Input → Read E X) (cmp : X → X → Ordering) (front : List X) (count i : ℕ) (from : Input) (total : Read E (List X)) → count ≤ i → still out_of_order read cmp front (count - i) from ≡ total → total ≡ Ok (front, from)
unfolding items_at
is_done {E} {X} out_of_order read cmp front count i from total le so_far =
    let k : count - i ≡ 0 = omega arith in
    let one : still out_of_order read cmp front (count - i) from ≡ Ok (front, from) = rw k (ap (λ (xs : List X). Ok (xs, from)) (append-nil front)) in
    sym so_far ∙ one
