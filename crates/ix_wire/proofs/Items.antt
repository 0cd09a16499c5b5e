-- Lists of items, each greater than the one before.
use Rattle.std.proofs.Common.{◌≡◌, ℕ, zero, suc, true, cond, List, [], ◌∷◌, ◌++◌, length, Option, Some, None, Ok, Err, refl, ap, subst, ◌∙◌, arith}
use Rattle.std.specs.declared.cmp.Ordering.{Ordering}
use Rattle.std.specs.declared.cmp.Ordering.TheVariants.{Less, Equal, Greater}
use Rattle.std.specs.Cmp.{IsTotalOrder}
use Rattle.std.specs.List.{AllByRecursion, flat_map}
use Rattle.std.specs.List.Sorted.{IsStrictlySortedBy}
use Rattle.std.specs.Ordering.{is_lt}
use Rattle.std.proofs.lemmas.List.Concat.{flat_map-cons}
use Rattle.ix_wire.specs.Grammar.{may_follow, items_at}
use Rattle.ix_wire.specs.Input.{Input, Passes}
use Rattle.ix_wire.specs.Read.{Read, ◌>>=◌}
use Rattle.ix_wire.specs.Spelling.{IsBytes}
use Rattle.ix_wire.proofs.Readers.{IsReader, step}
use Rattle.ix_wire.proofs.Steps.{bind_ok, test_ok, done, done_is, passes_join, passes_split}

-- so many valid items, strictly rising
pub record IsItems {X : Type 0} (IsValid : X → Type 0) (cmp : X → X → Ordering) (count : ℕ) (xs : List X) : Type 0 where
  pub counted : length xs ≡ count
  pub valid : AllByRecursion IsValid xs
  pub rising : IsStrictlySortedBy cmp xs

-- each item is greater than the one before the list
abbrev AreAbove : {X : Type 0} → (X → X → Ordering) → Option X → List X → Type 0
AreAbove cmp None xs = Unit {0}
AreAbove cmp (Some b) xs = AllByRecursion (λ x. cmp b x ≡ Less) xs

less_from_test : (o : Ordering) → is_lt o ≡ true → o ≡ Less
less_from_test Less e = refl
less_from_test Equal e = absurd cc
less_from_test Greater e = absurd cc

above_through : {X : Type 0} (cmp : X → X → Ordering) → IsTotalOrder cmp → (b x : X) (xs : List X) → cmp b x ≡ Less → AllByRecursion (λ y. cmp x y ≡ Less) xs → AllByRecursion (λ y. cmp b y ≡ Less) xs
above_through cmp order b x [] below above = tt
above_through cmp order b x (y ∷ ys) below above = (order.trans b x y below above.0, above_through cmp order b x ys below above.1)

above_first : {X : Type 0} (cmp : X → X → Ordering) → IsTotalOrder cmp → (before : Option X) (x : X) (xs : List X) → may_follow cmp before x ≡ true → AllByRecursion (λ y. cmp x y ≡ Less) xs → AreAbove cmp before (x ∷ xs)
above_first cmp order None x xs follows above = tt
above_first cmp order (Some b) x xs follows above =
    let below = less_from_test (cmp b x) follows in
    (below, above_through cmp order b x xs below above)

follows_from_above : {X : Type 0} (cmp : X → X → Ordering) (before : Option X) (x : X) (xs : List X) → AreAbove cmp before (x ∷ xs) → may_follow cmp before x ≡ true
follows_from_above cmp None x xs above = refl
follows_from_above cmp (Some b) x xs above = rw above.0 refl

above_none : {X : Type 0} (cmp : X → X → Ordering) (before : Option X) → AreAbove cmp before []
above_none cmp None = tt
above_none cmp (Some b) = tt

-- where nothing stands between two places, they are one
pub passes_nothing : (from to : Input) → Passes from [] to → from ≡ to
passes_nothing from to passes =
    let same_at : from.at ≡ to.at = omega (arith, passes.moved) in
    ap (λ (at : ℕ). record { at = at; rest = from.rest }) same_at ∙ ap (λ (rest : List ℕ). record { at = to.at; rest = rest }) passes.parts

items_read : {E X : Type 0} (out_of_order : ℕ → E) (read : Input → Read E X) (spelling : X → List ℕ) (IsValid : X → Type 0) (cmp : X → X → Ordering) → IsReader read spelling IsValid
    → (xs : List X) (before : Option X) (from to : Input) → AllByRecursion IsValid xs → IsStrictlySortedBy cmp xs → AreAbove cmp before xs → Passes from (flat_map spelling xs) to → items_at out_of_order read cmp (length xs) before from ≡ Ok (xs, to)
unfolding items_at IsStrictlySortedBy
items_read {E} {X} out_of_order read spelling IsValid cmp reader [] before from to valid rising above passes =
    let empty : List X = [] in
    ap (λ (i : Input). done E (empty, i)) (passes_nothing from to passes)
items_read out_of_order read spelling IsValid cmp reader (x ∷ xs) before from to valid rising above passes =
    let both : Passes from (spelling x ++ flat_map spelling xs) to = rw (← flat_map-cons spelling x xs) passes in
    let parts = passes_split from to (spelling x) (flat_map spelling xs) both in
    rw (reader.is_read from parts.0 x valid.0 parts.1, follows_from_above cmp before x xs above, items_read out_of_order read spelling IsValid cmp reader xs (Some x) parts.0 to valid.1 rising.1 rising.0 parts.2) refl

items_were_spelled : {E X : Type 0} (out_of_order : ℕ → E) (read : Input → Read E X) (spelling : X → List ℕ) (IsValid : X → Type 0) (cmp : X → X → Ordering) → IsReader read spelling IsValid → IsTotalOrder cmp
    → (count : ℕ) (before : Option X) (from : Input) (y : List X × Input) → IsBytes from.rest → items_at out_of_order read cmp count before from ≡ Ok y → IsItems IsValid cmp count y.0 × AreAbove cmp before y.0 × Passes from (flat_map spelling y.0) y.1
unfolding items_at IsStrictlySortedBy
items_were_spelled {E} {X} out_of_order read spelling IsValid cmp reader order zero before from y bytes e =
    let nothing : Passes from (flat_map spelling []) from = record { parts = refl; moved = omega arith } in
    subst (λ (z : List X × Input). IsItems IsValid cmp 0 z.0 × AreAbove cmp before z.0 × Passes from (flat_map spelling z.0) z.1) (done_is ([], from) y e) (record { counted = refl; valid = tt; rising = tt }, above_none cmp before, nothing)
items_were_spelled {E} {X} out_of_order read spelling IsValid cmp reader order (suc n) before from y bytes e =
    let s = step read spelling IsValid reader (λ x. cond (may_follow cmp before x.0) (items_at out_of_order read cmp n (Some x.0) x.1 >>= λ xs. Ok (x.0 ∷ xs.0, xs.1)) (Err (out_of_order from.at))) from y bytes e in
    let x = s.0 in
    let t = test_ok (may_follow cmp before x.0) (out_of_order from.at) (items_at out_of_order read cmp n (Some x.0) x.1 >>= λ xs. Ok (x.0 ∷ xs.0, xs.1)) y s.1.goes_on in
    let b = bind_ok (items_at out_of_order read cmp n (Some x.0) x.1) (λ xs. Ok (x.0 ∷ xs.0, xs.1)) y t.1 in
    let rest = items_were_spelled out_of_order read spelling IsValid cmp reader order n (Some x.0) x.1 b.0 s.1.bytes b.1 in
    let made : List X × Input = (x.0 ∷ b.0.0, b.0.1) in
    let joined = passes_join from x.1 b.0.1 (spelling x.0) (flat_map spelling b.0.0) s.1.passes rest.2 in
    let whole : Passes from (flat_map spelling (x.0 ∷ b.0.0)) b.0.1 = rw (flat_map-cons spelling x.0 b.0.0) joined in
    let items : IsItems IsValid cmp (suc n) (x.0 ∷ b.0.0) = record { counted = ap suc rest.0.counted; valid = (s.1.valid, rest.0.valid); rising = (rest.1, rest.0.rising) } in
    subst (λ (z : List X × Input). IsItems IsValid cmp (suc n) z.0 × AreAbove cmp before z.0 × Passes from (flat_map spelling z.0) z.1) (done_is made y b.2) (items, above_first cmp order before x.0 b.0.0 t.0 rest.1, whole)

pub items_reader : {E X : Type 0} (out_of_order : ℕ → E) (read : Input → Read E X) (spelling : X → List ℕ) (IsValid : X → Type 0) (cmp : X → X → Ordering) → IsReader read spelling IsValid → IsTotalOrder cmp → (count : ℕ)
    → IsReader (items_at out_of_order read cmp count None) (flat_map spelling) (IsItems IsValid cmp count)
items_reader out_of_order read spelling IsValid cmp reader order count = record {
  is_read = λ from to xs items passes. rw (← items.counted) (items_read out_of_order read spelling IsValid cmp reader xs None from to items.valid items.rising tt passes);
  was_spelled = λ from to xs bytes e. let h = items_were_spelled out_of_order read spelling IsValid cmp reader order count None from (xs, to) bytes e in (h.0, h.2);
}
