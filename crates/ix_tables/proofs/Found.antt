-- What an index of facts finds under a key is what the facts give there.
use Rattle.std.proofs.Common.{◌≡◌, ◌↔◌, ℕ, ◌+◌, ◌<◌, ◌⊎◌, ◌==◌, not, inl, inr, Bool, true, false, cond, ◌&&◌, List, [], ◌∷◌, length, Contains, slice_index_or, zero, suc, refl, sym, ap, subst, ◌∙◌, arith}
use Rattle.std.specs.Ordering.{is_eq}
use Rattle.std.specs.Map.{keys_of}
use Rattle.std.specs.List.Sorted.{IsStrictlySortedBy}
use Rattle.std.proofs.lemmas.List.Sums.{sum_by-cons}
use Rattle.ix_types.specs.Row.{text_cmp}
use Rattle.ix_index.specs.Counted.{values_at, count_of, IsIndex}
use Rattle.ix_outline.specs.Balance.{is_given, times}
use Rattle.ix_outline.specs.Facts.{Fact}
use Rattle.ix_outline.specs.Finding.{values_under, keys_given}
use Rattle.ix_outline.proofs.Door.{Sets, One, values-are, keys-are, ties_itself, tied}
use Rattle.ix_tables.specs.Kept.{TextIndex}
use Rattle.ix_tables.specs.Steps.{IsIndexOf}

-- the list has the element, by cases on the list
abbrev Has : List Fact → Fact → Type 0
Has [] x = ⊥
Has (y ∷ ys) x = (y ≡ x) ⊎ Has ys x

Has-at : (xs : List Fact) (x : Fact) (k : ℕ) → k < length xs → slice_index_or xs k x ≡ x → Has xs x
Has-at [] x k below is = absurd (omega arith)
Has-at (y ∷ ys) x zero below is = inl is
Has-at (y ∷ ys) x (suc k) below is = inr (Has-at ys x k (omega arith) is)

later : (y : Fact) (ys : List Fact) (x : Fact) → Contains ys x → Contains (y ∷ ys) x
later y ys x c = (suc c.0, omega (arith, c.1), c.2)

contains : (xs : List Fact) (x : Fact) → Has xs x → Contains xs x
contains [] x h = absurd h
contains (y ∷ ys) x (inl e) = (zero, omega arith, e)
contains (y ∷ ys) x (inr h) = later y ys x (contains ys x h)

given-itself : (fact : Fact) → is_given text_cmp text_cmp fact.0 fact.1 fact ≡ true
given-itself fact = ap (λ b. b && is_eq (text_cmp fact.1 fact.1)) (ties_itself fact.0) ∙ ties_itself fact.1

both-true : (a b : Bool) → (a && b) ≡ true → (a ≡ true) × (b ≡ true)
both-true true b e = (refl, e)
both-true false b e = absurd (cc)

given-same : (key value : List ℕ) (fact : Fact) → is_given text_cmp text_cmp key value fact ≡ true → fact ≡ (key, value)
given-same key value fact e =
    let t = both-true (is_eq (text_cmp key fact.0)) (is_eq (text_cmp value fact.1)) e in
    let p : key ≡ fact.0 = tied key fact.0 t.0 in
    let q : value ≡ fact.1 = tied value fact.1 t.1 in
    λ i. (sym p i, sym q i)

has-times : (key value : List ℕ) (facts : List Fact) → Has facts (key, value) → 0 < times text_cmp text_cmp key value facts
has-times key value [] h = absurd h
has-times key value (f ∷ fs) (inl e) =
    let one : times text_cmp text_cmp key value (f ∷ fs) ≡ cond (is_given text_cmp text_cmp key value f) 1 0 + times text_cmp text_cmp key value fs = sum_by-cons (λ (fact : Fact). cond (is_given text_cmp text_cmp key value fact) 1 0) f fs in
    let here : ◌≡◌ {A = ℕ} (cond (is_given text_cmp text_cmp key value f) 1 0) 1 = ap (λ b. cond {A = ℕ} b 1 0) (subst (λ (x : Fact). is_given text_cmp text_cmp x.0 x.1 f ≡ true) e (given-itself f)) in
    omega arith
has-times key value (f ∷ fs) (inr h) =
    let one : times text_cmp text_cmp key value (f ∷ fs) ≡ cond (is_given text_cmp text_cmp key value f) 1 0 + times text_cmp text_cmp key value fs = sum_by-cons (λ (fact : Fact). cond (is_given text_cmp text_cmp key value fact) 1 0) f fs in
    let rest = has-times key value fs h in
    omega arith

times-has : (key value : List ℕ) (facts : List Fact) → 0 < times text_cmp text_cmp key value facts → Has facts (key, value)
times-has key value [] some = absurd (omega arith)
times-has key value (f ∷ fs) some =
    (elim (is_given text_cmp text_cmp key value f) as (λ b. is_given text_cmp text_cmp key value f ≡ b → (f ≡ (key, value)) ⊎ Has fs (key, value)) [
      | true ↦ λ e. inl (given-same key value f e)
      | false ↦ λ e. inr (times-has key value fs (rest e))
    ]) refl
  where
    rest : is_given text_cmp text_cmp key value f ≡ false → 0 < times text_cmp text_cmp key value fs
    rest e =
        let one : times text_cmp text_cmp key value (f ∷ fs) ≡ cond (is_given text_cmp text_cmp key value f) 1 0 + times text_cmp text_cmp key value fs = sum_by-cons (λ (fact : Fact). cond (is_given text_cmp text_cmp key value fact) 1 0) f fs in
        let here : ◌≡◌ {A = ℕ} (cond (is_given text_cmp text_cmp key value f) 1 0) 0 = ap (λ b. cond {A = ℕ} b 1 0) e in
        omega arith

-- of the laws of the index
pub record IndexLaws : Type 0 where
  pub rise : (index : TextIndex) (key : List ℕ) → IsIndex text_cmp text_cmp index → IsStrictlySortedBy text_cmp (values_at text_cmp index key)
  pub each : (index : TextIndex) (key value : List ℕ) → IsIndex text_cmp text_cmp index → Contains (values_at text_cmp index key) value ↔ (0 < count_of text_cmp text_cmp index key value)

pub record KeyLaws : Type 0 where
  pub rise : (index : TextIndex) → IsIndex text_cmp text_cmp index → IsStrictlySortedBy text_cmp (keys_of index)
  pub each : (index : TextIndex) (key : List ℕ) → IsIndex text_cmp text_cmp index → Contains (keys_of index) key ↔ ((value : List ℕ) × (0 < count_of text_cmp text_cmp index key value))

pub values-found : Sets → One → IndexLaws → (index : TextIndex) (facts : List Fact) (key : List ℕ) → IsIndexOf text_cmp text_cmp index facts → values_at text_cmp index key ≡ values_under key facts
values-found sets one laws index facts key of =
    sym (values-are sets one key facts (values_at text_cmp index key) (laws.rise index key of.sound)
    (λ value. (
      λ c. contains facts (key, value) (times-has key value facts (subst (λ n. 0 < n) (of.each key value) ((laws.each index key value of.sound).0 c))),
      λ h. (laws.each index key value of.sound).1 (subst (λ n. 0 < n) (sym (of.each key value)) (has-times key value facts (Has-at facts (key, value) h.0 h.1 h.2))),
    )))

pub keys-found : Sets → One → KeyLaws → (index : TextIndex) (facts : List Fact) → IsIndexOf text_cmp text_cmp index facts → keys_of index ≡ keys_given facts
keys-found sets one laws index facts of =
    sym (keys-are sets one facts (keys_of index) (laws.rise index of.sound)
    (λ key c. let r = (laws.each index key of.sound).0 c in (r.0, contains facts (key, r.0) (times-has key r.0 facts (subst (λ n. 0 < n) (of.each key r.0) r.1))))
    (λ key value h. (laws.each index key of.sound).1 (value, subst (λ n. 0 < n) (sym (of.each key value)) (has-times key value facts (Has-at facts (key, value) h.0 h.1 h.2)))))

-- a list that isn't empty, by what it is
pub lists-by : (found values : List (List ℕ)) (test : Bool) → found ≡ values → test ≡ not (length found == 0) → test ≡ not (length values == 0)
lists-by found values test is e = e ∙ ap (λ (xs : List (List ℕ)). not (length xs == 0)) is
