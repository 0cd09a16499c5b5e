-- Counts by name: what one count more or less leaves at each name.
use Rattle.std.proofs.Common.{◌≡◌, ℕ, ◌+◌, ◌-◌, ◌<◌, ◌≤◌, Bool, true, false, cond, ◌⊎◌, inl, inr, List, [], ◌∷◌, ◌++◌, Option, Some, None, refl, sym, ap, subst, ◌∙◌, arith}
use Rattle.std.specs.declared.cmp.Ordering.TheVariants.{Less, Equal, Greater}
use Rattle.std.specs.Ordering.{match_ordering, is_eq}
use Rattle.std.specs.FinMap.{IsAntisymmetric, nat_cmp-IsAntisymmetric, slice_cmp-IsAntisymmetric}
use Rattle.std.specs.List.{AllByRecursion}
use Rattle.std.specs.Str.{bytes_eq}
use Rattle.std.proofs.lemmas.Cmp.{eq_by_cmp_equiv, nat_list_cmp_total}
use Rattle.std.proofs.lemmas.List.Sums.{sum_by-append}
use Rattle.std.proofs.lemmas.Map.Text.{is_eq-slice_cmp}
use Rattle.std.proofs.lemmas.Slice.Eq.{bytes_eq-Decides}
use Rattle.ix_types.specs.Row.{text_cmp}
use Rattle.ix_pages.specs.Pairs.{IsRising, look_up, with_pair, without_key}
use Rattle.ix_pages.specs.Paging.{pairs_of, pages_with, pages_without, ArePages}
use Rattle.ix_guard.specs.Counts.{Counts, or_none, count_at, times, AreCountPages}

-- ---- names

pub names-same : IsAntisymmetric text_cmp
names-same = slice_cmp-IsAntisymmetric nat_cmp-IsAntisymmetric

pub ties_itself : (k : List ℕ) → is_eq (text_cmp k k) ≡ true
ties_itself k = (eq_by_cmp_equiv nat_list_cmp_total).refl k

pub is_itself : (k : List ℕ) → bytes_eq k k ≡ true
is_itself k = (bytes_eq-Decides k k).1 refl

-- two names are the same one, or no test takes them for one
pub same_or_apart : (k q : List ℕ) → (k ≡ q) ⊎ ((is_eq (text_cmp q k) ≡ false) × (bytes_eq k q ≡ false))
same_or_apart k q = (elim (bytes_eq k q) as (λ b. bytes_eq k q ≡ b → (k ≡ q) ⊎ ((is_eq (text_cmp q k) ≡ false) × (b ≡ false))) [
  | true ↦ λ e. inl ((bytes_eq-Decides k q).0 e)
  | false ↦ λ e. inr (turned e, refl)
]) refl
  where
    turned_at : bytes_eq k q ≡ false → (b : Bool) → bytes_eq q k ≡ b → b ≡ false
    turned_at e true f = sym ((bytes_eq-Decides k q).1 (sym ((bytes_eq-Decides q k).0 f))) ∙ e
    turned_at e false f = refl

    turned : bytes_eq k q ≡ false → is_eq (text_cmp q k) ≡ false
    turned e = is_eq-slice_cmp q k ∙ turned_at e (bytes_eq q k) refl

-- ---- look-ups

module _ {V : Type 0} where
  look_up_here : (k : List ℕ) (v : V) (es : List (List ℕ × V)) → look_up text_cmp (with_pair text_cmp es (k, v)) k ≡ Some v
  look_up_here k v [] = ap (λ b. cond b (Some v) None) (ties_itself k)
  look_up_here k v (e ∷ es) =
      (elim (text_cmp k e.0) as (λ r. text_cmp k e.0 ≡ r → look_up text_cmp (match_ordering r ((k, v) ∷ e ∷ es) ((k, v) ∷ es) (e ∷ with_pair text_cmp es (k, v))) k ≡ Some v) [
        | Less ↦ λ c. ap (λ b. cond b (Some v) (look_up text_cmp (e ∷ es) k)) (ties_itself k)
        | Equal ↦ λ c. ap (λ b. cond b (Some v) (look_up text_cmp es k)) (ties_itself k)
        | Greater ↦ λ c. ap (λ b. cond b (Some e.1) (look_up text_cmp (with_pair text_cmp es (k, v)) k)) (ap is_eq c) ∙ look_up_here k v es
      ]) refl

  look_up_there : (k : List ℕ) (v : V) (q : List ℕ) → is_eq (text_cmp q k) ≡ false → (es : List (List ℕ × V)) → look_up text_cmp (with_pair text_cmp es (k, v)) q ≡ look_up text_cmp es q
  look_up_there k v q ne [] = ap (λ b. cond b (Some v) None) ne
  look_up_there k v q ne (e ∷ es) =
      (elim (text_cmp k e.0) as (λ r. text_cmp k e.0 ≡ r → look_up text_cmp (match_ordering r ((k, v) ∷ e ∷ es) ((k, v) ∷ es) (e ∷ with_pair text_cmp es (k, v))) q ≡ look_up text_cmp (e ∷ es) q) [
        | Less ↦ λ c. ap (λ b. cond b (Some v) (look_up text_cmp (e ∷ es) q)) ne
        | Equal ↦ λ c.
            let f : is_eq (text_cmp q e.0) ≡ false = ap (λ (z : List ℕ). is_eq (text_cmp q z)) (sym (names-same k e.0 c)) ∙ ne in
            ap (λ b. cond b (Some v) (look_up text_cmp es q)) ne ∙ sym (ap (λ b. cond b (Some e.1) (look_up text_cmp es q)) f)
        | Greater ↦ λ c. ap (λ (o : Option V). cond (is_eq (text_cmp q e.0)) (Some e.1) o) (look_up_there k v q ne es)
      ]) refl

  none_behind : (k : List ℕ) (es : List (List ℕ × V)) → AllByRecursion (λ later. text_cmp k later.0 ≡ Less) es → look_up text_cmp es k ≡ None
  none_behind k [] a = refl
  none_behind k (e ∷ es) a = ap (λ b. cond b (Some e.1) (look_up text_cmp es k)) (ap is_eq a.0) ∙ none_behind k es a.1

  gone_here : (k : List ℕ) (es : List (List ℕ × V)) → IsRising text_cmp es → look_up text_cmp (without_key text_cmp es k) k ≡ None
  gone_here k [] rising = refl
  gone_here k (e ∷ es) rising =
      (elim (text_cmp k e.0) as (λ r. text_cmp k e.0 ≡ r → look_up text_cmp (cond (is_eq r) es (e ∷ without_key text_cmp es k)) k ≡ None) [
        | Less ↦ λ c. ap (λ b. cond b (Some e.1) (look_up text_cmp (without_key text_cmp es k) k)) (ap is_eq c) ∙ gone_here k es rising.1
        | Equal ↦ λ c. none_behind k es (subst (λ (z : List ℕ). AllByRecursion (λ later. text_cmp z later.0 ≡ Less) es) (sym (names-same k e.0 c)) rising.0)
        | Greater ↦ λ c. ap (λ b. cond b (Some e.1) (look_up text_cmp (without_key text_cmp es k) k)) (ap is_eq c) ∙ gone_here k es rising.1
      ]) refl

  gone_there : (k q : List ℕ) → is_eq (text_cmp q k) ≡ false → (es : List (List ℕ × V)) → look_up text_cmp (without_key text_cmp es k) q ≡ look_up text_cmp es q
  gone_there k q ne [] = refl
  gone_there k q ne (e ∷ es) =
      (elim (text_cmp k e.0) as (λ r. text_cmp k e.0 ≡ r → look_up text_cmp (cond (is_eq r) es (e ∷ without_key text_cmp es k)) q ≡ look_up text_cmp (e ∷ es) q) [
        | Less ↦ λ c. ap (λ (o : Option V). cond (is_eq (text_cmp q e.0)) (Some e.1) o) (gone_there k q ne es)
        | Equal ↦ λ c.
            let f : is_eq (text_cmp q e.0) ≡ false = ap (λ (z : List ℕ). is_eq (text_cmp q z)) (sym (names-same k e.0 c)) ∙ ne in
            sym (ap (λ b. cond b (Some e.1) (look_up text_cmp es q)) f)
        | Greater ↦ λ c. ap (λ (o : Option V). cond (is_eq (text_cmp q e.0)) (Some e.1) o) (gone_there k q ne es)
      ]) refl

  -- ---- what holds of each pair

  pub all_with : (P : List ℕ × V → Type 0) (k : List ℕ) (v : V) (es : List (List ℕ × V)) → P (k, v) → AllByRecursion P es → AllByRecursion P (with_pair text_cmp es (k, v))
  all_with P k v [] p a = (p, tt)
  all_with P k v (e ∷ es) p a =
      elim (text_cmp k e.0) as (λ r. AllByRecursion P (match_ordering r ((k, v) ∷ e ∷ es) ((k, v) ∷ es) (e ∷ with_pair text_cmp es (k, v)))) [
        | Less ↦ (p, a)
        | Equal ↦ (p, a.1)
        | Greater ↦ (a.0, all_with P k v es p a.1)
      ]

  pub all_without : (P : List ℕ × V → Type 0) (k : List ℕ) (es : List (List ℕ × V)) → AllByRecursion P es → AllByRecursion P (without_key text_cmp es k)
  all_without P k [] a = a
  all_without P k (e ∷ es) a =
      elim (is_eq (text_cmp k e.0)) as (λ b. AllByRecursion P (cond b es (e ∷ without_key text_cmp es k))) [
        | true ↦ a.1
        | false ↦ (a.0, all_without P k es a.1)
      ]

-- ---- how often a name stands among some

pub times-append : (name : List ℕ) (xs ys : List (List ℕ)) → times name (xs ++ ys) ≡ times name xs + times name ys
times-append name xs ys = sum_by-append (λ other. cond (bytes_eq other name) 1 0) xs ys

pub once : (k : List ℕ) → times k (k ∷ []) ≡ 1
once k = ap (λ b. 0 + cond b 1 0) (is_itself k)

pub never : (k q : List ℕ) → bytes_eq k q ≡ false → times q (k ∷ []) ≡ 0
never k q ne = ap (λ b. 0 + cond b 1 0) ne

-- ---- one count more or less

pub raised : (es : Counts) (k : List ℕ) (n : ℕ) → n ≡ count_at es k + 1 → (q : List ℕ) → count_at (with_pair text_cmp es (k, n)) q ≡ count_at es q + times q (k ∷ [])
raised es k n is q = go (same_or_apart k q)
  where
    go : (k ≡ q) ⊎ ((is_eq (text_cmp q k) ≡ false) × (bytes_eq k q ≡ false)) → count_at (with_pair text_cmp es (k, n)) q ≡ count_at es q + times q (k ∷ [])
    go (inl e) = subst (λ (z : List ℕ). count_at (with_pair text_cmp es (k, n)) z ≡ count_at es z + times z (k ∷ [])) e (ap or_none (look_up_here k n es) ∙ (is ∙ ap (λ m. count_at es k + m) (sym (once k))))
    go (inr ne) =
        let there : count_at (with_pair text_cmp es (k, n)) q ≡ count_at es q = ap or_none (look_up_there k n q ne.0 es) in
        let none : times q (k ∷ []) ≡ 0 = never k q ne.1 in
        omega arith

pub lowered : (es : Counts) (k : List ℕ) (n : ℕ) → n ≡ count_at es k - 1 → (q : List ℕ) → count_at (with_pair text_cmp es (k, n)) q ≡ count_at es q - times q (k ∷ [])
lowered es k n is q = go (same_or_apart k q)
  where
    go : (k ≡ q) ⊎ ((is_eq (text_cmp q k) ≡ false) × (bytes_eq k q ≡ false)) → count_at (with_pair text_cmp es (k, n)) q ≡ count_at es q - times q (k ∷ [])
    go (inl e) = subst (λ (z : List ℕ). count_at (with_pair text_cmp es (k, n)) z ≡ count_at es z - times z (k ∷ [])) e (ap or_none (look_up_here k n es) ∙ (is ∙ ap (λ m. count_at es k - m) (sym (once k))))
    go (inr ne) =
        let there : count_at (with_pair text_cmp es (k, n)) q ≡ count_at es q = ap or_none (look_up_there k n q ne.0 es) in
        let none : times q (k ∷ []) ≡ 0 = never k q ne.1 in
        omega arith

pub taken : (es : Counts) (k : List ℕ) → IsRising text_cmp es → count_at es k ≤ 1 → (q : List ℕ) → count_at (without_key text_cmp es k) q ≡ count_at es q - times q (k ∷ [])
taken es k rising few q = go (same_or_apart k q)
  where
    here : count_at (without_key text_cmp es k) k ≡ count_at es k - times k (k ∷ [])
    here =
        let gone : count_at (without_key text_cmp es k) k ≡ 0 = ap or_none (gone_here k es rising) in
        let one : times k (k ∷ []) ≡ 1 = once k in
        omega arith

    go : (k ≡ q) ⊎ ((is_eq (text_cmp q k) ≡ false) × (bytes_eq k q ≡ false)) → count_at (without_key text_cmp es k) q ≡ count_at es q - times q (k ∷ [])
    go (inl e) = subst (λ (z : List ℕ). count_at (without_key text_cmp es k) z ≡ count_at es z - times z (k ∷ [])) e here
    go (inr ne) =
        let there : count_at (without_key text_cmp es k) q ≡ count_at es q = ap or_none (gone_there k q ne.0 es) in
        let none : times q (k ∷ []) ≡ 0 = never k q ne.1 in
        omega arith

-- ---- the same over pages

at_pages : (after pages : List Counts) (es : Counts) → after ≡ pages → pairs_of pages ≡ es → (q : List ℕ) → count_at (pairs_of after) q ≡ count_at es q
at_pages after pages es is law q = ap (λ (p : List Counts). count_at (pairs_of p) q) is ∙ ap (λ (ps : Counts). count_at ps q) law

pub raised_pages : (before after : List Counts) (k : List ℕ) (n : ℕ) → pairs_of (pages_with text_cmp 64 before (k, n)) ≡ with_pair text_cmp (pairs_of before) (k, n) → after ≡ pages_with text_cmp 64 before (k, n) → n ≡ count_at (pairs_of before) k + 1 → (q : List ℕ) → count_at (pairs_of after) q ≡ count_at (pairs_of before) q + times q (k ∷ [])
raised_pages before after k n law is count q = at_pages after (pages_with text_cmp 64 before (k, n)) (with_pair text_cmp (pairs_of before) (k, n)) is law q ∙ raised (pairs_of before) k n count q

pub lowered_pages : (before after : List Counts) (k : List ℕ) (n : ℕ) → pairs_of (pages_with text_cmp 64 before (k, n)) ≡ with_pair text_cmp (pairs_of before) (k, n) → after ≡ pages_with text_cmp 64 before (k, n) → n ≡ count_at (pairs_of before) k - 1 → (q : List ℕ) → count_at (pairs_of after) q ≡ count_at (pairs_of before) q - times q (k ∷ [])
lowered_pages before after k n law is count q = at_pages after (pages_with text_cmp 64 before (k, n)) (with_pair text_cmp (pairs_of before) (k, n)) is law q ∙ lowered (pairs_of before) k n count q

pub taken_pages : (before after : List Counts) (k : List ℕ) → pairs_of (pages_without text_cmp before k) ≡ without_key text_cmp (pairs_of before) k → after ≡ pages_without text_cmp before k → IsRising text_cmp (pairs_of before) → count_at (pairs_of before) k ≤ 1 → (q : List ℕ) → count_at (pairs_of after) q ≡ count_at (pairs_of before) q - times q (k ∷ [])
taken_pages before after k law is rising few q = at_pages after (pages_without text_cmp before k) (without_key text_cmp (pairs_of before) k) is law q ∙ taken (pairs_of before) k rising few q

-- ---- and each name of them is needed by something

pub raised_sound : (before after : List Counts) (k : List ℕ) (n : ℕ) → pairs_of (pages_with text_cmp 64 before (k, n)) ≡ with_pair text_cmp (pairs_of before) (k, n)
    → ArePages text_cmp 64 (pages_with text_cmp 64 before (k, n)) → after ≡ pages_with text_cmp 64 before (k, n) → 0 < n → AreCountPages before → AreCountPages after
raised_sound before after k n law stay is positive sound = subst AreCountPages (sym is) (record {
  paged = stay;
  needed = subst (AllByRecursion (λ pair. 0 < pair.1)) (sym law) (all_with (λ pair. 0 < pair.1) k n (pairs_of before) positive sound.needed);
})

pub taken_sound : (before after : List Counts) (k : List ℕ) → pairs_of (pages_without text_cmp before k) ≡ without_key text_cmp (pairs_of before) k
    → ArePages text_cmp 64 (pages_without text_cmp before k) → after ≡ pages_without text_cmp before k → AreCountPages before → AreCountPages after
taken_sound before after k law stay is sound = subst AreCountPages (sym is) (record {
  paged = stay;
  needed = subst (AllByRecursion (λ pair. 0 < pair.1)) (sym law) (all_without (λ pair. 0 < pair.1) k (pairs_of before) sound.needed);
})
