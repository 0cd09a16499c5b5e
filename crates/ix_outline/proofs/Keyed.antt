-- Rising pairs under names: what one pair more or less leaves under each name, and that names keep rising.
use Rattle.std.proofs.Common.{◌≡◌, ℕ, Bool, true, false, cond, ◌⊎◌, inl, inr, List, [], ◌∷◌, Option, Some, None, refl, sym, ap, subst, ◌∙◌}
use Rattle.std.specs.declared.cmp.Ordering.TheVariants.{Less, Equal, Greater}
use Rattle.std.specs.Ordering.{match_ordering, is_eq, ordering_reverse}
use Rattle.std.specs.Cmp.{IsTotalOrder}
use Rattle.std.specs.FinMap.{IsAntisymmetric, nat_cmp-IsAntisymmetric, slice_cmp-IsAntisymmetric}
use Rattle.std.specs.List.{AllByRecursion}
use Rattle.std.specs.Str.{bytes_eq}
use Rattle.std.proofs.lemmas.Cmp.{eq_by_cmp_equiv, nat_list_cmp_total}
use Rattle.std.proofs.lemmas.Map.Text.{is_eq-slice_cmp}
use Rattle.std.proofs.lemmas.Slice.Eq.{bytes_eq-Decides}
use Rattle.ix_types.specs.Row.{text_cmp}
use Rattle.ix_pages.specs.Pairs.{IsRising, look_up, with_pair, without_key}

pub names-same : IsAntisymmetric text_cmp
names-same = slice_cmp-IsAntisymmetric nat_cmp-IsAntisymmetric

pub names-total : IsTotalOrder text_cmp
names-total = nat_list_cmp_total

pub ties_itself : (k : List ℕ) → is_eq (text_cmp k k) ≡ true
ties_itself k = (eq_by_cmp_equiv nat_list_cmp_total).refl k

-- two names are the same one, or no test takes them for one
pub same_or_apart : (k q : List ℕ) → (k ≡ q) ⊎ ((is_eq (text_cmp q k) ≡ false) × (bytes_eq k q ≡ false))
same_or_apart k q = (elim (bytes_eq k q) as (λ b. bytes_eq k q ≡ b → (k ≡ q) ⊎ ((is_eq (text_cmp q k) ≡ false) × (b ≡ false))) [
  | true ↦ λ e. inl ((bytes_eq-Decides k q).0 e)
  | false ↦ λ e. inr (turned e, refl)
]) refl
  where
    turned_at : bytes_eq k q ≡ false → (b : Bool) → bytes_eq q k ≡ b → b ≡ false
    turned_at e true f = sym ((bytes_eq-Decides k q).1 (sym ((bytes_eq-Decides q k).0 f))) ∙ e
    turned_at e false f = refl

    turned : bytes_eq k q ≡ false → is_eq (text_cmp q k) ≡ false
    turned e = is_eq-slice_cmp q k ∙ turned_at e (bytes_eq q k) refl

-- what ties is the same
pub tied : (k q : List ℕ) → is_eq (text_cmp k q) ≡ true → k ≡ q
tied k q e = (elim (text_cmp k q) as (λ r. text_cmp k q ≡ r → is_eq r ≡ true → k ≡ q) [
  | Less ↦ λ f g. absurd (cc)
  | Equal ↦ λ f g. names-same k q f
  | Greater ↦ λ f g. absurd (cc)
]) refl e

module _ {V : Type 0} where
  pub look_up_here : (k : List ℕ) (v : V) (es : List (List ℕ × V)) → look_up text_cmp (with_pair text_cmp es (k, v)) k ≡ Some v
  look_up_here k v [] = ap (λ b. cond b (Some v) None) (ties_itself k)
  look_up_here k v (e ∷ es) =
      (elim (text_cmp k e.0) as (λ r. text_cmp k e.0 ≡ r → look_up text_cmp (match_ordering r ((k, v) ∷ e ∷ es) ((k, v) ∷ es) (e ∷ with_pair text_cmp es (k, v))) k ≡ Some v) [
        | Less ↦ λ c. ap (λ b. cond b (Some v) (look_up text_cmp (e ∷ es) k)) (ties_itself k)
        | Equal ↦ λ c. ap (λ b. cond b (Some v) (look_up text_cmp es k)) (ties_itself k)
        | Greater ↦ λ c. ap (λ b. cond b (Some e.1) (look_up text_cmp (with_pair text_cmp es (k, v)) k)) (ap is_eq c) ∙ look_up_here k v es
      ]) refl

  pub look_up_there : (k : List ℕ) (v : V) (q : List ℕ) → is_eq (text_cmp q k) ≡ false → (es : List (List ℕ × V)) → look_up text_cmp (with_pair text_cmp es (k, v)) q ≡ look_up text_cmp es q
  look_up_there k v q ne [] = ap (λ b. cond b (Some v) None) ne
  look_up_there k v q ne (e ∷ es) =
      (elim (text_cmp k e.0) as (λ r. text_cmp k e.0 ≡ r → look_up text_cmp (match_ordering r ((k, v) ∷ e ∷ es) ((k, v) ∷ es) (e ∷ with_pair text_cmp es (k, v))) q ≡ look_up text_cmp (e ∷ es) q) [
        | Less ↦ λ c. ap (λ b. cond b (Some v) (look_up text_cmp (e ∷ es) q)) ne
        | Equal ↦ λ c.
            let f : is_eq (text_cmp q e.0) ≡ false = ap (λ (z : List ℕ). is_eq (text_cmp q z)) (sym (names-same k e.0 c)) ∙ ne in
            ap (λ b. cond b (Some v) (look_up text_cmp es q)) ne ∙ sym (ap (λ b. cond b (Some e.1) (look_up text_cmp es q)) f)
        | Greater ↦ λ c. ap (λ (o : Option V). cond (is_eq (text_cmp q e.0)) (Some e.1) o) (look_up_there k v q ne es)
      ]) refl

  pub none_behind : (k : List ℕ) (es : List (List ℕ × V)) → AllByRecursion (λ later. text_cmp k later.0 ≡ Less) es → look_up text_cmp es k ≡ None
  none_behind k [] a = refl
  none_behind k (e ∷ es) a = ap (λ b. cond b (Some e.1) (look_up text_cmp es k)) (ap is_eq a.0) ∙ none_behind k es a.1

  pub gone_here : (k : List ℕ) (es : List (List ℕ × V)) → IsRising text_cmp es → look_up text_cmp (without_key text_cmp es k) k ≡ None
  gone_here k [] rising = refl
  gone_here k (e ∷ es) rising =
      (elim (text_cmp k e.0) as (λ r. text_cmp k e.0 ≡ r → look_up text_cmp (cond (is_eq r) es (e ∷ without_key text_cmp es k)) k ≡ None) [
        | Less ↦ λ c. ap (λ b. cond b (Some e.1) (look_up text_cmp (without_key text_cmp es k) k)) (ap is_eq c) ∙ gone_here k es rising.1
        | Equal ↦ λ c. none_behind k es (subst (λ (z : List ℕ). AllByRecursion (λ later. text_cmp z later.0 ≡ Less) es) (sym (names-same k e.0 c)) rising.0)
        | Greater ↦ λ c. ap (λ b. cond b (Some e.1) (look_up text_cmp (without_key text_cmp es k) k)) (ap is_eq c) ∙ gone_here k es rising.1
      ]) refl

  pub gone_there : (k q : List ℕ) → is_eq (text_cmp q k) ≡ false → (es : List (List ℕ × V)) → look_up text_cmp (without_key text_cmp es k) q ≡ look_up text_cmp es q
  gone_there k q ne [] = refl
  gone_there k q ne (e ∷ es) =
      (elim (text_cmp k e.0) as (λ r. text_cmp k e.0 ≡ r → look_up text_cmp (cond (is_eq r) es (e ∷ without_key text_cmp es k)) q ≡ look_up text_cmp (e ∷ es) q) [
        | Less ↦ λ c. ap (λ (o : Option V). cond (is_eq (text_cmp q e.0)) (Some e.1) o) (gone_there k q ne es)
        | Equal ↦ λ c.
            let f : is_eq (text_cmp q e.0) ≡ false = ap (λ (z : List ℕ). is_eq (text_cmp q z)) (sym (names-same k e.0 c)) ∙ ne in
            sym (ap (λ b. cond b (Some e.1) (look_up text_cmp es q)) f)
        | Greater ↦ λ c. ap (λ (o : Option V). cond (is_eq (text_cmp q e.0)) (Some e.1) o) (gone_there k q ne es)
      ]) refl

  -- ---- names rise

  pub all_with : (P : List ℕ × V → Type 0) (k : List ℕ) (v : V) (es : List (List ℕ × V)) → P (k, v) → AllByRecursion P es → AllByRecursion P (with_pair text_cmp es (k, v))
  all_with P k v [] p a = (p, tt)
  all_with P k v (e ∷ es) p a =
      elim (text_cmp k e.0) as (λ r. AllByRecursion P (match_ordering r ((k, v) ∷ e ∷ es) ((k, v) ∷ es) (e ∷ with_pair text_cmp es (k, v)))) [
        | Less ↦ (p, a)
        | Equal ↦ (p, a.1)
        | Greater ↦ (a.0, all_with P k v es p a.1)
      ]

  pub all_without : (P : List ℕ × V → Type 0) (k : List ℕ) (es : List (List ℕ × V)) → AllByRecursion P es → AllByRecursion P (without_key text_cmp es k)
  all_without P k [] a = a
  all_without P k (e ∷ es) a =
      elim (is_eq (text_cmp k e.0)) as (λ b. AllByRecursion P (cond b es (e ∷ without_key text_cmp es k))) [
        | true ↦ a.1
        | false ↦ (a.0, all_without P k es a.1)
      ]

  pub all_behind : (j k : List ℕ) → text_cmp j k ≡ Less → (es : List (List ℕ × V)) → AllByRecursion (λ later. text_cmp k later.0 ≡ Less) es → AllByRecursion (λ later. text_cmp j later.0 ≡ Less) es
  all_behind j k less [] a = tt
  all_behind j k less (e ∷ es) a = (names-total.trans j k e.0 less a.0, all_behind j k less es a.1)

  pub rising_with : (k : List ℕ) (v : V) (es : List (List ℕ × V)) → IsRising text_cmp es → IsRising text_cmp (with_pair text_cmp es (k, v))
  rising_with k v [] rising = (tt, tt)
  rising_with k v (e ∷ es) rising =
      (elim (text_cmp k e.0) as (λ r. text_cmp k e.0 ≡ r → IsRising text_cmp (match_ordering r ((k, v) ∷ e ∷ es) ((k, v) ∷ es) (e ∷ with_pair text_cmp es (k, v)))) [
        | Less ↦ λ c. ((c, all_behind k e.0 c es rising.0), rising)
        | Equal ↦ λ c. (subst (λ (z : List ℕ). AllByRecursion (λ later. text_cmp z later.0 ≡ Less) es) (sym (names-same k e.0 c)) rising.0, rising.1)
        | Greater ↦ λ c. (all_with (λ later. text_cmp e.0 later.0 ≡ Less) k v es (names-total.antisymm e.0 k ∙ ap ordering_reverse c) rising.0, rising_with k v es rising.1)
      ]) refl

  pub rising_without : (k : List ℕ) (es : List (List ℕ × V)) → IsRising text_cmp es → IsRising text_cmp (without_key text_cmp es k)
  rising_without k [] rising = rising
  rising_without k (e ∷ es) rising =
      elim (is_eq (text_cmp k e.0)) as (λ b. IsRising text_cmp (cond b es (e ∷ without_key text_cmp es k))) [
        | true ↦ rising.1
        | false ↦ (all_without (λ later. text_cmp e.0 later.0 ≡ Less) k es rising.0, rising_without k es rising.1)
      ]

-- maps that rise and find the same under each name are equal
module _ {V : Type 0} where
  first_found : (e : List ℕ × V) (es : List (List ℕ × V)) → look_up text_cmp (e ∷ es) e.0 ≡ Some e.1
  first_found e es = ap (λ b. cond b (Some e.1) (look_up text_cmp es e.0)) (ties_itself e.0)

  rest_found : (e : List ℕ × V) (es : List (List ℕ × V)) (q : List ℕ) → is_eq (text_cmp q e.0) ≡ false → look_up text_cmp (e ∷ es) q ≡ look_up text_cmp es q
  rest_found e es q ne = ap (λ b. cond b (Some e.1) (look_up text_cmp es q)) ne

  -- the least name of the one isn't less than that of the other
  not_before : (e : List ℕ × V) (es : List (List ℕ × V)) (f : List ℕ × V) (fs : List (List ℕ × V)) → IsRising text_cmp (f ∷ fs)
      → ((q : List ℕ) → look_up text_cmp (e ∷ es) q ≡ look_up text_cmp (f ∷ fs) q) → text_cmp e.0 f.0 ≡ Less → ⊥
  not_before e es f fs rising same less =
      let none : look_up text_cmp (f ∷ fs) e.0 ≡ None = none_behind e.0 (f ∷ fs) (less, all_behind e.0 f.0 less fs rising.0) in
      let some : Some e.1 ≡ look_up text_cmp (f ∷ fs) e.0 = sym (first_found e es) ∙ same e.0 in
      let wrong : Some e.1 ≡ None = some ∙ none in
      cc

  pub same_map : (es fs : List (List ℕ × V)) → IsRising text_cmp es → IsRising text_cmp fs → ((q : List ℕ) → look_up text_cmp es q ≡ look_up text_cmp fs q) → es ≡ fs
  same_map [] [] r s same = refl
  same_map [] (f ∷ fs) r s same = let wrong : None ≡ Some f.1 = same f.0 ∙ first_found f fs in absurd (cc)
  same_map (e ∷ es) [] r s same = let wrong : None ≡ Some e.1 = sym (same e.0) ∙ first_found e es in absurd (cc)
  same_map (e ∷ es) (f ∷ fs) r s same =
      (elim (text_cmp e.0 f.0) as (λ o. text_cmp e.0 f.0 ≡ o → (e ∷ es) ≡ (f ∷ fs)) [
        | Less ↦ λ c. absurd (not_before e es f fs s same c)
        | Equal ↦ λ c. both (λ h. same_map es fs r.1 s.1 h) (names-same e.0 f.0 c)
        | Greater ↦ λ c. absurd (not_before f fs e es r (λ q. sym (same q)) (names-total.antisymm f.0 e.0 ∙ ap ordering_reverse c))
      ]) refl
    where
      rest : e.0 ≡ f.0 → (q : List ℕ) → (e.0 ≡ q) ⊎ ((is_eq (text_cmp q e.0) ≡ false) × (bytes_eq e.0 q ≡ false)) → look_up text_cmp es q ≡ look_up text_cmp fs q
      rest is q (inl here) =
          subst (λ (z : List ℕ). look_up text_cmp es z ≡ look_up text_cmp fs z) here
          (none_behind e.0 es r.0 ∙ sym (none_behind e.0 fs (subst (λ (z : List ℕ). AllByRecursion (λ later. text_cmp z later.0 ≡ Less) fs) (sym is) s.0)))
      rest is q (inr ne) =
          sym (rest_found e es q ne.0) ∙ (same q ∙ rest_found f fs q (ap (λ (z : List ℕ). is_eq (text_cmp q z)) (sym is) ∙ ne.0))

      both : (((q : List ℕ) → look_up text_cmp es q ≡ look_up text_cmp fs q) → es ≡ fs) → e.0 ≡ f.0 → (e ∷ es) ≡ (f ∷ fs)
      both on is =
          let first : Some e.1 ≡ Some f.1 = sym (first_found e es) ∙ (same e.0 ∙ (ap (look_up text_cmp (f ∷ fs)) is ∙ first_found f fs)) in
          let value : e.1 ≡ f.1 = cc in
          let tails : es ≡ fs = on (λ q. rest is q (same_or_apart e.0 q)) in
          let head : e ≡ f = λ i. (is i, value i) in
          cc
