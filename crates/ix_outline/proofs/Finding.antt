-- What is found under a key among facts, as the sorted set of what they give; and what look-ups among pairs find.
use Rattle.std.proofs.Common.{◌≡◌, ◌↔◌, ℕ, true, false, cond, ◌⊎◌, inl, inr, List, [], ◌∷◌, map, filter, Some, Contains, refl, sym, ap, subst, ◌∙◌}
use Rattle.std.specs.Ordering.{is_eq}
use Rattle.std.specs.List.{AllByRecursion}
use Rattle.std.specs.List.Sorted.{IsStrictlySortedBy}
use Rattle.std.specs.declared.cmp.Ordering.TheVariants.{Less}
use Rattle.std.specs.Str.{bytes_eq}
use Rattle.ix_types.specs.Row.{text_cmp}
use Rattle.ix_model.specs.SortedSet.{sorted_set, IsSortedSetOf}
use Rattle.ix_pages.specs.Pairs.{IsRising, look_up}
use Rattle.ix_outline.specs.Facts.{Fact}
use Rattle.ix_outline.specs.Finding.{values_under, keys_given}
use Rattle.ix_outline.proofs.Keyed.{ties_itself, tied, same_or_apart}
use Rattle.ix_outline.proofs.Members.{Has, has, contains, map-in, map-out, filter-in, filter-out, same, equal}

-- of the laws below: there is one sorted set of a list
pub record SetLaws : Type 0 where
  pub sets : (texts : List (List ℕ)) → IsSortedSetOf text_cmp texts (sorted_set text_cmp texts)
  pub one : (texts first second : List (List ℕ)) → IsSortedSetOf text_cmp texts first → IsSortedSetOf text_cmp texts second → first ≡ second

pub under-out : (key : List ℕ) (facts : List Fact) (value : List ℕ) → Has (map (λ (fact : Fact). fact.1) (filter (λ (fact : Fact). bytes_eq fact.0 key) facts)) value → Has facts (key, value)
under-out key facts value h =
    let m = map-out (λ (fact : Fact). fact.1) (filter (λ (fact : Fact). bytes_eq fact.0 key) facts) value h in
    let f = filter-out (λ (fact : Fact). bytes_eq fact.0 key) facts m.0 m.1 in
    let p : m.0.0 ≡ key = same m.0.0 key f.1 in
    let q : m.0.1 ≡ value = m.2 in
    let is : m.0 ≡ (key, value) = λ i. (p i, q i) in
    subst (λ (x : Fact). Has facts x) is f.0

pub under-in : (key : List ℕ) (facts : List Fact) (value : List ℕ) → Has facts (key, value) → Has (map (λ (fact : Fact). fact.1) (filter (λ (fact : Fact). bytes_eq fact.0 key) facts)) value
under-in key facts value h =
    map-in (λ (fact : Fact). fact.1) (filter (λ (fact : Fact). bytes_eq fact.0 key) facts) (key, value) value
    (filter-in (λ (fact : Fact). bytes_eq fact.0 key) facts (key, value) h (equal key key refl)) refl

-- a list that rises and has what facts give under a key, and nothing else, is what is found there
pub values-are : SetLaws → (key : List ℕ) (facts : List Fact) (answer : List (List ℕ)) → IsStrictlySortedBy text_cmp answer
    → ((value : List ℕ) → Contains answer value ↔ Has facts (key, value)) → values_under key facts ≡ answer
values-are laws key facts answer rises those =
    let given : List (List ℕ) = map (λ (fact : Fact). fact.1) (filter (λ (fact : Fact). bytes_eq fact.0 key) facts) in
    laws.one given (values_under key facts) answer (laws.sets given)
    (record { rises = rises; same = λ value. (λ c. contains given value (under-in key facts value ((those value).0 c)), λ c. (those value).1 (under-out key facts value (has given value c))) })

-- likewise the keys
pub keys-are : SetLaws → (facts : List Fact) (answer : List (List ℕ)) → IsStrictlySortedBy text_cmp answer
    → ((key : List ℕ) → Contains answer key → (value : List ℕ) × Has facts (key, value)) → ((key value : List ℕ) → Has facts (key, value) → Contains answer key) → keys_given facts ≡ answer
keys-are laws facts answer rises out back =
    let given : List (List ℕ) = map (λ (fact : Fact). fact.0) facts in
    laws.one given (keys_given facts) answer (laws.sets given)
    (record {
      rises = rises;
      same = λ key. (
        λ c. let r = out key c in contains given key (map-in (λ (fact : Fact). fact.0) facts (key, r.0) key r.1 refl),
        λ c. let m = map-out (λ (fact : Fact). fact.0) facts key (has given key c) in
            let is : m.0 ≡ (key, m.0.1) = λ i. (m.2 i, m.0.1) in
            back key m.0.1 (subst (λ (x : Fact). Has facts x) is m.1),
      );
    })

-- ---- look-ups among pairs

module _ {V : Type 0} where
  pub found-has : (es : List (List ℕ × V)) (k : List ℕ) (v : V) → look_up text_cmp es k ≡ Some v → Has es (k, v)
  found-has [] k v e = absurd (cc)
  found-has (p ∷ ps) k v e =
      (elim (is_eq (text_cmp k p.0)) as (λ b. is_eq (text_cmp k p.0) ≡ b → cond b (Some p.1) (look_up text_cmp ps k) ≡ Some v → (p ≡ (k, v)) ⊎ Has ps (k, v)) [
        | true ↦ λ t f. inl (here (tied k p.0 t) f)
        | false ↦ λ t f. inr (found-has ps k v f)
      ]) refl e
    where
      here : k ≡ p.0 → Some p.1 ≡ Some v → p ≡ (k, v)
      here is f = let value : p.1 ≡ v = cc in λ i. (sym is i, value i)

  less-all : (P : List ℕ × V → Type 0) (es : List (List ℕ × V)) (x : List ℕ × V) → AllByRecursion P es → Has es x → P x
  less-all P [] x a h = absurd h
  less-all P (y ∷ ys) x a (inl e) = subst P e a.0
  less-all P (y ∷ ys) x a (inr h) = less-all P ys x a.1 h

  pub has-found : (es : List (List ℕ × V)) (k : List ℕ) (v : V) → IsRising text_cmp es → Has es (k, v) → look_up text_cmp es k ≡ Some v
  has-found [] k v rising h = absurd h
  has-found (p ∷ ps) k v rising (inl e) =
      subst (λ (x : List ℕ × V). look_up text_cmp (p ∷ ps) x.0 ≡ Some x.1) e (ap (λ b. cond b (Some p.1) (look_up text_cmp ps p.0)) (ties_itself p.0))
  has-found (p ∷ ps) k v rising (inr h) = behind (has-found ps k v rising.1 h) (same_or_apart p.0 k)
    where
      behind : look_up text_cmp ps k ≡ Some v → (p.0 ≡ k) ⊎ ((is_eq (text_cmp k p.0) ≡ false) × (bytes_eq p.0 k ≡ false)) → look_up text_cmp (p ∷ ps) k ≡ Some v
      behind on (inl is) =
          let less : text_cmp p.0 k ≡ Less = less-all (λ later. text_cmp p.0 later.0 ≡ Less) ps (k, v) rising.0 h in
          let wrong : is_eq (text_cmp k k) ≡ false = ap is_eq (ap (λ (z : List ℕ). text_cmp z k) (sym is) ∙ less) in
          let right : is_eq (text_cmp k k) ≡ true = ties_itself k in
          absurd (cc)
      behind on (inr ne) = ap (λ b. cond b (Some p.1) (look_up text_cmp ps k)) ne.0 ∙ on
