-- Lists, options and look-ups: what a change of one entry leaves.
use Rattle.std.proofs.Common.{◌≡◌, ℕ, zero, suc, Bool, true, false, cond, ◌||◌, ◌⊎◌, inl, inr, List, [], ◌∷◌, ◌++◌, take, drop, get_or, set, Option, Some, None, refl, sym, ap, subst, ◌∙◌}
use Rattle.std.specs.declared.cmp.Ordering.{Ordering}
use Rattle.std.specs.declared.cmp.Ordering.TheVariants.{Less, Equal, Greater}
use Rattle.std.specs.Ordering.{match_ordering, ordering_reverse, is_eq}
use Rattle.std.specs.FinMap.{IsAntisymmetric, nat_cmp-IsAntisymmetric, slice_cmp-IsAntisymmetric}
use Rattle.std.specs.List.{AllByRecursion, list_any}
use Rattle.std.specs.List.Sorted.{IsStrictlySortedBy}
use Rattle.std.specs.Map.{lookup, keys_of, remove_entry}
use Rattle.std.specs.BTreeMap.{insert_entry, is_at}
use Rattle.std.specs.Str.{bytes_eq}
use Rattle.std.proofs.lemmas.Cmp.{eq_by_cmp_equiv, nat_list_cmp_total, nat_list_eq_equiv}
use Rattle.std.proofs.lemmas.Map.Entries.{lookup_head, lookup_tail}
use Rattle.ix_types.specs.Row.{text_cmp}
use Rattle.std.proofs.lemmas.Slice.Eq.{bytes_eq-Decides}
use Rattle.ix_machine.specs.Needs.{option_any, has_name}

-- ---- tests

pub or_left : {a : Bool} (b : Bool) → a ≡ true → (a || b) ≡ true
or_left b e = ap (λ z. z || b) e

pub or_right : (a : Bool) {b : Bool} → b ≡ true → (a || b) ≡ true
or_right true e = refl
or_right false e = e

-- ---- a list with one place set

pub set_cases : {X : Type 0} (P : X → Type 0) (xs : List X) (i j : ℕ) (x d : X) → P x → P (get_or xs j d) → P (get_or (set xs i x) j d)
set_cases P [] i j x d p q = q
set_cases P (y ∷ xs) zero zero x d p q = p
set_cases P (y ∷ xs) zero (suc j) x d p q = q
set_cases P (y ∷ xs) (suc i) zero x d p q = q
set_cases P (y ∷ xs) (suc i) (suc j) x d p q = set_cases P xs i j x d p q

-- ---- names

pub text_cmp-same : IsAntisymmetric text_cmp
text_cmp-same = slice_cmp-IsAntisymmetric nat_cmp-IsAntisymmetric

pub at_itself : (k : List ℕ) → is_at (text_cmp k) k ≡ true
at_itself k = (eq_by_cmp_equiv nat_list_cmp_total).refl k

-- the names are the same one, or the test tells them apart
pub same_or_apart : (k q : List ℕ) → (k ≡ q) ⊎ (is_at (text_cmp q) k ≡ false)
same_or_apart k q = (elim (text_cmp q k) as (λ r. text_cmp q k ≡ r → (k ≡ q) ⊎ (is_eq r ≡ false)) [
  | Less ↦ λ e. inr refl
  | Equal ↦ λ e. inl (sym (text_cmp-same q k e))
  | Greater ↦ λ e. inr refl
]) refl

-- ---- look-ups

pub lookup-inserted : {X : Type 0} (k : List ℕ) (v : X) (es : List (List ℕ × X)) → lookup (is_at (text_cmp k)) (insert_entry text_cmp es k v) ≡ Some v
lookup-inserted k v [] = lookup_head (is_at (text_cmp k)) (k, v) [] (at_itself k)
lookup-inserted k v (e ∷ es) =
    (elim (text_cmp k e.0) as (λ r. text_cmp k e.0 ≡ r → lookup (is_at (text_cmp k)) (match_ordering r ((k, v) ∷ e ∷ es) ((e.0, v) ∷ es) (e ∷ insert_entry text_cmp es k v)) ≡ Some v) [
      | Less ↦ λ c. lookup_head (is_at (text_cmp k)) (k, v) (e ∷ es) (at_itself k)
      | Equal ↦ λ c. lookup_head (is_at (text_cmp k)) (e.0, v) es (ap is_eq c)
      | Greater ↦ λ c. lookup_tail (is_at (text_cmp k)) e (insert_entry text_cmp es k v) (ap is_eq c) ∙ lookup-inserted k v es
    ]) refl

pub lookup-inserted_apart : {X : Type 0} (k : List ℕ) (v : X) (q : List ℕ) → is_at (text_cmp q) k ≡ false → (es : List (List ℕ × X)) → lookup (is_at (text_cmp q)) (insert_entry text_cmp es k v) ≡ lookup (is_at (text_cmp q)) es
lookup-inserted_apart k v q ne [] = lookup_tail (is_at (text_cmp q)) (k, v) [] ne
lookup-inserted_apart k v q ne (e ∷ es) =
    (elim (text_cmp k e.0) as (λ r. text_cmp k e.0 ≡ r → lookup (is_at (text_cmp q)) (match_ordering r ((k, v) ∷ e ∷ es) ((e.0, v) ∷ es) (e ∷ insert_entry text_cmp es k v)) ≡ lookup (is_at (text_cmp q)) (e ∷ es)) [
      | Less ↦ λ c. lookup_tail (is_at (text_cmp q)) (k, v) (e ∷ es) ne
      | Equal ↦ λ c.
          let f : is_at (text_cmp q) e.0 ≡ false = ap (is_at (text_cmp q)) (sym (text_cmp-same k e.0 c)) ∙ ne in
          lookup_tail (is_at (text_cmp q)) (e.0, v) es f ∙ sym (lookup_tail (is_at (text_cmp q)) e es f)
      | Greater ↦ λ c. ap (cond (is_at (text_cmp q) e.0) (Some e.1)) (lookup-inserted_apart k v q ne es)
    ]) refl

-- ---- what holds of all entries

pub All-match : {X : Type 0} (P : X → Type 0) (o : Ordering) (a b c : List X) → AllByRecursion P a → AllByRecursion P b → AllByRecursion P c → AllByRecursion P (match_ordering o a b c)
All-match P Less a b c p q r = p
All-match P Equal a b c p q r = q
All-match P Greater a b c p q r = r

pub All-inserted : {X : Type 0} (P : X → Type 0) (k : List ℕ) (v : X) (es : List (List ℕ × X)) → P v → AllByRecursion (λ e. P e.1) es → AllByRecursion (λ e. P e.1) (insert_entry text_cmp es k v)
All-inserted P k v [] p all = (p, tt)
All-inserted P k v (e ∷ es) p all =
    All-match (λ e. P e.1) (text_cmp k e.0) ((k, v) ∷ e ∷ es) ((e.0, v) ∷ es) (e ∷ insert_entry text_cmp es k v)
    (p, all) (p, all.1) (all.0, All-inserted P k v es p all.1)

pub All-removed : {K X : Type 0} (P : X → Type 0) (test : K → Bool) (es : List (K × X)) → AllByRecursion (λ e. P e.1) es → AllByRecursion (λ e. P e.1) (remove_entry test es)
All-removed P test [] all = tt
All-removed P test (e ∷ es) all =
    elim (test e.0) as (λ b. AllByRecursion (λ e. P e.1) (cond b es (e ∷ remove_entry test es))) [
      | true ↦ all.1
      | false ↦ (all.0, All-removed P test es all.1)
    ]

pub All-mapped : {X : Type 0} (P Q : X → Type 0) → ((x : X) → P x → Q x) → (xs : List X) → AllByRecursion P xs → AllByRecursion Q xs
All-mapped P Q f [] all = tt
All-mapped P Q f (x ∷ xs) all = (f x all.0, All-mapped P Q f xs all.1)

pub All-pushed : {X : Type 0} (P : X → Type 0) (xs : List X) (x : X) → AllByRecursion P xs → P x → AllByRecursion P (xs ++ x ∷ [])
All-pushed P [] x all p = (p, tt)
All-pushed P (y ∷ xs) x all p = (all.0, All-pushed P xs x all.1 p)

pub All-looked_up : {K X : Type 0} (P : X → Type 0) (test : K → Bool) (es : List (K × X)) (x : X) → AllByRecursion (λ e. P e.1) es → lookup test es ≡ Some x → P x
All-looked_up P test [] x all is = absurd (cc)
All-looked_up P test (e ∷ es) x all is =
    (elim (test e.0) as (λ b. cond b (Some e.1) (lookup test es) ≡ Some x → P x) [
      | true ↦ λ is. let same : e.1 ≡ x = cc in subst P same all.0
      | false ↦ λ is. All-looked_up P test es x all.1 is
    ]) is

-- ---- one element passes a test

pub any-at : {X : Type 0} (test : X → Bool) (xs : List (Option X)) (i : ℕ) (x : X) → get_or xs i None ≡ Some x → test x ≡ true → list_any (option_any test) xs ≡ true
any-at test [] i x is passes = absurd (cc)
any-at test (y ∷ xs) zero x is passes = or_left (list_any (option_any test) xs) (ap (option_any test) is ∙ passes)
any-at test (y ∷ xs) (suc i) x is passes = or_right (option_any test y) (any-at test xs i x is passes)

-- ---- names among names

pub names-kept : (P Q : List ℕ → Type 0) (names : List (List ℕ)) → ((name : List ℕ) → has_name name names ≡ true → P name → Q name) → AllByRecursion P names → AllByRecursion Q names
names-kept P Q [] f all = tt
names-kept P Q (name ∷ names) f all =
    (f name (or_left (has_name name names) (nat_list_eq_equiv.refl name)) all.0, names-kept P Q names (λ q e. f q (or_right (bytes_eq name q) e)) all.1)

pub same_bytes : (a b : List ℕ) → bytes_eq a b ≡ true → a ≡ b
same_bytes a b e = (bytes_eq-Decides a b).0 e

pub name-among : (P : List ℕ → Type 0) (names : List (List ℕ)) (name : List ℕ) → AllByRecursion P names → has_name name names ≡ true → P name
name-among P [] name all e = absurd (cc)
name-among P (other ∷ names) name all e =
    (elim (bytes_eq other name) as (λ b. bytes_eq other name ≡ b → (b || has_name name names) ≡ true → P name) [
      | true ↦ λ is e. subst P (same_bytes other name is) all.0
      | false ↦ λ is e. name-among P names name all.1 e
    ]) refl e

-- the leases of other lanes have what one of a lane has, or the lane is this one
pub other_or_own : {X : Type 0} (test : X → Bool) (xs : List (Option X)) (lane j : ℕ) (x : X) → get_or xs j None ≡ Some x → test x ≡ true
    → (list_any (option_any test) (take lane xs ++ drop (suc lane) xs) ≡ true) ⊎ (get_or xs lane None ≡ Some x)
other_or_own test [] lane j x is passes = absurd (cc)
other_or_own test (y ∷ xs) zero zero x is passes = inr is
other_or_own test (y ∷ xs) zero (suc j) x is passes = inl (any-at test xs j x is passes)
other_or_own test (y ∷ xs) (suc lane) zero x is passes = inl (or_left (list_any (option_any test) (take lane xs ++ drop (suc lane) xs)) (ap (option_any test) is ∙ passes))
other_or_own test (y ∷ xs) (suc lane) (suc j) x is passes = further (other_or_own test xs lane j x is passes)
  where
    further : (list_any (option_any test) (take lane xs ++ drop (suc lane) xs) ≡ true) ⊎ (get_or xs lane None ≡ Some x)
        → (list_any (option_any test) ((y ∷ take lane xs) ++ drop (suc lane) xs) ≡ true) ⊎ (get_or xs lane None ≡ Some x)
    further (inl e) = inl (or_right (option_any test y) e)
    further (inr e) = inr e

-- ---- removals

pub lookup-removed_apart : {X : Type 0} (k q : List ℕ) → is_at (text_cmp q) k ≡ false → (es : List (List ℕ × X)) → lookup (is_at (text_cmp q)) (remove_entry (is_at (text_cmp k)) es) ≡ lookup (is_at (text_cmp q)) es
lookup-removed_apart k q ne [] = refl
lookup-removed_apart k q ne (e ∷ es) =
    (elim (text_cmp k e.0) as (λ r. text_cmp k e.0 ≡ r → lookup (is_at (text_cmp q)) (cond (is_eq r) es (e ∷ remove_entry (is_at (text_cmp k)) es)) ≡ lookup (is_at (text_cmp q)) (e ∷ es)) [
      | Less ↦ λ c. ap (cond (is_at (text_cmp q) e.0) (Some e.1)) (lookup-removed_apart k q ne es)
      | Equal ↦ λ c. sym (lookup_tail (is_at (text_cmp q)) e es (ap (is_at (text_cmp q)) (sym (text_cmp-same k e.0 c)) ∙ ne))
      | Greater ↦ λ c. ap (cond (is_at (text_cmp q) e.0) (Some e.1)) (lookup-removed_apart k q ne es)
    ]) refl

-- ---- names that rise

inserted-keys : (P : List ℕ → Type 0) {X : Type 0} (k : List ℕ) (v : X) (es : List (List ℕ × X)) → P k → AllByRecursion P (keys_of es) → AllByRecursion P (keys_of (insert_entry text_cmp es k v))
inserted-keys P k v [] p all = (p, tt)
inserted-keys P k v (e ∷ es) p all =
    elim (text_cmp k e.0) as (λ r. AllByRecursion P (keys_of (match_ordering r ((k, v) ∷ e ∷ es) ((e.0, v) ∷ es) (e ∷ insert_entry text_cmp es k v)))) [
      | Less ↦ (p, all)
      | Equal ↦ all
      | Greater ↦ (all.0, inserted-keys P k v es p all.1)
    ]

pub inserted-rises : {X : Type 0} (k : List ℕ) (v : X) (es : List (List ℕ × X)) → IsStrictlySortedBy text_cmp (keys_of es) → IsStrictlySortedBy text_cmp (keys_of (insert_entry text_cmp es k v))
unfolding IsStrictlySortedBy
inserted-rises k v [] s = (tt, tt)
inserted-rises k v (e ∷ es) s =
    (elim (text_cmp k e.0) as (λ r. text_cmp k e.0 ≡ r → IsStrictlySortedBy text_cmp (keys_of (match_ordering r ((k, v) ∷ e ∷ es) ((e.0, v) ∷ es) (e ∷ insert_entry text_cmp es k v)))) [
      | Less ↦ λ c. ((c, All-mapped (λ z. text_cmp e.0 z ≡ Less) (λ z. text_cmp k z ≡ Less) (λ z l. nat_list_cmp_total.trans k e.0 z c l) (keys_of es) s.0), s)
      | Equal ↦ λ c. s
      | Greater ↦ λ c. (inserted-keys (λ z. text_cmp e.0 z ≡ Less) k v es (nat_list_cmp_total.antisymm e.0 k ∙ ap ordering_reverse c) s.0, inserted-rises k v es s.1)
    ]) refl

removed-keys : (P : List ℕ → Type 0) {X : Type 0} (test : List ℕ → Bool) (es : List (List ℕ × X)) → AllByRecursion P (keys_of es) → AllByRecursion P (keys_of (remove_entry test es))
removed-keys P test [] all = all
removed-keys P test (e ∷ es) all =
    elim (test e.0) as (λ b. AllByRecursion P (keys_of (cond b es (e ∷ remove_entry test es)))) [
      | true ↦ all.1
      | false ↦ (all.0, removed-keys P test es all.1)
    ]

pub removed-rises : {X : Type 0} (test : List ℕ → Bool) (es : List (List ℕ × X)) → IsStrictlySortedBy text_cmp (keys_of es) → IsStrictlySortedBy text_cmp (keys_of (remove_entry test es))
unfolding IsStrictlySortedBy
removed-rises test [] s = s
removed-rises test (e ∷ es) s =
    elim (test e.0) as (λ b. IsStrictlySortedBy text_cmp (keys_of (cond b es (e ∷ remove_entry test es)))) [
      | true ↦ s.1
      | false ↦ (removed-keys (λ z. text_cmp e.0 z ≡ Less) test es s.0, removed-rises test es s.1)
    ]
