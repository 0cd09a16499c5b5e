-- Look-ups in two parts.
use Rattle.std.proofs.Common.{◌≡◌, ℕ, zero, suc, ◌+◌, ◌-◌, ◌<◌, ◌≤◌, Bool, true, false, List, [], ◌∷◌, ◌++◌, length, drop, refl, sym, ◌∙◌, ap, subst, arith, zero-add, slice_get}
use Rattle.std.specs.declared.cmp.Ordering.{Ordering}
use Rattle.std.specs.Ordering.{is_lt, is_le}
use Rattle.std.specs.Cmp.{IsTotalOrder}
use Rattle.std.proofs.lemmas.List.{append_assoc}
use Rattle.std.proofs.lemmas.List.Elements.{filter-append}
use Rattle.ix_pages.specs.declared.page.Entry.{Entry}
use Rattle.ix_pages.specs.Pairs.{IsRising, look_up, from_key}
use Rattle.ix_pages.specs.Paging.{pairs_of}
use Rattle.ix_pages.specs.Tree.{IsFirst}
use Rattle.ix_pages.proofs.Rising.{rising_right, all_lesser, all_greater, look_up_left, look_up_right, from_key_before, from_key_behind}
use Rattle.ix_pages.proofs.Paged.{pairs_of-append}
use Rattle.ix_pages.proofs.Trees.{before_first}

shift : (n i : ℕ) → suc n + i ≡ suc (n + i)
shift n i = omega arith

-- an element of two lists
pub get_left : {X : Type 0} (xs ys : List X) (i : ℕ) → i < length xs → slice_get (xs ++ ys) i ≡ slice_get xs i
get_left [] ys i within = absurd (omega arith)
get_left (x ∷ xs) ys zero within = refl
get_left (x ∷ xs) ys (suc i) within = get_left xs ys i (omega arith)

pub get_right : {X : Type 0} (xs ys : List X) (i : ℕ) → slice_get (xs ++ ys) (length xs + i) ≡ slice_get ys i
get_right [] ys i = ap (λ j. slice_get ys j) (zero-add i)
get_right (x ∷ xs) ys i = ap (λ j. slice_get (x ∷ (xs ++ ys)) j) (shift (length xs) i) ∙ get_right xs ys i

pub get_behind : {X : Type 0} (xs ys : List X) (i : ℕ) → length xs ≤ i → slice_get (xs ++ ys) i ≡ slice_get ys (i - length xs)
get_behind xs ys i behind =
    let same : length xs + (i - length xs) ≡ i = omega arith in
    subst (λ j. slice_get (xs ++ ys) j ≡ slice_get ys (i - length xs)) same (get_right xs ys (i - length xs))

pub drop_left : {X : Type 0} (xs ys : List X) (i : ℕ) → i ≤ length xs → drop i (xs ++ ys) ≡ drop i xs ++ ys
drop_left xs ys zero within = refl
drop_left [] ys (suc i) within = absurd (omega arith)
drop_left (x ∷ xs) ys (suc i) within = drop_left xs ys i (omega arith)

pub drop_right : {X : Type 0} (xs ys : List X) (i : ℕ) → drop (length xs + i) (xs ++ ys) ≡ drop i ys
drop_right [] ys i = ap (λ j. drop j ys) (zero-add i)
drop_right (x ∷ xs) ys i = ap (λ j. drop j (x ∷ (xs ++ ys))) (shift (length xs) i) ∙ drop_right xs ys i

module _ {K V : Type 0} {cmp : K → K → Ordering} (o : IsTotalOrder cmp) (key : K) (least : K × V) (front back pages : List (List (K × V))) (is : pages ≡ front ++ back) (rising : IsRising cmp (pairs_of pages)) (first : IsFirst least (pairs_of back)) where
  whole : pairs_of pages ≡ pairs_of front ++ pairs_of back
  whole = ap pairs_of is ∙ pairs_of-append front back

  up : IsRising cmp (pairs_of front ++ pairs_of back)
  up = subst (IsRising cmp) whole rising

  pub look_in_left : is_lt (cmp key least.0) ≡ true → look_up cmp (pairs_of pages) key ≡ look_up cmp (pairs_of front) key
  look_in_left less = ap (λ pairs. look_up cmp pairs key) whole ∙ look_up_left cmp key (pairs_of front) (pairs_of back) (all_greater o key (pairs_of back) (rising_right cmp (pairs_of front) (pairs_of back) up) (before_first cmp key least (pairs_of back) first ∙ less))

  pub look_in_right : is_lt (cmp key least.0) ≡ false → look_up cmp (pairs_of pages) key ≡ look_up cmp (pairs_of back) key
  look_in_right behind = ap (λ pairs. look_up cmp pairs key) whole ∙ look_up_right cmp key (pairs_of front) (pairs_of back) (all_lesser o key (pairs_of front) (pairs_of back) up (before_first cmp key least (pairs_of back) first ∙ behind))

  pub from_in_left : is_lt (cmp key least.0) ≡ true → (page : List (K × V)) (i : ℕ) → i ≤ length front → page ++ pairs_of (drop i front) ≡ from_key cmp (pairs_of front) key → page ++ pairs_of (drop i pages) ≡ from_key cmp (pairs_of pages) key
  from_in_left less page i within known =
      let greater = all_greater o key (pairs_of back) (rising_right cmp (pairs_of front) (pairs_of back) up) (before_first cmp key least (pairs_of back) first ∙ less) in
      ap (λ p. page ++ pairs_of (drop i p)) is
      ∙ ap (λ p. page ++ pairs_of p) (drop_left front back i within)
      ∙ ap (λ p. page ++ p) (pairs_of-append (drop i front) back)
      ∙ sym (append_assoc page (pairs_of (drop i front)) (pairs_of back))
      ∙ ap (λ p. p ++ pairs_of back) known
      ∙ sym (ap (λ p. from_key cmp (pairs_of front) key ++ p) (from_key_before cmp key (pairs_of back) greater))
      ∙ sym (filter-append (λ pair. is_le (cmp key pair.0)) (pairs_of front) (pairs_of back))
      ∙ ap (λ p. from_key cmp p key) (sym whole)

  pub from_in_right : is_lt (cmp key least.0) ≡ false → (page : List (K × V)) (i j : ℕ) → j ≡ length front + i → page ++ pairs_of (drop i back) ≡ from_key cmp (pairs_of back) key → page ++ pairs_of (drop j pages) ≡ from_key cmp (pairs_of pages) key
  from_in_right behind page i j at known =
      let lesser = all_lesser o key (pairs_of front) (pairs_of back) up (before_first cmp key least (pairs_of back) first ∙ behind) in
      ap (λ n. page ++ pairs_of (drop n pages)) at
      ∙ ap (λ p. page ++ pairs_of (drop (length front + i) p)) is
      ∙ ap (λ p. page ++ pairs_of p) (drop_right front back i)
      ∙ known
      ∙ sym (ap (λ p. p ++ from_key cmp (pairs_of back) key) (from_key_behind cmp key (pairs_of front) lesser))
      ∙ sym (filter-append (λ pair. is_le (cmp key pair.0)) (pairs_of front) (pairs_of back))
      ∙ ap (λ p. from_key cmp p key) (sym whole)

module _ {K V : Type 0} where
  pub entry_left : (front back pages : List (List (K × V))) (i : ℕ) → pages ≡ front ++ back → i < length (pairs_of front) → slice_get (pairs_of front) i ≡ slice_get (pairs_of pages) i
  entry_left front back pages i is within = sym (ap (λ p. slice_get p i) (ap pairs_of is ∙ pairs_of-append front back) ∙ get_left (pairs_of front) (pairs_of back) i within)

  pub entry_right : (front back pages : List (List (K × V))) (i n : ℕ) → pages ≡ front ++ back → n ≡ length (pairs_of front) → n ≤ i → slice_get (pairs_of back) (i - n) ≡ slice_get (pairs_of pages) i
  entry_right front back pages i n is at behind =
      let past : length (pairs_of front) ≤ i = subst (λ m. m ≤ i) at behind in
      ap (λ m. slice_get (pairs_of back) (i - m)) at ∙ sym (ap (λ p. slice_get p i) (ap pairs_of is ∙ pairs_of-append front back) ∙ get_behind (pairs_of front) (pairs_of back) i past)

  pub tested : (cmp : K → K → Ordering) (key : K) (f f' : Entry K V) (r : Ordering) (b b' : Bool) → f' ≡ f → r ≡ cmp key f'.key → b ≡ is_lt r → b ≡ b' → is_lt (cmp key f.key) ≡ b'
  tested cmp key f f' r b b' same is test known = sym (ap is_lt (is ∙ ap (λ x. cmp key x.key) same)) ∙ sym test ∙ known
