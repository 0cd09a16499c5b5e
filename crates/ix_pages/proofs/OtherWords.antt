-- The definitions of pairs and pages in other words.
use Rattle.std.proofs.Common.{◌≡◌, ◌≢◌, ◌⊎◌, inl, inr, ℕ, ◌+◌, ◌/◌, ◌<◌, ◌≤◌, nat_le, Bool, true, false, List, [], ◌∷◌, ◌++◌, length, take, drop, if◌then◌else◌, refl, ◌∙◌, ap, subst, Some, None, arith}
use Rattle.std.specs.List.{AllByRecursion}
use Rattle.std.specs.declared.cmp.Ordering.{Ordering}
use Rattle.std.specs.declared.cmp.Ordering.TheVariants.{Less, Equal, Greater}
use Rattle.std.specs.Ordering.{is_lt, is_le, is_eq, match_ordering}
use Rattle.std.specs.Cmp.{IsTotalOrder}
use Rattle.std.proofs.lemmas.Cmp.{tied_back}
use Rattle.std.proofs.lemmas.Bool.{leb-true, le-leb}
use Rattle.std.proofs.lemmas.List.{length-append}
use Rattle.std.proofs.Math.Seq.{take-append_seam, drop-append_seam}
use Rattle.ix_pages.specs.Pairs.{is_before, IsRising, look_up, with_pair, without_key, from_key}
use Rattle.ix_pages.specs.Paging.{pairs_of, cut, kept, AreSized, pages_with, pages_without, ArePages}
use Rattle.ix_pages.proofs.Order.{less_back}
use Rattle.ix_pages.proofs.Elements.{all_append_right, all_follow}
use Rattle.ix_pages.proofs.Rising.{rising_right, look_up_before}
use Rattle.ix_pages.proofs.Paged.{pairs_of-append, pages_with_right, pages_without_right}

-- an ordering that isn't one of the three
not_eq : (a : Ordering) → a ≢ Equal → is_eq a ≡ false
not_eq Less other = refl
not_eq Equal other = absurd (other refl)
not_eq Greater other = refl

pub not_lt : (a : Ordering) → a ≢ Less → is_lt a ≡ false
not_lt Less other = absurd (other refl)
not_lt Equal other = refl
not_lt Greater other = refl

not_gt : (a : Ordering) → a ≢ Greater → is_le a ≡ true
not_gt Less other = refl
not_gt Equal other = refl
not_gt Greater other = absurd (other refl)

from_eq : (a : Ordering) → is_eq a ≡ true → a ≡ Equal
from_eq Less e = absurd (cc)
from_eq Equal e = refl
from_eq Greater e = absurd (cc)

module _ {K V : Type 0} (cmp : K → K → Ordering) where
  pub look_up_none : (pairs : List (K × V)) (key : K) → AllByRecursion (λ pair. cmp key pair.0 ≢ Equal) pairs → look_up cmp pairs key ≡ None
  look_up_none [] key others = refl
  look_up_none (x ∷ xs) key others = rw (not_eq (cmp key x.0) others.0) (look_up_none xs key others.1)

  pub from_key_parts : (front back : List (K × V)) (key : K) → AllByRecursion (λ pair. cmp key pair.0 ≡ Greater) front
      → AllByRecursion (λ pair. cmp key pair.0 ≢ Greater) back → from_key cmp (front ++ back) key ≡ back
  from_key_parts [] [] key lesser others = refl
  from_key_parts [] (y ∷ ys) key lesser others = rw (not_gt (cmp key y.0) others.0) (ap (λ zs. y ∷ zs) (from_key_parts [] ys key tt others.1))
  from_key_parts (x ∷ xs) back key lesser others = rw lesser.0 (from_key_parts xs back key lesser.1 others)

  pub is_sized : (most : ℕ) (front : List (List (K × V))) (page : List (K × V)) (back : List (List (K × V)))
      → ArePages cmp most (front ++ page ∷ back) → (0 < length page) × (length page ≤ most)
  is_sized most front page back are = (all_append_right (λ one. (0 < length one) × (length one ≤ most)) front (page ∷ back) are.sized).0

  pub is_rising : (most : ℕ) (pages : List (List (K × V))) (front : List (K × V)) (pair : K × V) (between : List (K × V)) (later : K × V) (back : List (K × V))
      → ArePages cmp most pages → pairs_of pages ≡ front ++ pair ∷ (between ++ later ∷ back) → cmp pair.0 later.0 ≡ Less
  is_rising most pages front pair between later back are same =
      let rising : IsRising cmp (pair ∷ (between ++ later ∷ back)) = rising_right cmp front (pair ∷ (between ++ later ∷ back)) (subst (IsRising cmp) same are.rising) in
      (all_append_right (λ one. cmp pair.0 one.0 ≡ Less) between (later ∷ back) rising.0).0

  before_all : (key : K) (pairs : List (K × V)) → AllByRecursion (λ pair. cmp key pair.0 ≡ Less) pairs → is_before cmp key pairs ≡ true
  before_all key [] less = refl
  before_all key (x ∷ xs) less = ap is_lt less.0

  -- a key that isn't in two parts is in neither
  absent_both : (xs ys : List (K × V)) (key : K) → look_up cmp (xs ++ ys) key ≡ None → (look_up cmp xs key ≡ None) × (look_up cmp ys key ≡ None)
  absent_both [] ys key absent = (refl, absent)
  absent_both (x ∷ xs) ys key absent = cases (absent_both xs ys key) (is_eq (cmp key x.0)) absent
    where
      cases : (look_up cmp (xs ++ ys) key ≡ None → (look_up cmp xs key ≡ None) × (look_up cmp ys key ≡ None)) → (b : Bool)
          → (if b then Some x.1 else look_up cmp (xs ++ ys) key) ≡ None → ((if b then Some x.1 else look_up cmp xs key) ≡ None) × (look_up cmp ys key ≡ None)
      cases rest true found = absurd (cc)
      cases rest false none = rest none

  absent_kept : (xs : List (K × V)) (key : K) → look_up cmp xs key ≡ None → without_key cmp xs key ≡ xs
  absent_kept [] key absent = refl
  absent_kept (x ∷ xs) key absent = cases (absent_kept xs key) (is_eq (cmp key x.0)) absent
    where
      cases : (look_up cmp xs key ≡ None → without_key cmp xs key ≡ xs) → (b : Bool)
          → (if b then Some x.1 else look_up cmp xs key) ≡ None → (if b then xs else x ∷ without_key cmp xs key) ≡ x ∷ xs
      cases rest true found = absurd (cc)
      cases rest false none = ap (λ zs. x ∷ zs) (rest none)

  kept_whole : (page : List (K × V)) → 0 < length page → kept page ≡ page ∷ []
  kept_whole [] some = absurd (omega arith)
  kept_whole (x ∷ xs) some = refl

  pub absent_stays : (most : ℕ) (pages : List (List (K × V))) (key : K) → AreSized most pages → look_up cmp (pairs_of pages) key ≡ None → pages_without cmp pages key ≡ pages
  absent_stays most [] key sized absent = refl
  absent_stays most (page ∷ pages) key sized absent = cases (absent_stays most pages key sized.1 parts.1) (is_before cmp key (pairs_of pages))
    where
      parts : (look_up cmp page key ≡ None) × (look_up cmp (pairs_of pages) key ≡ None)
      parts = absent_both page (pairs_of pages) key absent

      cases : pages_without cmp pages key ≡ pages → (b : Bool) → (if b then kept (without_key cmp page key) ++ pages else page ∷ pages_without cmp pages key) ≡ page ∷ pages
      cases rest true = ap (λ own. kept own ++ pages) (absent_kept page key parts.0) ∙ ap (λ own. own ++ pages) (kept_whole page sized.0.0)
      cases rest false = ap (λ later. page ∷ later) rest

  pub with_first : (most : ℕ) (page : List (K × V)) (back : List (List (K × V))) (new : K × V) → AllByRecursion (λ pair. cmp new.0 pair.0 ≡ Less) (pairs_of back)
      → pages_with cmp most (page ∷ back) new ≡ cut most (with_pair cmp page new) ++ back
  with_first most page back new less = rw (before_all new.0 (pairs_of back) less) refl

  pub without_first : (page : List (K × V)) (back : List (List (K × V))) (key : K) → AllByRecursion (λ pair. cmp key pair.0 ≡ Less) (pairs_of back)
      → pages_without cmp (page ∷ back) key ≡ kept (without_key cmp page key) ++ back
  without_first page back key less = rw (before_all key (pairs_of back) less) refl

module _ {K : Type 0} {cmp : K → K → Ordering} (o : IsTotalOrder cmp) where
  -- keys that one key ties with compare like it
  tied : (key same x : K) → cmp key same ≡ Equal → is_eq (cmp key x) ≡ is_eq (cmp same x)
  tied key same x equal = ap is_eq (o.congr key same x equal)

  other_key : (key new x : K) → cmp key new ≢ Equal → is_eq (cmp new x) ≡ true → is_eq (cmp key x) ≡ false
  other_key key new x other same = not_eq (cmp key x) (λ equal. other (o.congr key x new equal ∙ tied_back o new x (from_eq (cmp new x) same)))

module _ {K V : Type 0} {cmp : K → K → Ordering} (o : IsTotalOrder cmp) where
  pub look_up_found : (front : List (K × V)) (pair : K × V) (back : List (K × V)) (key : K) → IsRising cmp (front ++ pair ∷ back) → cmp key pair.0 ≡ Equal
      → look_up cmp (front ++ pair ∷ back) key ≡ Some pair.1
  look_up_found [] pair back key rising equal = rw equal refl
  look_up_found (x ∷ xs) pair back key rising equal =
      let below : cmp x.0 pair.0 ≡ Less = (all_append_right (λ later. cmp x.0 later.0 ≡ Less) xs (pair ∷ back) rising.0).0 in
      let greater : cmp key x.0 ≡ Greater = o.congr key pair.0 x.0 equal ∙ less_back o x.0 pair.0 below in
      rw greater (look_up_found xs pair back key rising.1 equal)

  pub look_up_put : (pairs : List (K × V)) (new : K × V) (key : K) → cmp key new.0 ≡ Equal → look_up cmp (with_pair cmp pairs new) key ≡ Some new.1
  look_up_put [] new key equal = rw equal refl
  look_up_put (x ∷ xs) new key equal = cases (look_up_put xs new key equal) (cmp new.0 x.0) refl
    where
      cases : look_up cmp (with_pair cmp xs new) key ≡ Some new.1 → (a : Ordering) → cmp new.0 x.0 ≡ a
          → look_up cmp (match_ordering a (new ∷ x ∷ xs) (new ∷ xs) (x ∷ with_pair cmp xs new)) key ≡ Some new.1
      cases rest Less e = rw equal refl
      cases rest Equal e = rw equal refl
      cases rest Greater e = rw (o.congr key new.0 x.0 equal ∙ e) rest

  pub look_up_not_put : (pairs : List (K × V)) (new : K × V) (key : K) → cmp key new.0 ≢ Equal → look_up cmp (with_pair cmp pairs new) key ≡ look_up cmp pairs key
  look_up_not_put [] new key other = rw (not_eq (cmp key new.0) other) refl
  look_up_not_put (x ∷ xs) new key other = cases (look_up_not_put xs new key other) (cmp new.0 x.0) refl
    where
      cases : look_up cmp (with_pair cmp xs new) key ≡ look_up cmp xs key → (a : Ordering) → cmp new.0 x.0 ≡ a
          → look_up cmp (match_ordering a (new ∷ x ∷ xs) (new ∷ xs) (x ∷ with_pair cmp xs new)) key ≡ look_up cmp (x ∷ xs) key
      cases rest Less e = rw (not_eq (cmp key new.0) other) refl
      cases rest Equal e = rw (not_eq (cmp key new.0) other) (rw (other_key o key new.0 x.0 other (ap is_eq e)) refl)
      cases rest Greater e = ap (λ v. if is_eq (cmp key x.0) then Some x.1 else v) rest

  pub look_up_taken : (pairs : List (K × V)) (gone key : K) → IsRising cmp pairs → cmp key gone ≡ Equal → look_up cmp (without_key cmp pairs gone) key ≡ None
  look_up_taken [] gone key rising equal = refl
  look_up_taken (x ∷ xs) gone key rising equal = cases (look_up_taken xs gone key rising.1 equal) (is_eq (cmp gone x.0)) refl
    where
      cases : look_up cmp (without_key cmp xs gone) key ≡ None → (b : Bool) → is_eq (cmp gone x.0) ≡ b
          → look_up cmp (if b then xs else x ∷ without_key cmp xs gone) key ≡ None
      cases rest true e =
          let same : cmp key x.0 ≡ Equal = o.congr key gone x.0 equal ∙ from_eq (cmp gone x.0) e in
          look_up_before cmp key xs (all_follow _ _ (λ y above. o.congr key x.0 y.0 same ∙ above) xs rising.0)
      cases rest false e = rw (tied o key gone x.0 equal ∙ e) rest

  pub look_up_not_taken : (pairs : List (K × V)) (gone key : K) → cmp key gone ≢ Equal → look_up cmp (without_key cmp pairs gone) key ≡ look_up cmp pairs key
  look_up_not_taken [] gone key other = refl
  look_up_not_taken (x ∷ xs) gone key other = cases (look_up_not_taken xs gone key other) (is_eq (cmp gone x.0)) refl
    where
      cases : look_up cmp (without_key cmp xs gone) key ≡ look_up cmp xs key → (b : Bool) → is_eq (cmp gone x.0) ≡ b
          → look_up cmp (if b then xs else x ∷ without_key cmp xs gone) key ≡ look_up cmp (x ∷ xs) key
      cases rest true e = rw (other_key o key gone x.0 other e) refl
      cases rest false e = ap (λ v. if is_eq (cmp key x.0) then Some x.1 else v) rest

  pub with_one : (most : ℕ) (front : List (List (K × V))) (least : K × V) (pairs : List (K × V)) (back : List (List (K × V))) (new : K × V)
      → IsRising cmp (pairs_of (front ++ (least ∷ pairs) ∷ back)) → cmp new.0 least.0 ≢ Less → AllByRecursion (λ pair. cmp new.0 pair.0 ≡ Less) (pairs_of back)
      → pages_with cmp most (front ++ (least ∷ pairs) ∷ back) new ≡ front ++ (cut most (with_pair cmp (least ∷ pairs) new) ++ back)
  with_one most front least pairs back new rising behind less =
      pages_with_right o most new front ((least ∷ pairs) ∷ back) (subst (IsRising cmp) (pairs_of-append front ((least ∷ pairs) ∷ back)) rising) (not_lt (cmp new.0 least.0) behind)
      ∙ ap (λ pages. front ++ pages) (with_first cmp most (least ∷ pairs) back new less)

  pub without_one : (front : List (List (K × V))) (least : K × V) (pairs : List (K × V)) (back : List (List (K × V))) (key : K)
      → IsRising cmp (pairs_of (front ++ (least ∷ pairs) ∷ back)) → cmp key least.0 ≢ Less → AllByRecursion (λ pair. cmp key pair.0 ≡ Less) (pairs_of back)
      → pages_without cmp (front ++ (least ∷ pairs) ∷ back) key ≡ front ++ (kept (without_key cmp (least ∷ pairs) key) ++ back)
  without_one front least pairs back key rising behind less =
      pages_without_right o key front ((least ∷ pairs) ∷ back) (subst (IsRising cmp) (pairs_of-append front ((least ∷ pairs) ∷ back)) rising) (not_lt (cmp key least.0) behind)
      ∙ ap (λ pages. front ++ pages) (without_first cmp (least ∷ pairs) back key less)

pub half_of : (a b n : ℕ) → n ≡ a + b → (a ≡ b) ⊎ (a ≡ b + 1) → (n + 1) / 2 ≡ a
half_of a b n sum (inl same) = omega (arith, sum, same)
half_of a b n sum (inr more) = omega (arith, sum, more)

module _ {K V : Type 0} where
  pub cut_small : (most : ℕ) (page : List (K × V)) → length page ≤ most → cut most page ≡ page ∷ []
  cut_small most page few = rw (le-leb (length page) most few) refl

  seams : (front back : List (K × V)) → (take (length front) (front ++ back) ∷ drop (length front) (front ++ back) ∷ []) ≡ front ∷ back ∷ []
  seams front back = ap (λ page. page ∷ drop (length front) (front ++ back) ∷ []) (take-append_seam front back) ∙ ap (λ page. front ∷ page ∷ []) (drop-append_seam front back)

  pub cut_large : (most : ℕ) (front back : List (K × V)) → most < length front + length back
      → (length front ≡ length back) ⊎ (length front ≡ length back + 1) → cut most (front ++ back) ≡ front ∷ back ∷ []
  cut_large most front back over half = cases (nat_le (length (front ++ back)) most) refl
    where
      cases : (b : Bool) → nat_le (length (front ++ back)) most ≡ b
          → (if b then (front ++ back) ∷ [] else take ((length (front ++ back) + 1) / 2) (front ++ back) ∷ drop ((length (front ++ back) + 1) / 2) (front ++ back) ∷ []) ≡ front ∷ back ∷ []
      cases true test = absurd (omega (arith, leb-true (length (front ++ back)) most test, length-append front back, over))
      cases false test =
          ap (λ n. take n (front ++ back) ∷ drop n (front ++ back) ∷ []) (half_of (length front) (length back) (length (front ++ back)) (length-append front back) half)
          ∙ seams front back
