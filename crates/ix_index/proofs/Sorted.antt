-- Rising pairs: look-ups, puts and removals, in one list and in two parts.
use Rattle.std.proofs.Common.{◌≡◌, map, true, false, Bool, List, [], ◌∷◌, ◌++◌, Option, Some, None, if◌then◌else◌, refl, sym, ap, ◌∙◌}
use Rattle.std.specs.List.{AllByRecursion}
use Rattle.std.specs.declared.cmp.Ordering.{Ordering}
use Rattle.std.specs.declared.cmp.Ordering.TheVariants.{Less, Equal, Greater}
use Rattle.std.specs.Ordering.{ordering_reverse, is_eq, match_ordering}
use Rattle.std.specs.Cmp.{IsTotalOrder}
use Rattle.std.proofs.lemmas.Cmp.{tied_itself, alike_right}
use Rattle.ix_pages.specs.Pairs.{IsRising, look_up, with_pair, without_key}

-- ---- what holds of each element

pub all_append_left : {X : Type 0} (P : X → Type 0) (xs ys : List X) → AllByRecursion P (xs ++ ys) → AllByRecursion P xs
all_append_left P [] ys all = tt
all_append_left P (x ∷ xs) ys all = (all.0, all_append_left P xs ys all.1)

pub all_append_right : {X : Type 0} (P : X → Type 0) (xs ys : List X) → AllByRecursion P (xs ++ ys) → AllByRecursion P ys
all_append_right P [] ys all = all
all_append_right P (x ∷ xs) ys all = all_append_right P xs ys all.1

pub all_append : {X : Type 0} (P : X → Type 0) (xs ys : List X) → AllByRecursion P xs → AllByRecursion P ys → AllByRecursion P (xs ++ ys)
all_append P [] ys front back = back
all_append P (x ∷ xs) ys front back = (front.0, all_append P xs ys front.1 back)

pub all_follow : {X : Type 0} (P Q : X → Type 0) → ((x : X) → P x → Q x) → (xs : List X) → AllByRecursion P xs → AllByRecursion Q xs
all_follow P Q step [] all = tt
all_follow P Q step (x ∷ xs) all = (step x all.0, all_follow P Q step xs all.1)

-- ---- orders

pub from_eq : (a : Ordering) → is_eq a ≡ true → a ≡ Equal
from_eq Less e = absurd (cc)
from_eq Equal e = refl
from_eq Greater e = absurd (cc)

module _ {K : Type 0} {cmp : K → K → Ordering} (o : IsTotalOrder cmp) where
  pub less_back : (x y : K) → cmp x y ≡ Less → cmp y x ≡ Greater
  less_back x y less = o.antisymm y x ∙ ap ordering_reverse less

  pub greater_back : (x y : K) → cmp x y ≡ Greater → cmp y x ≡ Less
  greater_back x y greater = o.antisymm y x ∙ ap ordering_reverse greater

  pub is_itself : (x : K) → is_eq (cmp x x) ≡ true
  is_itself x = ap is_eq (tied_itself o x)

-- ---- two parts

module _ {K V : Type 0} (cmp : K → K → Ordering) where
  pub rising_left : (xs ys : List (K × V)) → IsRising cmp (xs ++ ys) → IsRising cmp xs
  rising_left [] ys rising = tt
  rising_left (x ∷ xs) ys rising = (all_append_left _ xs ys rising.0, rising_left xs ys rising.1)

  pub rising_right : (xs ys : List (K × V)) → IsRising cmp (xs ++ ys) → IsRising cmp ys
  rising_right [] ys rising = rising
  rising_right (x ∷ xs) ys rising = rising_right xs ys rising.1

  pub with_pair_right : (new : K × V) (xs ys : List (K × V)) → AllByRecursion (λ x. cmp new.0 x.0 ≡ Greater) xs → with_pair cmp (xs ++ ys) new ≡ xs ++ with_pair cmp ys new
  with_pair_right new [] ys lesser = refl
  with_pair_right new (x ∷ xs) ys lesser = rw lesser.0 (ap (λ zs. x ∷ zs) (with_pair_right new xs ys lesser.1))

  pub with_pair_front : (new : K × V) (ys : List (K × V)) → AllByRecursion (λ y. cmp new.0 y.0 ≡ Less) ys → with_pair cmp ys new ≡ new ∷ ys
  with_pair_front new [] greater = refl
  with_pair_front new (y ∷ ys) greater = rw greater.0 refl

  pub without_key_right : (key : K) (xs ys : List (K × V)) → AllByRecursion (λ x. cmp key x.0 ≡ Greater) xs → without_key cmp (xs ++ ys) key ≡ xs ++ without_key cmp ys key
  without_key_right key [] ys lesser = refl
  without_key_right key (x ∷ xs) ys lesser = rw lesser.0 (ap (λ zs. x ∷ zs) (without_key_right key xs ys lesser.1))

  pub without_key_front : (key : K) (ys : List (K × V)) → AllByRecursion (λ y. cmp key y.0 ≡ Less) ys → without_key cmp ys key ≡ ys
  without_key_front key [] greater = refl
  without_key_front key (y ∷ ys) greater = rw greater.0 (ap (λ zs. y ∷ zs) (without_key_front key ys greater.1))

  pub look_up_right : (key : K) (xs ys : List (K × V)) → AllByRecursion (λ x. cmp key x.0 ≡ Greater) xs → look_up cmp (xs ++ ys) key ≡ look_up cmp ys key
  look_up_right key [] ys lesser = refl
  look_up_right key (x ∷ xs) ys lesser = rw lesser.0 (look_up_right key xs ys lesser.1)

  pub look_up_front : (key : K) (ys : List (K × V)) → AllByRecursion (λ y. cmp key y.0 ≡ Less) ys → look_up cmp ys key ≡ None
  look_up_front key [] greater = refl
  look_up_front key (y ∷ ys) greater = rw greater.0 (look_up_front key ys greater.1)

  -- what holds of each pair
  pub all_with : (P : K × V → Type 0) (es : List (K × V)) (new : K × V) → AllByRecursion P es → P new → AllByRecursion P (with_pair cmp es new)
  all_with P [] new all here = (here, tt)
  all_with P (x ∷ xs) new all here = cases (all_with P xs new all.1 here) (cmp new.0 x.0)
    where
      cases : AllByRecursion P (with_pair cmp xs new) → (a : Ordering) → AllByRecursion P (match_ordering a (new ∷ x ∷ xs) (new ∷ xs) (x ∷ with_pair cmp xs new))
      cases rest Less = (here, all)
      cases rest Equal = (here, all.1)
      cases rest Greater = (all.0, rest)

  pub all_without : (P : K × V → Type 0) (es : List (K × V)) (key : K) → AllByRecursion P es → AllByRecursion P (without_key cmp es key)
  all_without P [] key all = tt
  all_without P (x ∷ xs) key all = cases (all_without P xs key all.1) (is_eq (cmp key x.0))
    where
      cases : AllByRecursion P (without_key cmp xs key) → (b : Bool) → AllByRecursion P (if b then xs else x ∷ without_key cmp xs key)
      cases rest true = all.1
      cases rest false = (all.0, rest)

  pub rising_without : (es : List (K × V)) (key : K) → IsRising cmp es → IsRising cmp (without_key cmp es key)
  rising_without [] key rising = tt
  rising_without (x ∷ xs) key rising = cases (rising_without xs key rising.1) (is_eq (cmp key x.0))
    where
      cases : IsRising cmp (without_key cmp xs key) → (b : Bool) → IsRising cmp (if b then xs else x ∷ without_key cmp xs key)
      cases rest true = rising.1
      cases rest false = (all_without (λ later. cmp x.0 later.0 ≡ Less) xs key rising.0, rest)

-- ---- one key and the others

module _ {K V : Type 0} {cmp : K → K → Ordering} (o : IsTotalOrder cmp) where
  pub rising_with : (es : List (K × V)) (new : K × V) → IsRising cmp es → IsRising cmp (with_pair cmp es new)
  rising_with [] new rising = (tt, tt)
  rising_with (x ∷ xs) new rising = cases (rising_with xs new rising.1) (cmp new.0 x.0) refl
    where
      cases : IsRising cmp (with_pair cmp xs new) → (a : Ordering) → cmp new.0 x.0 ≡ a → IsRising cmp (match_ordering a (new ∷ x ∷ xs) (new ∷ xs) (x ∷ with_pair cmp xs new))
      cases rest Less less = ((less, all_follow _ _ (λ y above. o.trans new.0 x.0 y.0 less above) xs rising.0), rising)
      cases rest Equal equal = (all_follow _ _ (λ y above. o.congr new.0 x.0 y.0 equal ∙ above) xs rising.0, rising.1)
      cases rest Greater greater = (all_with cmp (λ later. cmp x.0 later.0 ≡ Less) xs new rising.0 (greater_back o new.0 x.0 greater), rest)

  -- equal keys find the same
  pub look_up_tied : (q k : K) → cmp q k ≡ Equal → (es : List (K × V)) → look_up cmp es q ≡ look_up cmp es k
  look_up_tied q k tied [] = refl
  look_up_tied q k tied (e ∷ es) =
      ap (λ b. if b then Some e.1 else look_up cmp es q) (ap is_eq (o.congr q k e.0 tied))
      ∙ ap (λ (v : Option V). if is_eq (cmp k e.0) then Some e.1 else v) (look_up_tied q k tied es)

  pub look_up_here : (k : K) (v : V) (es : List (K × V)) → look_up cmp (with_pair cmp es (k, v)) k ≡ Some v
  look_up_here k v [] = rw (is_itself o k) refl
  look_up_here k v (e ∷ es) = cases (look_up_here k v es) (cmp k e.0) refl
    where
      cases : look_up cmp (with_pair cmp es (k, v)) k ≡ Some v → (a : Ordering) → cmp k e.0 ≡ a → look_up cmp (match_ordering a ((k, v) ∷ e ∷ es) ((k, v) ∷ es) (e ∷ with_pair cmp es (k, v))) k ≡ Some v
      cases rest Less c = ap (λ b. if b then Some v else look_up cmp (e ∷ es) k) (is_itself o k)
      cases rest Equal c = ap (λ b. if b then Some v else look_up cmp es k) (is_itself o k)
      cases rest Greater c = ap (λ b. if b then Some e.1 else look_up cmp (with_pair cmp es (k, v)) k) (ap is_eq c) ∙ rest

  pub look_up_there : (k : K) (v : V) (q : K) → is_eq (cmp q k) ≡ false → (es : List (K × V)) → look_up cmp (with_pair cmp es (k, v)) q ≡ look_up cmp es q
  look_up_there k v q ne [] = ap (λ b. if b then Some v else None) ne
  look_up_there k v q ne (e ∷ es) = cases (look_up_there k v q ne es) (cmp k e.0) refl
    where
      cases : look_up cmp (with_pair cmp es (k, v)) q ≡ look_up cmp es q → (a : Ordering) → cmp k e.0 ≡ a
          → look_up cmp (match_ordering a ((k, v) ∷ e ∷ es) ((k, v) ∷ es) (e ∷ with_pair cmp es (k, v))) q ≡ look_up cmp (e ∷ es) q
      cases rest Less c = ap (λ b. if b then Some v else look_up cmp (e ∷ es) q) ne
      cases rest Equal c =
          let f : is_eq (cmp q e.0) ≡ false = ap is_eq (sym (alike_right o k e.0 q c)) ∙ ne in
          ap (λ b. if b then Some v else look_up cmp es q) ne ∙ sym (ap (λ b. if b then Some e.1 else look_up cmp es q) f)
      cases rest Greater c = ap (λ (v : Option V). if is_eq (cmp q e.0) then Some e.1 else v) rest

  pub none_behind : (k : K) (e : K × V) (es : List (K × V)) → cmp k e.0 ≡ Equal → AllByRecursion (λ later. cmp e.0 later.0 ≡ Less) es → look_up cmp es k ≡ None
  none_behind k e es c above = look_up_front cmp k es (all_follow _ _ (λ later less. o.congr k e.0 later.0 c ∙ less) es above)

  pub gone_here : (k : K) (es : List (K × V)) → IsRising cmp es → look_up cmp (without_key cmp es k) k ≡ None
  gone_here k [] rising = refl
  gone_here k (e ∷ es) rising = cases (gone_here k es rising.1) (cmp k e.0) refl
    where
      cases : look_up cmp (without_key cmp es k) k ≡ None → (a : Ordering) → cmp k e.0 ≡ a → look_up cmp (if is_eq a then es else e ∷ without_key cmp es k) k ≡ None
      cases rest Less c = ap (λ b. if b then Some e.1 else look_up cmp (without_key cmp es k) k) (ap is_eq c) ∙ rest
      cases rest Equal c = none_behind k e es c rising.0
      cases rest Greater c = ap (λ b. if b then Some e.1 else look_up cmp (without_key cmp es k) k) (ap is_eq c) ∙ rest

  pub gone_there : (k q : K) → is_eq (cmp q k) ≡ false → (es : List (K × V)) → look_up cmp (without_key cmp es k) q ≡ look_up cmp es q
  gone_there k q ne [] = refl
  gone_there k q ne (e ∷ es) = cases (gone_there k q ne es) (cmp k e.0) refl
    where
      cases : look_up cmp (without_key cmp es k) q ≡ look_up cmp es q → (a : Ordering) → cmp k e.0 ≡ a → look_up cmp (if is_eq a then es else e ∷ without_key cmp es k) q ≡ look_up cmp (e ∷ es) q
      cases rest Less c = ap (λ (v : Option V). if is_eq (cmp q e.0) then Some e.1 else v) rest
      cases rest Equal c =
          let f : is_eq (cmp q e.0) ≡ false = ap is_eq (sym (alike_right o k e.0 q c)) ∙ ne in
          sym (ap (λ b. if b then Some e.1 else look_up cmp es q) f)
      cases rest Greater c = ap (λ (v : Option V). if is_eq (cmp q e.0) then Some e.1 else v) rest

  -- what holds of every value holds of one that is found
  pub found_holds : (P : V → Type 0) (es : List (K × V)) (k : K) (v : V) → AllByRecursion (λ e. P e.1) es → look_up cmp es k ≡ Some v → P v
  found_holds P [] k v all found = absurd (cc)
  found_holds P (e ∷ es) k v all found = cases (found_holds P es k v all.1) (is_eq (cmp k e.0)) found
    where
      cases : (look_up cmp es k ≡ Some v → P v) → (b : Bool) → (if b then Some e.1 else look_up cmp es k) ≡ Some v → P v
      cases rest true same = let is : e.1 ≡ v = cc in rw (sym is) all.0
      cases rest false found = rest found

pub map_same : {X : Type 0} (xs : List X) → map (λ x. x) xs ≡ xs
map_same [] = refl
map_same (x ∷ xs) = ap (λ zs. x ∷ zs) (map_same xs)
