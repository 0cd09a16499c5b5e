-- Look-ups in a part of some rising pairs.
use Rattle.std.proofs.Common.{◌≡◌, ℕ, zero, suc, ◌<◌, true, false, List, [], ◌∷◌, length, map, take, drop, get_or, if◌then◌else◌, refl, sym, ◌∙◌, ap, subst, Some, None, arith}
use Rattle.std.specs.List.{AllByRecursion}
use Rattle.std.specs.declared.cmp.Ordering.{Ordering}
use Rattle.std.specs.declared.cmp.Ordering.TheVariants.{Less, Equal, Greater}
use Rattle.std.specs.Ordering.{is_lt, is_le, is_gt, is_eq}
use Rattle.std.specs.Cmp.{IsTotalOrder}
use Rattle.ix_pages.specs.Pairs.{IsRising, look_up}
use Rattle.ix_pages.proofs.Elements.{all_at, all_follow}
use Rattle.ix_pages.proofs.Order.{greater_of, less_of, from_lt}
use Rattle.ix_pages.proofs.Rising.{look_up_before}

pub from_gt : (a : Ordering) → is_gt a ≡ true → a ≡ Greater
from_gt Less e = absurd (cc)
from_gt Equal e = absurd (cc)
from_gt Greater e = refl

pub le_from_gt : (a : Ordering) → is_gt a ≡ false → is_le a ≡ true
le_from_gt Less e = refl
le_from_gt Equal e = refl
le_from_gt Greater e = absurd (cc)

module _ {K V X : Type 0} {cmp : K → K → Ordering} (o : IsTotalOrder cmp) (pair : X → K × V) where
  pub rising_dropped_from : (n : ℕ) (es : List X) → IsRising cmp (map pair es) → IsRising cmp (map pair (drop n es))
  rising_dropped_from zero es rising = rising
  rising_dropped_from (suc n) [] rising = tt
  rising_dropped_from (suc n) (e ∷ es) rising = rising_dropped_from n es rising.1

  all_taken_from : (P : K × V → Type 0) (n : ℕ) (es : List X) → AllByRecursion P (map pair es) → AllByRecursion P (map pair (take n es))
  all_taken_from P zero es all = tt
  all_taken_from P (suc n) [] all = tt
  all_taken_from P (suc n) (e ∷ es) all = (all.0, all_taken_from P n es all.1)

  pub rising_taken_from : (n : ℕ) (es : List X) → IsRising cmp (map pair es) → IsRising cmp (map pair (take n es))
  rising_taken_from zero es rising = tt
  rising_taken_from (suc n) [] rising = tt
  rising_taken_from (suc n) (e ∷ es) rising = (all_taken_from (λ later. cmp (pair e).0 later.0 ≡ Less) n es rising.0, rising_taken_from n es rising.1)

  -- the key is greater than that of the pair at n: it isn't in front
  pub skip_block : (key : K) (n : ℕ) (es : List X) (d : X) → n < length es → IsRising cmp (map pair es) → cmp key (pair (get_or es n d)).0 ≡ Greater
      → look_up cmp (map pair (drop (suc n) es)) key ≡ look_up cmp (map pair es) key
  skip_block key n [] d within rising greater = absurd (omega arith)
  skip_block key zero (e ∷ es) d within rising greater = rw greater refl
  skip_block key (suc n) (e ∷ es) d within rising greater =
      let below : cmp (pair e).0 (pair (get_or es n d)).0 ≡ Less = all_at pair (λ q. cmp (pair e).0 q.0 ≡ Less) es rising.0 n d (omega arith) in
      let above : cmp key (pair e).0 ≡ Greater = greater_of o (pair e).0 (pair (get_or es n d)).0 key below (ap is_lt greater) in
      rw above (skip_block key n es d (omega arith) rising.1 greater)

  -- the key isn't greater than that of the pair at n: it isn't behind
  pub keep_block : (key : K) (n : ℕ) (es : List X) (d : X) → n < length es → IsRising cmp (map pair es) → is_le (cmp key (pair (get_or es n d)).0) ≡ true
      → look_up cmp (map pair (take (suc n) es)) key ≡ look_up cmp (map pair es) key
  keep_block key n [] d within rising least = absurd (omega arith)
  keep_block key zero (e ∷ es) d within rising least =
      let none : look_up cmp (map pair es) key ≡ None = look_up_before cmp key (map pair es) (all_follow _ _ (λ later above. less_of o key (pair e).0 later.0 least above) (map pair es) rising.0) in
      ap (λ v. if is_eq (cmp key (pair e).0) then Some (pair e).1 else v) (sym none)
  keep_block key (suc n) (e ∷ es) d within rising least =
      ap (λ v. if is_eq (cmp key (pair e).0) then Some (pair e).1 else v) (keep_block key n es d (omega arith) rising.1 least)

  -- the first pair, and those behind it
  pub look_up_first : (key : K) (es : List X) (x : X) (later : List X) (a : Ordering) → map pair es ≡ pair x ∷ map pair later → a ≡ cmp key (pair x).0 → is_eq a ≡ true → Some (pair x).1 ≡ look_up cmp (map pair es) key
  look_up_first key es x later a is at equal = sym (ap (λ pairs. look_up cmp pairs key) is ∙ ap (λ b. if b then Some (pair x).1 else look_up cmp (map pair later) key) (sym (ap is_eq at) ∙ equal))

  pub look_up_gone : (key : K) (es : List X) (x : X) (later : List X) (a : Ordering) → map pair es ≡ pair x ∷ map pair later → IsRising cmp (map pair es) → a ≡ cmp key (pair x).0 → is_lt a ≡ true → None ≡ look_up cmp (map pair es) key
  look_up_gone key es x later a is rising at less =
      let below : cmp key (pair x).0 ≡ Less = sym at ∙ from_lt a less in
      let up : IsRising cmp (pair x ∷ map pair later) = subst (IsRising cmp) is rising in
      sym (ap (λ pairs. look_up cmp pairs key) is ∙ look_up_before cmp key (pair x ∷ map pair later) (below, all_follow _ _ (λ y above. o.trans key (pair x).0 y.0 below above) (map pair later) up.0))

  pub look_up_later : (key : K) (es : List X) (x : X) (later : List X) (a : Ordering) → map pair es ≡ pair x ∷ map pair later → a ≡ cmp key (pair x).0 → is_eq a ≡ false → look_up cmp (map pair later) key ≡ look_up cmp (map pair es) key
  look_up_later key es x later a is at other = sym (ap (λ pairs. look_up cmp pairs key) is ∙ ap (λ b. if b then Some (pair x).1 else look_up cmp (map pair later) key) (sym (ap is_eq at) ∙ other))
