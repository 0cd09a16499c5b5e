-- What follows from a total order.
use Rattle.std.proofs.Common.{◌≡◌, ◌≤◌, true, false, refl, ◌∙◌, ap, arith}
use Rattle.std.specs.declared.cmp.Ordering.{Ordering}
use Rattle.std.specs.declared.cmp.Ordering.TheVariants.{Less, Equal, Greater}
use Rattle.std.specs.Ordering.{ordering_reverse, ordering_index, is_lt, is_le}
use Rattle.std.specs.Cmp.{IsTotalOrder}
use Rattle.std.proofs.lemmas.Cmp.{tied_back}

module _ {K : Type 0} {cmp : K → K → Ordering} (o : IsTotalOrder cmp) where
  pub less_back : (x y : K) → cmp x y ≡ Less → cmp y x ≡ Greater
  less_back x y less = o.antisymm y x ∙ ap ordering_reverse less

  pub greater_back : (x y : K) → cmp x y ≡ Greater → cmp y x ≡ Less
  greater_back x y greater = o.antisymm y x ∙ ap ordering_reverse greater

  -- the answers to one key rise with the elements
  pub index_rises : (x y k : K) → cmp x y ≡ Less → ordering_index (cmp x k) ≤ ordering_index (cmp y k)
  index_rises x y k below = parts (cmp x k) (cmp y k) refl refl
    where
      parts : (a b : Ordering) → cmp x k ≡ a → cmp y k ≡ b → ordering_index a ≤ ordering_index b
      parts Less b p q = omega arith
      parts Equal Less p q = let e1 = o.congr x k y p in let e2 = less_back y k q in absurd (cc)
      parts Equal Equal p q = omega arith
      parts Equal Greater p q = omega arith
      parts Greater Less p q = let e1 = o.trans k x y (greater_back x k p) below in let e2 = less_back y k q in absurd (cc)
      parts Greater Equal p q = let e1 = o.trans k x y (greater_back x k p) below in let e2 = tied_back o y k q in absurd (cc)
      parts Greater Greater p q = omega arith

  -- a key that isn't less than y is greater than what is less than y
  pub greater_of : (x y k : K) → cmp x y ≡ Less → is_lt (cmp k y) ≡ false → cmp k x ≡ Greater
  greater_of x y k below least = parts (cmp k x) refl
    where
      parts : (a : Ordering) → cmp k x ≡ a → cmp k x ≡ Greater
      parts Less p = let e = ap is_lt (o.trans k x y p below) in absurd (cc)
      parts Equal p = let e = ap is_lt (o.congr k x y p ∙ below) in absurd (cc)
      parts Greater p = p

  -- a key that isn't greater than x is less than what is greater than x
  pub less_of : (k x y : K) → is_le (cmp k x) ≡ true → cmp x y ≡ Less → cmp k y ≡ Less
  less_of k x y least above = parts (cmp k x) refl
    where
      parts : (a : Ordering) → cmp k x ≡ a → cmp k y ≡ Less
      parts Less p = o.trans k x y p above
      parts Equal p = o.congr k x y p ∙ above
      parts Greater p = let e = ap is_le p in absurd (cc)

-- an ordering by its tests
pub from_lt : (a : Ordering) → is_lt a ≡ true → a ≡ Less
from_lt Less e = refl
from_lt Equal e = absurd (cc)
from_lt Greater e = absurd (cc)
