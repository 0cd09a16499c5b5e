-- A list whose names rise from each to the next rises.
use Rattle.std.proofs.Common.{◌≡◌, ℕ, suc, ◌+◌, Bool, true, false, ◌&&◌, List, [], ◌∷◌, refl, sym, subst, get_or, IsTrue, arith}
use Rattle.std.specs.List.{AllAdjacentBelow, IsAllAdjacentAnswer}
use Rattle.std.specs.declared.cmp.Ordering.{Ordering}
use Rattle.std.specs.declared.cmp.Ordering.TheVariants.{Less, Equal, Greater}
use Rattle.std.specs.Ordering.{is_lt}
use Rattle.std.specs.Cmp.{IsTotalOrder}
use Rattle.std.specs.Cmp.Lexicographic.{nat_list_cmp_total}
use Rattle.std.specs.FinMap.{is_sorted}
use Rattle.std.specs.FinMap.Entries.{below_all}
use Rattle.std.proofs.Common.{length}
use Rattle.std.proofs.lemmas.Bool.{and_parts, false≢true}
use Rattle.ix_types.specs.Row.{text_cmp}
use Rattle.ix_dir.specs.declared.dir.Listed.{Listed}
use Rattle.ix_dir.specs.Files.{IsRising, rows_of}

from_lt : (o : Ordering) → is_lt o ≡ true → o ≡ Less
from_lt Less e = refl
from_lt Equal e = cc
from_lt Greater e = cc

below_less : (x y : List ℕ) (es : List (List ℕ × ℕ)) → text_cmp x y ≡ Less → IsTrue (below_all text_cmp y es) → IsTrue (below_all text_cmp x es)
below_less x y [] less h = refl
below_less x y (e ∷ es) less h =
    let parts = and_parts (is_lt (text_cmp y e.0)) (below_all text_cmp y es) h in
    let above = nat_list_cmp_total.trans x y e.0 less (from_lt _ parts.0) in
    rw (above, below_less x y es less parts.1) refl

rising_of_adjacent : (xs : List Listed) → AllAdjacentBelow (λ x y. true ≡ is_lt (text_cmp x.name y.name)) xs (length xs) → IsRising xs
rising_of_adjacent [] adjacent = refl
rising_of_adjacent (x ∷ []) adjacent = refl
rising_of_adjacent (x ∷ y ∷ zs) adjacent =
    let less : text_cmp x.name y.name ≡ Less = from_lt _ (sym (adjacent 0 x (omega arith))) in
    let rest = rising_of_adjacent (y ∷ zs) (λ k d within. let next : suc k + 1 ≡ suc (k + 1) = omega arith in subst (λ n. true ≡ is_lt (text_cmp (get_or (y ∷ zs) k d).name (get_or (x ∷ y ∷ zs) n d).name)) next (adjacent (suc k) d (omega arith))) in
    let parts = and_parts (below_all text_cmp y.name (rows_of zs)) (is_sorted text_cmp (rows_of zs)) rest in
    rw (less, below_less x.name y.name (rows_of zs) less parts.0) rest

pub rising_answer : (xs : List Listed) (r : Bool) → IsAllAdjacentAnswer (λ x y b. b ≡ is_lt (text_cmp x.name y.name)) xs r → IsTrue r → IsRising xs
rising_answer xs true adjacent _ = rising_of_adjacent xs adjacent
rising_answer xs false adjacent h = absurd (false≢true h)
