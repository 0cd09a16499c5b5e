-- Revisions of each part are, one behind the other, revisions of all steps.
use Rattle.std.proofs.Common.{◌≡◌, ℕ, ◌+◌, ◌-◌, ◌&&◌, Bool, true, false, not, List, [], ◌∷◌, ◌++◌, if◌then◌else◌, refl, sym, ap, subst, ◌∙◌, zero-add, append_assoc, arith}
use Rattle.std.specs.List.{AllByRecursion, sum_by}
use Rattle.std.specs.List.Sorted.{IsPermutation, IsSortedBy}
use Rattle.std.specs.declared.cmp.Ordering.{Ordering}
use Rattle.std.specs.declared.cmp.Ordering.TheVariants.{Less, Equal, Greater}
use Rattle.std.specs.Ordering.{is_lt, is_eq}
use Rattle.std.specs.Cmp.{IsTotalOrder}
use Rattle.std.proofs.lemmas.Cmp.{alike_right}
use Rattle.std.proofs.lemmas.List.Elements.{All-from_recursion, recursion_from_All}
use Rattle.std.proofs.lemmas.List.Sorted.{All-permutation}
use Rattle.std.proofs.lemmas.List.Sums.{sum_by-append, sum_by-cons}
use Rattle.ix_index.specs.declared.parts.Parts.{Parts}
use Rattle.ix_index.specs.declared.revisions.Revision.{Revision}
use Rattle.ix_index.specs.declared.steps.Step.{Step}
use Rattle.ix_index.specs.Recounting.{gained_by, lost_by, gained_in, lost_in, AreRevisions}
use Rattle.ix_index.specs.Stepping.{is_of, gains_of, losses_of}
use Rattle.ix_index.specs.Gathering.{all_settled, step_cmp, with_step, gathered}
use Rattle.ix_index.specs.Dealing.{Dealt, Sides, dealt_of, steps_of, AreApart, AreNetOf, AreNetBehind}
use Rattle.ix_index.proofs.Sorted.{all_append_left, all_append_right, all_append, all_follow, from_eq, greater_back}
use Rattle.ix_index.proofs.Netting.{steps_net}
use Rattle.ix_index.proofs.Ordered.{stepped_all, settled_all, steps_rise}

from_lt : (a : Ordering) → is_lt a ≡ true → a ≡ Less
from_lt Less p = refl
from_lt Equal p = absurd (cc)
from_lt Greater p = absurd (cc)

-- ---- no step and no revision of a key

module _ {K V : Type 0} (kcmp : K → K → Ordering) (vcmp : V → V → Ordering) where
  none_gained : (rs : List (Revision K V)) (key : K) (value : V) → AllByRecursion (λ r. is_eq (kcmp key r.key) ≡ false) rs → gained_in kcmp vcmp rs key value ≡ 0
  none_gained [] key value none = refl
  none_gained (r ∷ rs) key value none =
      ap (λ (b : Bool). (if b then gained_by vcmp r.recounts value else 0) + gained_in kcmp vcmp rs key value) none.0 ∙ zero-add _ ∙ none_gained rs key value none.1

  none_lost : (rs : List (Revision K V)) (key : K) (value : V) → AllByRecursion (λ r. is_eq (kcmp key r.key) ≡ false) rs → lost_in kcmp vcmp rs key value ≡ 0
  none_lost [] key value none = refl
  none_lost (r ∷ rs) key value none =
      ap (λ (b : Bool). (if b then lost_by vcmp r.recounts value else 0) + lost_in kcmp vcmp rs key value) none.0 ∙ zero-add _ ∙ none_lost rs key value none.1

  none_gains : (steps : List (Step K V)) (key : K) (value : V) → AllByRecursion (λ s. is_eq (kcmp key s.key) ≡ false) steps → gains_of kcmp vcmp steps key value ≡ 0
  none_gains [] key value none = refl
  none_gains (s ∷ steps) key value none =
      sum_by-cons (λ (step : Step K V). if is_of kcmp vcmp key value step && step.gains then 1 else 0) s steps
      ∙ ap (λ (b : Bool). (if (b && is_eq (vcmp value s.value)) && s.gains then 1 else 0) + gains_of kcmp vcmp steps key value) none.0
      ∙ zero-add _ ∙ none_gains steps key value none.1

  none_losses : (steps : List (Step K V)) (key : K) (value : V) → AllByRecursion (λ s. is_eq (kcmp key s.key) ≡ false) steps → losses_of kcmp vcmp steps key value ≡ 0
  none_losses [] key value none = refl
  none_losses (s ∷ steps) key value none =
      sum_by-cons (λ (step : Step K V). if is_of kcmp vcmp key value step && not step.gains then 1 else 0) s steps
      ∙ ap (λ (b : Bool). (if (b && is_eq (vcmp value s.value)) && not s.gains then 1 else 0) + losses_of kcmp vcmp steps key value) none.0
      ∙ zero-add _ ∙ none_losses steps key value none.1

  -- ---- one behind the other

  gained_append : (a b : List (Revision K V)) (key : K) (value : V) → gained_in kcmp vcmp (a ++ b) key value ≡ gained_in kcmp vcmp a key value + gained_in kcmp vcmp b key value
  gained_append [] b key value = sym (zero-add _)
  gained_append (r ∷ a) b key value = let rest = gained_append a b key value in omega (arith, rest)

  lost_append : (a b : List (Revision K V)) (key : K) (value : V) → lost_in kcmp vcmp (a ++ b) key value ≡ lost_in kcmp vcmp a key value + lost_in kcmp vcmp b key value
  lost_append [] b key value = sym (zero-add _)
  lost_append (r ∷ a) b key value = let rest = lost_append a b key value in omega (arith, rest)

  gains_append : (l r : List (Step K V)) (key : K) (value : V) → gains_of kcmp vcmp (l ++ r) key value ≡ gains_of kcmp vcmp l key value + gains_of kcmp vcmp r key value
  gains_append l r key value = sum_by-append (λ (step : Step K V). if is_of kcmp vcmp key value step && step.gains then 1 else 0) l r

  losses_append : (l r : List (Step K V)) (key : K) (value : V) → losses_of kcmp vcmp (l ++ r) key value ≡ losses_of kcmp vcmp l key value + losses_of kcmp vcmp r key value
  losses_append l r key value = sum_by-append (λ (step : Step K V). if is_of kcmp vcmp key value step && not step.gains then 1 else 0) l r

-- the numbers of one side where the other has none
only_left : (n g ga gb l la lb s sa sb t ta tb : ℕ) → g ≡ ga + gb → l ≡ la + lb → s ≡ sa + sb → t ≡ ta + tb → gb ≡ 0 → lb ≡ 0 → sb ≡ 0 → tb ≡ 0
    → n + ga - la ≡ n + sa - ta → n + g - l ≡ n + s - t
only_left n g ga gb l la lb s sa sb t ta tb a b c d e f h i same = omega arith

only_right : (n g ga gb l la lb s sa sb t ta tb : ℕ) → g ≡ ga + gb → l ≡ la + lb → s ≡ sa + sb → t ≡ ta + tb → ga ≡ 0 → la ≡ 0 → sa ≡ 0 → ta ≡ 0
    → n + gb - lb ≡ n + sb - tb → n + g - l ≡ n + s - t
only_right n g ga gb l la lb s sa sb t ta tb a b c d e f h i same = omega arith

module _ {K V : Type 0} {kcmp : K → K → Ordering} {vcmp : V → V → Ordering} (ok : IsTotalOrder kcmp) (ov : IsTotalOrder vcmp) where
  -- ---- two sides of a key

  left_of : (k key other : K) → is_lt (kcmp key k) ≡ true → is_lt (kcmp other k) ≡ false → is_eq (kcmp key other) ≡ false
  left_of k key other below above = cases (is_eq (kcmp key other)) refl
    where
      cases : (b : Bool) → is_eq (kcmp key other) ≡ b → is_eq (kcmp key other) ≡ false
      cases true same = let clash = sym below ∙ ap is_lt (ok.congr key other k (from_eq (kcmp key other) same)) ∙ above in absurd (cc)
      cases false is = is

  right_of : (k key other : K) → is_lt (kcmp key k) ≡ false → is_lt (kcmp other k) ≡ true → is_eq (kcmp key other) ≡ false
  right_of k key other above below = cases (is_eq (kcmp key other)) refl
    where
      cases : (b : Bool) → is_eq (kcmp key other) ≡ b → is_eq (kcmp key other) ≡ false
      cases true same = let clash = sym above ∙ ap is_lt (ok.congr key other k (from_eq (kcmp key other) same)) ∙ below in absurd (cc)
      cases false is = is

  in_order : (k a b : K) → is_lt (kcmp a k) ≡ true → is_lt (kcmp b k) ≡ false → kcmp a b ≡ Less
  in_order k a b below above = cases (kcmp b k) refl
    where
      less : kcmp a k ≡ Less
      less = from_lt (kcmp a k) below

      cases : (o : Ordering) → kcmp b k ≡ o → kcmp a b ≡ Less
      cases Less is = let clash = sym (ap is_lt is) ∙ above in absurd (cc)
      cases Equal is = alike_right ok b k a is ∙ less
      cases Greater is = ok.trans a k b less (greater_back ok b k is)

  rises : (k : K) (a b : List (Revision K V)) → AreRevisions kcmp vcmp a → AreRevisions kcmp vcmp b → AllByRecursion (λ t. is_lt (kcmp t.key k) ≡ true) a
      → AllByRecursion (λ t. is_lt (kcmp t.key k) ≡ false) b → AreRevisions kcmp vcmp (a ++ b)
  rises k [] b first second below above = second
  rises k (r ∷ a) b first second below above = (
    first.0,
    (
      all_append (λ (t : Revision K V). kcmp r.key t.key ≡ Less) a b first.1.0
          (all_follow (λ (t : Revision K V). is_lt (kcmp t.key k) ≡ false) (λ (t : Revision K V). kcmp r.key t.key ≡ Less) (λ t up. in_order k r.key t.key below.0 up) b above),
      rises k a b first.1.1 second below.1 above,
    ),
  )

  pub joined : (k : K) (l r : List (Step K V)) (a b : List (Revision K V)) → AllByRecursion (λ s. is_lt (kcmp s.key k) ≡ true) l → AllByRecursion (λ s. is_lt (kcmp s.key k) ≡ false) r
      → AreNetOf kcmp vcmp l a → AreNetOf kcmp vcmp r b → AreNetOf kcmp vcmp (l ++ r) (a ++ b)
  joined k l r a b below above first second = record {
    rise = rises k a b first.rise second.rise (first.within (λ x. is_lt (kcmp x k)) true below) (second.within (λ x. is_lt (kcmp x k)) false above);
    nets = λ n key value. cases n key value (is_lt (kcmp key k)) refl;
    within = λ p v all.
        all_append (λ (t : Revision K V). p t.key ≡ v) a b (first.within p v (all_append_left (λ (s : Step K V). p s.key ≡ v) l r all))
        (second.within p v (all_append_right (λ (s : Step K V). p s.key ≡ v) l r all));
  }
    where
      cases : (n : ℕ) (key : K) (value : V) (c : Bool) → is_lt (kcmp key k) ≡ c → n + gained_in kcmp vcmp (a ++ b) key value - lost_in kcmp vcmp (a ++ b) key value
          ≡ n + gains_of kcmp vcmp (l ++ r) key value - losses_of kcmp vcmp (l ++ r) key value
      cases n key value true is =
          let revisions : AllByRecursion (λ (t : Revision K V). is_eq (kcmp key t.key) ≡ false) b =
          all_follow (λ (t : Revision K V). is_lt (kcmp t.key k) ≡ false) (λ (t : Revision K V). is_eq (kcmp key t.key) ≡ false) (λ t up. left_of k key t.key is up) b
          (second.within (λ x. is_lt (kcmp x k)) false above) in
          let steps : AllByRecursion (λ (s : Step K V). is_eq (kcmp key s.key) ≡ false) r =
          all_follow (λ (s : Step K V). is_lt (kcmp s.key k) ≡ false) (λ (s : Step K V). is_eq (kcmp key s.key) ≡ false) (λ s up. left_of k key s.key is up) r above in
          only_left n (gained_in kcmp vcmp (a ++ b) key value) (gained_in kcmp vcmp a key value) (gained_in kcmp vcmp b key value)
          (lost_in kcmp vcmp (a ++ b) key value) (lost_in kcmp vcmp a key value) (lost_in kcmp vcmp b key value)
          (gains_of kcmp vcmp (l ++ r) key value) (gains_of kcmp vcmp l key value) (gains_of kcmp vcmp r key value)
          (losses_of kcmp vcmp (l ++ r) key value) (losses_of kcmp vcmp l key value) (losses_of kcmp vcmp r key value)
          (gained_append kcmp vcmp a b key value) (lost_append kcmp vcmp a b key value) (gains_append kcmp vcmp l r key value) (losses_append kcmp vcmp l r key value)
          (none_gained kcmp vcmp b key value revisions) (none_lost kcmp vcmp b key value revisions) (none_gains kcmp vcmp r key value steps) (none_losses kcmp vcmp r key value steps)
          (first.nets n key value)
      cases n key value false is =
          let revisions : AllByRecursion (λ (t : Revision K V). is_eq (kcmp key t.key) ≡ false) a =
          all_follow (λ (t : Revision K V). is_lt (kcmp t.key k) ≡ true) (λ (t : Revision K V). is_eq (kcmp key t.key) ≡ false) (λ t up. right_of k key t.key is up) a
          (first.within (λ x. is_lt (kcmp x k)) true below) in
          let steps : AllByRecursion (λ (s : Step K V). is_eq (kcmp key s.key) ≡ false) l =
          all_follow (λ (s : Step K V). is_lt (kcmp s.key k) ≡ true) (λ (s : Step K V). is_eq (kcmp key s.key) ≡ false) (λ s up. right_of k key s.key is up) l below in
          only_right n (gained_in kcmp vcmp (a ++ b) key value) (gained_in kcmp vcmp a key value) (gained_in kcmp vcmp b key value)
          (lost_in kcmp vcmp (a ++ b) key value) (lost_in kcmp vcmp a key value) (lost_in kcmp vcmp b key value)
          (gains_of kcmp vcmp (l ++ r) key value) (gains_of kcmp vcmp l key value) (gains_of kcmp vcmp r key value)
          (losses_of kcmp vcmp (l ++ r) key value) (losses_of kcmp vcmp l key value) (losses_of kcmp vcmp r key value)
          (gained_append kcmp vcmp a b key value) (lost_append kcmp vcmp a b key value) (gains_append kcmp vcmp l r key value) (losses_append kcmp vcmp l r key value)
          (none_gained kcmp vcmp a key value revisions) (none_lost kcmp vcmp a key value revisions) (none_gains kcmp vcmp l key value steps) (none_losses kcmp vcmp l key value steps)
          (second.nets n key value)

  sides_net : (l r : Dealt K V) (k : K) (before mid after : List (Revision K V)) → AreApart kcmp (Sides l k r)
      → (AreApart kcmp l → AreNetBehind kcmp vcmp (steps_of l) before mid) → (AreApart kcmp r → AreNetBehind kcmp vcmp (steps_of r) mid after)
      → AreNetBehind kcmp vcmp (steps_of (Sides l k r)) before after
  sides_net l r k before mid after apart first second =
      let one = first apart.2 in
      let two = second apart.3 in
      record {
        more = one.more ++ two.more;
        is = two.is ∙ ap (λ (xs : List (Revision K V)). xs ++ two.more) one.is ∙ append_assoc before one.more two.more;
        nets = joined k (steps_of l) (steps_of r) one.more two.more apart.0 apart.1 one.nets two.nets;
      }

  -- the same of parts at hand
  pub cut_net : (parts l r left right : Parts K V) (k : K) (before mid after : List (Revision K V)) → dealt_of parts ≡ Sides (dealt_of left) k (dealt_of right) → l ≡ left → r ≡ right
      → (AreApart kcmp (dealt_of l) → AreNetBehind kcmp vcmp (steps_of (dealt_of l)) before mid) → (AreApart kcmp (dealt_of r) → AreNetBehind kcmp vcmp (steps_of (dealt_of r)) mid after)
      → AreApart kcmp (dealt_of parts) → AreNetBehind kcmp vcmp (steps_of (dealt_of parts)) before after
  cut_net parts l r left right k before mid after is l_is r_is first second apart =
      subst (λ (d : Dealt K V). AreNetBehind kcmp vcmp (steps_of d) before after) (sym is)
      (sides_net (dealt_of left) (dealt_of right) k before mid after (subst (AreApart kcmp) is apart)
      (subst (λ (p : Parts K V). AreApart kcmp (dealt_of p) → AreNetBehind kcmp vcmp (steps_of (dealt_of p)) before mid) l_is first)
      (subst (λ (p : Parts K V). AreApart kcmp (dealt_of p) → AreNetBehind kcmp vcmp (steps_of (dealt_of p)) mid after) r_is second))

  -- ---- one part

  gathered_all : (P : K → Type 0) (rs : List (Revision K V)) (steps : List (Step K V)) → AllByRecursion (λ r. P r.key) rs → AllByRecursion (λ s. P s.key) steps
      → AllByRecursion (λ r. P r.key) (gathered kcmp vcmp rs steps)
  gathered_all P rs [] made all = made
  gathered_all P rs (s ∷ steps) made all = gathered_all P (with_step kcmp vcmp rs s) steps (stepped_all ok ov P rs s made all.0) all.1

  pub part_net : (steps sorted : List (Step K V)) (before after : List (Revision K V)) → IsPermutation steps sorted → IsSortedBy (λ a b. is_lt (step_cmp kcmp vcmp a b)) sorted
      → after ≡ before ++ all_settled (gathered kcmp vcmp [] sorted) → AreNetBehind kcmp vcmp steps before after
  part_net steps sorted before after moved up is = record {
    more = all_settled (gathered kcmp vcmp [] sorted);
    is = is;
    nets = record {
      rise = steps_rise ok ov sorted (all_settled (gathered kcmp vcmp [] sorted)) up refl;
      nets = λ n key value. steps_net ok ov steps sorted (all_settled (gathered kcmp vcmp [] sorted)) moved refl n key value;
      within = λ p b all.
          settled_all ok ov (λ k. p k ≡ b) (gathered kcmp vcmp [] sorted)
          (gathered_all (λ k. p k ≡ b) [] sorted tt
          (recursion_from_All (λ (s : Step K V). p s.key ≡ b) sorted
          (All-permutation (λ (s : Step K V). p s.key ≡ b) steps sorted moved (All-from_recursion (λ (s : Step K V). p s.key ≡ b) steps all))));
    };
  }

  -- ---- all parts

  pub alone : (steps : List (Step K V)) (before after : List (Revision K V)) (net : AreNetBehind kcmp vcmp steps before after) → before ≡ [] → after ≡ net.more
  alone steps before after net empty = net.is ∙ ap (λ (xs : List (Revision K V)). xs ++ net.more) empty

  pub all_rise : (steps : List (Step K V)) (before after : List (Revision K V)) → AreNetBehind kcmp vcmp steps before after → before ≡ [] → AreRevisions kcmp vcmp after
  all_rise steps before after net empty = subst (AreRevisions kcmp vcmp) (sym (alone steps before after net empty)) net.nets.rise

  pub all_net : (steps all : List (Step K V)) (before after : List (Revision K V)) → AreNetBehind kcmp vcmp all before after → before ≡ []
      → ((measure : Step K V → ℕ) → sum_by measure all ≡ sum_by measure steps)
      → (n : ℕ) (key : K) (value : V) → n + gained_in kcmp vcmp after key value - lost_in kcmp vcmp after key value ≡ n + gains_of kcmp vcmp steps key value - losses_of kcmp vcmp steps key value
  all_net steps all before after net empty same n key value =
      ap (λ (xs : List (Revision K V)). n + gained_in kcmp vcmp xs key value - lost_in kcmp vcmp xs key value) (alone all before after net empty)
      ∙ net.nets.nets n key value
      ∙ ap (λ g. n + g - losses_of kcmp vcmp all key value) (same (λ (step : Step K V). if is_of kcmp vcmp key value step && step.gains then 1 else 0))
      ∙ ap (λ l. n + gains_of kcmp vcmp steps key value - l) (same (λ (step : Step K V). if is_of kcmp vcmp key value step && not step.gains then 1 else 0))
