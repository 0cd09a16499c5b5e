-- An index after the steps of facts that came and went counts each pair as often as the facts give it now.
use Rattle.std.proofs.Common.{◌≡◌, ℕ, ◌+◌, ◌-◌, Bool, true, false, cond, not, ◌&&◌, List, [], ◌∷◌, ◌++◌, map, refl, sym, ap, subst, ◌∙◌, append_assoc, arith}
use Rattle.std.specs.declared.cmp.Ordering.{Ordering}
use Rattle.std.specs.List.{flat_map, count_by}
use Rattle.std.proofs.lemmas.List.Sums.{sum_by-append, sum_by-cons}
use Rattle.ix_index.specs.declared.steps.Step.{Step}
use Rattle.ix_index.specs.Counted.{count_of, IsIndex}
use Rattle.ix_index.specs.Stepping.{is_of, gains_of, losses_of}
use Rattle.ix_outline.specs.Balance.{Balances, is_given, times}
use Rattle.ix_outline.proofs.Door.{balance_of_facts}
use Rattle.ix_tables.specs.Steps.{step_of, IsIndexOf}

both-yes : (b : Bool) → ◌≡◌ {A = ℕ} (cond (b && true) 1 0) (cond b 1 0)
both-yes true = refl
both-yes false = refl

both-no : (b : Bool) → ◌≡◌ {A = ℕ} (cond (b && false) 1 0) 0
both-no true = refl
both-no false = refl

module _ {F S : Type 0} (made : F → S) (p : S → Bool) where
  all-counted : (q : F → Bool) → ((fact : F) → ◌≡◌ {A = ℕ} (cond (p (made fact)) 1 0) (cond (q fact) 1 0)) → (facts : List F) → count_by p (map made facts) ≡ count_by q facts
  all-counted q same [] = refl
  all-counted q same (f ∷ fs) =
      let here = same f in
      let rest = all-counted q same fs in
      let one = sum_by-cons (λ (s : S). cond (p s) 1 0) (made f) (map made fs) in
      let two = sum_by-cons (λ (x : F). cond (q x) 1 0) f fs in
      one ∙ (ap (λ n. n + count_by p (map made fs)) here ∙ (ap (λ n. cond (q f) 1 0 + n) rest ∙ sym two))

  none-counted : ((fact : F) → ◌≡◌ {A = ℕ} (cond (p (made fact)) 1 0) 0) → (facts : List F) → count_by p (map made facts) ≡ 0
  none-counted none [] = refl
  none-counted none (f ∷ fs) =
      let here = none f in
      let rest = none-counted none fs in
      let one : count_by p (map made (f ∷ fs)) ≡ cond (p (made f)) 1 0 + count_by p (map made fs) = sum_by-cons (λ (s : S). cond (p s) 1 0) (made f) (map made fs) in
      omega arith

  module _ {X : Type 0} (gives : X → List F) where
    all-given : (q : F → Bool) → ((fact : F) → ◌≡◌ {A = ℕ} (cond (p (made fact)) 1 0) (cond (q fact) 1 0)) → (xs : List X)
        → count_by p (flat_map (λ x. map made (gives x)) xs) ≡ count_by q (flat_map gives xs)
    all-given q same [] = refl
    all-given q same (x ∷ xs) =
        let here = all-counted q same (gives x) in
        let rest = all-given q same xs in
        let one = sum_by-append (λ (s : S). cond (p s) 1 0) (map made (gives x)) (flat_map (λ y. map made (gives y)) xs) in
        let two = sum_by-append (λ (f : F). cond (q f) 1 0) (gives x) (flat_map gives xs) in
        one ∙ (ap (λ n. n + count_by p (flat_map (λ y. map made (gives y)) xs)) here ∙ (ap (λ n. count_by q (gives x) + n) rest ∙ sym two))

    none-given : ((fact : F) → ◌≡◌ {A = ℕ} (cond (p (made fact)) 1 0) 0) → (xs : List X) → count_by p (flat_map (λ x. map made (gives x)) xs) ≡ 0
    none-given none [] = refl
    none-given none (x ∷ xs) =
        let here = none-counted none (gives x) in
        let rest = none-given none xs in
        let one : count_by p (flat_map (λ y. map made (gives y)) (x ∷ xs)) ≡ count_by p (map made (gives x)) + count_by p (flat_map (λ y. map made (gives y)) xs) = sum_by-append (λ (s : S). cond (p s) 1 0) (map made (gives x)) (flat_map (λ y. map made (gives y)) xs) in
        omega arith

module _ {K V X : Type 0} (kcmp : K → K → Ordering) (vcmp : V → V → Ordering) (facts : X → List (K × V)) where
  abbrev steps_from : List X → List X → List (Step K V)
  steps_from gained lost = flat_map (λ x. map (step_of true) (facts x)) gained ++ flat_map (λ x. map (step_of false) (facts x)) lost

  gains-are : (gained lost : List X) (key : K) (value : V) → gains_of kcmp vcmp (steps_from gained lost) key value ≡ times kcmp vcmp key value (flat_map facts gained)
  gains-are gained lost key value =
      let p : Step K V → Bool = λ step. is_of kcmp vcmp key value step && step.gains in
      let all : gains_of kcmp vcmp (steps_from gained lost) key value ≡ count_by p (flat_map (λ x. map (step_of true) (facts x)) gained) + count_by p (flat_map (λ x. map (step_of false) (facts x)) lost) = sum_by-append (λ (s : Step K V). cond (p s) 1 0) (flat_map (λ x. map (step_of true) (facts x)) gained) (flat_map (λ x. map (step_of false) (facts x)) lost) in
      let came : count_by p (flat_map (λ x. map (step_of true) (facts x)) gained) ≡ times kcmp vcmp key value (flat_map facts gained) = all-given (step_of true) p facts (is_given kcmp vcmp key value) (λ fact. both-yes (is_given kcmp vcmp key value fact)) gained in
      let went : count_by p (flat_map (λ x. map (step_of false) (facts x)) lost) ≡ 0 = none-given (step_of false) p facts (λ fact. both-no (is_given kcmp vcmp key value fact)) lost in
      omega arith

  losses-are : (gained lost : List X) (key : K) (value : V) → losses_of kcmp vcmp (steps_from gained lost) key value ≡ times kcmp vcmp key value (flat_map facts lost)
  losses-are gained lost key value =
      let p : Step K V → Bool = λ step. is_of kcmp vcmp key value step && not step.gains in
      let all : losses_of kcmp vcmp (steps_from gained lost) key value ≡ count_by p (flat_map (λ x. map (step_of true) (facts x)) gained) + count_by p (flat_map (λ x. map (step_of false) (facts x)) lost) = sum_by-append (λ (s : Step K V). cond (p s) 1 0) (flat_map (λ x. map (step_of true) (facts x)) gained) (flat_map (λ x. map (step_of false) (facts x)) lost) in
      let came : count_by p (flat_map (λ x. map (step_of true) (facts x)) gained) ≡ 0 = none-given (step_of true) p facts (λ fact. both-no (is_given kcmp vcmp key value fact)) gained in
      let went : count_by p (flat_map (λ x. map (step_of false) (facts x)) lost) ≡ times kcmp vcmp key value (flat_map facts lost) = all-given (step_of false) p facts (is_given kcmp vcmp key value) (λ fact. both-yes (is_given kcmp vcmp key value fact)) lost in
      omega arith

-- what items give that are made of others
module _ {I X F : Type 0} (made : I → X) (facts : X → List F) where
  of_made : (items : List I) → flat_map (λ item. facts (made item)) items ≡ flat_map facts (map made items)
  of_made [] = refl
  of_made (item ∷ items) = ap (λ (rest : List F). facts (made item) ++ rest) (of_made items)

  pub of_items : (items : List I) (xs : List X) → map made items ≡ xs → flat_map (λ item. facts (made item)) items ≡ flat_map facts xs
  of_items items xs is = of_made items ∙ ap (flat_map facts) is

-- counts along an equation of steps
pub record Counts {K V : Type 0} (kcmp : K → K → Ordering) (vcmp : V → V → Ordering) (index : List (K × List (V × ℕ))) (steps : List (Step K V)) (after : List (K × List (V × ℕ))) : Type 0 where
  pub each : (key : K) (value : V) → count_of kcmp vcmp after key value ≡ count_of kcmp vcmp index key value + gains_of kcmp vcmp steps key value - losses_of kcmp vcmp steps key value

module _ {K V I X : Type 0} (kcmp : K → K → Ordering) (vcmp : V → V → Ordering) (made : I → X) (facts : X → List (K × V)) where
  -- an index of facts, after steps for those that came and those that went, is that of the facts now
  pub stepped_items : (index after : List (K × List (V × ℕ))) (items_gained items_lost : List I) (steps : List (Step K V)) (gained lost before now : List X)
      → map made items_gained ≡ gained → map made items_lost ≡ lost
      → steps ≡ flat_map (λ item. map (step_of true) (facts (made item))) items_gained ++ flat_map (λ item. map (step_of false) (facts (made item))) items_lost
      → IsIndex kcmp vcmp after
      → ((key : K) (value : V) → count_of kcmp vcmp after key value ≡ count_of kcmp vcmp index key value + gains_of kcmp vcmp steps key value - losses_of kcmp vcmp steps key value)
      → Balances before now gained lost → IsIndexOf kcmp vcmp index (flat_map facts before) → IsIndexOf kcmp vcmp after (flat_map facts now)
  stepped_items index after items_gained items_lost steps gained lost before now came went are sound counts balance of = record {
    sound = sound;
    each = λ key value.
        let counted : Counts kcmp vcmp index (steps_from kcmp vcmp (λ item. facts (made item)) items_gained items_lost) after = subst (λ (s : List (Step K V)). Counts kcmp vcmp index s after) are (record { each = counts }) in
        let count = counted.each key value in
        let was = of.each key value in
        let gain : gains_of kcmp vcmp (steps_from kcmp vcmp (λ item. facts (made item)) items_gained items_lost) key value ≡ times kcmp vcmp key value (flat_map facts gained) = gains-are kcmp vcmp (λ item. facts (made item)) items_gained items_lost key value ∙ ap (λ (fs : List (K × V)). times kcmp vcmp key value fs) (of_items made facts items_gained gained came) in
        let loss : losses_of kcmp vcmp (steps_from kcmp vcmp (λ item. facts (made item)) items_gained items_lost) key value ≡ times kcmp vcmp key value (flat_map facts lost) = losses-are kcmp vcmp (λ item. facts (made item)) items_gained items_lost key value ∙ ap (λ (fs : List (K × V)). times kcmp vcmp key value fs) (of_items made facts items_lost lost went) in
        let balanced : times kcmp vcmp key value (flat_map facts now) + times kcmp vcmp key value (flat_map facts lost) ≡ times kcmp vcmp key value (flat_map facts before) + times kcmp vcmp key value (flat_map facts gained) = (balance_of_facts facts before now gained lost balance).each (λ (fact : K × V). cond (is_given kcmp vcmp key value fact) 1 0) in
        omega arith;
  }

-- what is made of what is made
pub made_twice : {X F S : Type 0} (made : F → S) (f : X → F) (xs : List X) → map (λ x. made (f x)) xs ≡ map made (map f xs)
made_twice {S = S} made f [] = refl
made_twice {S = S} made f (x ∷ xs) = ap (λ (rest : List S). made (f x) ∷ rest) (made_twice made f xs)

made_both : {F S : Type 0} (made : F → S) (xs ys : List F) → map made (xs ++ ys) ≡ map made xs ++ map made ys
made_both {S = S} made [] ys = refl
made_both {S = S} made (x ∷ xs) ys = ap (λ (rest : List S). made x ∷ rest) (made_both made xs ys)

pub two_made : {X Y F S : Type 0} (made : F → S) (f : X → F) (g : Y → F) (xs : List X) (ys : List Y) (start half : List S) → half ≡ start ++ map (λ x. made (f x)) xs
    → half ++ map (λ y. made (g y)) ys ≡ start ++ map made (map f xs ++ map g ys)
two_made {S = S} made f g xs ys start half is =
    ap (λ (h : List S). h ++ map (λ y. made (g y)) ys) is
    ∙ (append_assoc start (map (λ x. made (f x)) xs) (map (λ y. made (g y)) ys)
    ∙ ap (λ (rest : List S). start ++ rest) (ap (λ (a : List S). a ++ map (λ y. made (g y)) ys) (made_twice made f xs) ∙ (ap (λ (b : List S). map made (map f xs) ++ b) (made_twice made g ys) ∙ sym (made_both made (map f xs) (map g ys)))))

-- two parts, one after the other
pub both_parts : {S : Type 0} (start one two first second : List S) → start ≡ [] → one ≡ start ++ first → two ≡ one ++ second → two ≡ first ++ second
both_parts {S = S} start one two first second none a b = b ∙ ap (λ (h : List S). h ++ second) (a ∙ ap (λ (h : List S). h ++ first) none)
