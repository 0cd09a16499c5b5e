-- Two runs of moves, one behind the other.
use Rattle.std.proofs.Common.{◌≡◌, ◌⊎◌, inl, inr, ℕ, zero, suc, ◌+◌, ◌≤◌, List, [], ◌∷◌, ◌++◌, length, take, drop, fold, refl, sym, ap, subst, ◌∙◌, arith}
use Rattle.std.proofs.lemmas.List.{length-append, length-take-le, take-append-le, take-append-drop, drop-append-le}
use Rattle.std.proofs.lemmas.List.Elements.{filter_map-append}
use Rattle.std.proofs.lemmas.List.Sums.{fold-append}
use Rattle.ix_dir.specs.declared.moves.Move.{Move}
use Rattle.ix_dir.specs.Images.{Image, IsImage}
use Rattle.ix_dir.specs.WhatAChangeLeaves.{Adds}
use Rattle.ix_model.specs.declared.publication.Publication.{Publication}
use Rattle.ix_machine.specs.Counts.{UnitsMove, Changed, Synced, Changes, counted, changes_after}
use Rattle.ix_stops.specs.Changes.{units_move, units_moves, waiting_step}
use Rattle.ix_stops.specs.Given.{Laws}
use Rattle.ix_stops.specs.Prefixes.{IsPrefixAt, LeavesPrefixes}
use Rattle.ix_stops.proofs.Moments.{waits_from, none_yet}

made_rises : (moves : List UnitsMove) (c : Changes) → c.made ≤ (fold counted c moves).made
made_rises [] c = omega arith
made_rises (Changed ∷ moves) c = let rest = made_rises moves (counted c Changed) in omega (arith, rest)
made_rises (Synced ∷ moves) c = made_rises moves (counted c Synced)

take_all : {A : Type 0} (n : ℕ) (xs : List A) → length xs ≤ n → take n xs ≡ xs
take_all zero [] h = refl
take_all (suc n) [] h = refl
take_all zero (x ∷ xs) h = absurd (omega (arith, h))
take_all (suc n) (x ∷ xs) h = ap (λ rest. x ∷ rest) (take_all n xs (omega (arith, h)))

up_to : (n m : ℕ) → (n ≤ m) ⊎ (m ≤ n)
up_to zero m = inl (omega arith)
up_to (suc n) zero = inr (omega arith)
up_to (suc n) (suc m) = elim (up_to n m) as (λ _. (suc n ≤ suc m) ⊎ (suc m ≤ suc n)) [
  | inl h ↦ inl (omega (arith, h))
  | inr h ↦ inr (omega (arith, h))
]

module _ (laws : Laws) (name_of : List ℕ → List ℕ) (from base : ℕ) where
  -- at most as many are made by a moment as by the end
  made_by : (moves : List Move) (moment : ℕ) → from ≤ moment → (changes_after base (units_moves (drop from (take moment moves)))).made ≤ (changes_after base (units_moves (drop from moves))).made
  made_by moves moment within =
      (elim (up_to moment (length moves)) as (λ _. (changes_after base (units_moves (drop from (take moment moves)))).made ≤ (changes_after base (units_moves (drop from moves))).made) [
        | inl h ↦
            let front = take moment moves in
            let rest = drop moment moves in
            let n : length front ≡ moment = length-take-le moment moves h in
            let parts : drop from moves ≡ drop from front ++ rest = ap (drop from) (sym (take-append-drop moment moves)) ∙ drop-append-le from front rest (omega (arith, n, within)) in
            let e : (changes_after base (units_moves (drop from moves))).made ≡ (fold counted (changes_after base (units_moves (drop from front))) (units_moves rest)).made =
            ap (λ (ms : List Move). (changes_after base (units_moves ms)).made) parts
            ∙ ap (λ (us : List UnitsMove). (changes_after base us).made) (filter_map-append units_move (drop from front) rest)
            ∙ ap (λ (c : Changes). c.made) (fold-append counted (none_yet base) (units_moves (drop from front)) (units_moves rest)) in
            let less = made_rises (units_moves rest) (changes_after base (units_moves (drop from front))) in
            omega (arith, e, less)
        | inr h ↦ let all : take moment moves ≡ moves = take_all moment moves h in
            let e = ap (λ (ms : List Move). (changes_after base (units_moves (drop from ms))).made) all in
            omega (arith, e)
      ])

  -- what was said with some publications is said with more
  with_more : (publications more : List Publication) (moves : List Move) (image : Image) → (changes_after base (units_moves (drop from moves))).made ≤ length publications → IsPrefixAt name_of publications from base moves image
      → IsPrefixAt name_of (publications ++ more) from base moves image
  with_more publications more moves image small p =
      let since = units_moves (drop from moves) in
      let n : length (publications ++ more) ≡ length publications + length more = length-append publications more in
      let known : (changes_after base since).acknowledged + fold waiting_step 0 (drop from moves) ≡ (changes_after base since).made = waits_from (drop from moves) (none_yet base) 0 (omega arith) in
      let a = laws.marks (changes_after base since).acknowledged publications (omega (arith, known, small)) in
      let b = laws.marks (changes_after base since).acknowledged (publications ++ more) (omega (arith, known, small, n)) in
      let c = laws.marks (changes_after base since).made publications small in
      let d = laws.marks (changes_after base since).made (publications ++ more) (omega (arith, small, n)) in
      let enough = p.enough in
      let within = p.within in
      record {
        count = p.count;
        enough = omega (arith, enough, a, b);
        within = omega (arith, within, c, d);
        units = p.units ∙ sym (laws.prefix publications more p.count (omega (arith, within, c, small)));
        refused = p.refused;
      }

module _ (laws : Laws) (name_of : List ℕ → List ℕ) (first second more : List Publication) (before mid now : List Move) (early : Adds before mid) (late : Adds mid now)
    (one : LeavesPrefixes name_of first second before mid) (two : LeavesPrefixes name_of second (second ++ more) mid now) where
  pub joined : LeavesPrefixes name_of first (second ++ more) before now
  joined = record {
    counted = λ from base counts. two.counted from base (one.counted from base counts);
    left = λ from base counts moment image since within left.
        elim (up_to moment (length mid)) as (λ _. IsPrefixAt name_of (second ++ more) from base (take moment now) image) [
          | inl h ↦
              let same : take moment now ≡ take moment mid = ap (take moment) late.added ∙ take-append-le moment mid late.more h in
              let at_mid = one.left from base counts moment image since h (subst (λ (ms : List Move). IsImage ms image) same left) in
              let start = counts.within in
              let small = made_by laws name_of from base mid moment (omega (arith, since, start)) in
              let all = (one.counted from base counts).each in
              subst (λ (ms : List Move). IsPrefixAt name_of (second ++ more) from base ms image) (sym same) (with_more laws name_of from base second more (take moment mid) image (omega (arith, small, all)) at_mid)
          | inr h ↦ two.left from base (one.counted from base counts) moment image h within left
        ];
  }
