-- No stamp is given to a name twice.
use Rattle.std.proofs.Common.{◌≡◌, ◌≢◌, ◌⊎◌, inl, inr, ℕ, zero, suc, ◌+◌, ◌<◌, ◌≤◌, Bool, true, false, cond, ◌&&◌, List, [], ◌∷◌, ◌++◌, length, get_or, refl, sym, ap, ◌∙◌, subst, Option, Some, None, is_some, All, Contains, arith, append-nil, append_assoc}
use Rattle.std.specs.List.{slice_get, fold}
use Rattle.std.specs.Cmp.Lexicographic.{same_text}
use Rattle.std.specs.FinMap.{get, empty}
use Rattle.std.proofs.lemmas.List.Elements.{All-append, All-cons, Contains-append_right}
use Rattle.std.proofs.lemmas.List.Sums.{fold-append}
use Rattle.std.proofs.lemmas.Grind.{flat_map-append}
use Rattle.std.proofs.lemmas.Option.{slice_get-get_or, same_Some}
use Rattle.ix_dir.specs.declared.area.Area.{Area}
use Rattle.ix_dir.specs.Calls.{moves_removed}
use Rattle.ix_dir.specs.Files.{File, Files, file}
use Rattle.ix_dir.specs.IndexInvariant.{IsNumbered}
use Rattle.ix_dir.specs.WhatAChangeLeaves.{Adds}
use Rattle.ix_dir.specs.Moves.{Move, Renamed, Removed, Synced, Placed, area_after, area_step, same_area, same_name}
use Rattle.ix_dir.specs.Stamps.{stamp_given, stamps_of, IsFresh, HasFreshStamps}
use Rattle.ix_dir.proofs.StampsGiven.{standing_given}
use Rattle.ix_dir.proofs.OneElementMore.{snoc_cases}
use Rattle.ix_dir.proofs.FileAfterAMove.{file_step, get-step}

-- ---- elements by index

pub within : {A : Type 0} (xs : List A) (i : ℕ) (x : A) → slice_get xs i ≡ Some x → i < length xs
within [] i x at = cc
within (y ∷ xs) zero x at = omega arith
within (y ∷ xs) (suc i) x at = let rest = within xs i x at in omega (arith, rest)

in_front : {A : Type 0} (xs ys : List A) (i : ℕ) (x : A) → slice_get xs i ≡ Some x → slice_get (xs ++ ys) i ≡ Some x
in_front [] ys i x at = cc
in_front (z ∷ xs) ys zero x at = at
in_front (z ∷ xs) ys (suc i) x at = in_front xs ys i x at

behind_at : {A : Type 0} (xs ys : List A) (i k : ℕ) (x : A) → k ≡ i + length xs → slice_get ys i ≡ Some x → slice_get (xs ++ ys) k ≡ Some x
behind_at [] ys i k x e at =
    let same : i ≡ k = omega (arith, e) in
    subst (λ n. slice_get ys n ≡ Some x) same at
behind_at (z ∷ xs) ys i zero x e at = absurd (omega (arith, e))
behind_at (z ∷ xs) ys i (suc k) x e at =
    let less : k ≡ i + length xs = omega (arith, e) in
    behind_at xs ys i k x less at

behind : {A : Type 0} (xs ys : List A) (i : ℕ) (x : A) → slice_get ys i ≡ Some x → slice_get (xs ++ ys) (i + length xs) ≡ Some x
behind xs ys i x at = behind_at xs ys i (i + length xs) x refl at

pub index_of : {A : Type 0} (xs : List A) (x : A) → Contains xs x → (i : ℕ) × (slice_get xs i ≡ Some x)
index_of xs x c = (c.0, slice_get-get_or xs c.0 x c.1 ∙ ap Some c.2)

-- each number stands at one index
abbrev Apart : List ℕ → Type 0
Apart xs = (j k x : ℕ) → slice_get xs j ≡ Some x → slice_get xs k ≡ Some x → j ≡ k

not_at : (xs : List ℕ) (x i : ℕ) → All (λ y. y ≢ x) xs → slice_get xs i ≡ Some x → ⊥
not_at xs x i all at =
    let small = within xs i x at in
    all i x small (same_Some (get_or xs i x) x (sym (slice_get-get_or xs i x small) ∙ at))

apart_more : (xs : List ℕ) (x : ℕ) → All (λ y. y ≢ x) xs → Apart xs → Apart (xs ++ x ∷ [])
apart_more xs x fresh apart j k y a b =
    elim (snoc_cases xs x j y a) [
      | inl j_old ↦
          elim (snoc_cases xs x k y b) [
            | inl k_old ↦ apart j k y j_old k_old
            | inr k_new ↦ absurd (not_at xs x j fresh (j_old ∙ ap Some (sym k_new.1)))
          ]
      | inr j_new ↦
          elim (snoc_cases xs x k y b) [
            | inl k_old ↦ absurd (not_at xs x k fresh (k_old ∙ ap Some (sym j_new.1)))
            | inr k_new ↦ j_new.0 ∙ sym k_new.0
          ]
    ]

-- ---- after one move more

stamps_more : (moves : List Move) (m : Move) (name : List ℕ) → stamps_of (moves ++ m ∷ []) name ≡ stamps_of moves name ++ stamp_given name m
stamps_more [] m name = append-nil (stamp_given name m)
stamps_more (x ∷ moves) m name = ap (λ rest. stamp_given name x ++ rest) (stamps_more moves m name) ∙ sym (append_assoc (stamp_given name x) (stamps_of moves name) (stamp_given name m))

same_stamps : (moves : List Move) (m : Move) (name : List ℕ) → stamp_given name m ≡ [] → stamps_of (moves ++ m ∷ []) name ≡ stamps_of moves name
same_stamps moves m name none = stamps_more moves m name ∙ ap (λ xs. stamps_of moves name ++ xs) none ∙ append-nil (stamps_of moves name)

given : (b : Bool) (xs : List ℕ) (x : ℕ) → (b ≡ true → All (λ y. y ≢ x) xs) → Apart xs → Apart (xs ++ cond b (x ∷ []) [])
given true xs x fresh apart = apart_more xs x (fresh refl) apart
given false xs x fresh apart = subst Apart (sym (append-nil xs)) apart

pub fresh_renamed : (moves : List Move) (area : Area) (name bytes : List ℕ) (stamp : ℕ) → HasFreshStamps moves → IsFresh moves name stamp → HasFreshStamps (moves ++ Renamed area name bytes stamp ∷ [])
unfolding HasFreshStamps
fresh_renamed moves area name bytes stamp apart fresh n =
    subst Apart (sym (stamps_more moves (Renamed area name bytes stamp) n))
    (given (same_name name n) (stamps_of moves n) stamp (λ e. subst (λ x. IsFresh moves x stamp) (same_text name n (sym e)) fresh) (apart n))

pub fresh_synced : (moves : List Move) (area : Area) → HasFreshStamps moves → HasFreshStamps (moves ++ Synced area ∷ [])
unfolding HasFreshStamps
fresh_synced moves area apart n = subst Apart (sym (same_stamps moves (Synced area) n refl)) (apart n)

pub fresh_removed : (moves : List Move) (area : Area) (name : List ℕ) → HasFreshStamps moves → HasFreshStamps (moves_removed area name moves)
unfolding HasFreshStamps
fresh_removed moves area name apart =
    elim (is_some (get (area_after moves area) name)) as (λ b. HasFreshStamps (cond b (moves ++ Removed area name ∷ []) moves)) [
      | true ↦ λ n. subst Apart (sym (same_stamps moves (Removed area name) n refl)) (apart n)
      | false ↦ apart
    ]

-- ---- the same stamp, the same file

-- what stands after more moves: the file from before, none, or one with a stamp that these moves gave
abbrev Came : List ℕ → Option File → Option File → Type 0
Came stamps old now = (now ≡ old) ⊎ ((f : File) → now ≡ Some f → Contains stamps f.stamp)

module _ (area : Area) (q : List ℕ) where
  came : (files : Files) (moves : List Move) → Came (stamps_of moves q) (get files q) (get (fold (area_step area) files moves) q)
  came files [] = inl refl
  came files (m ∷ moves) =
      elim (came (area_step area files m) moves) [
        | inl same ↦ first (get files q) m (same ∙ get-step area q files m)
        | inr new ↦ inr (λ f is. Contains-append_right (stamp_given q m) (stamps_of moves q) f.stamp (new f is))
      ] where
        put : (here same : Bool) (old now : Option File) (bytes : List ℕ) (stamp : ℕ) (rest : List ℕ) → now ≡ cond (here && same) (Some (file bytes stamp)) old
            → Came (cond same (stamp ∷ []) [] ++ rest) old now
        put true true old now bytes stamp rest is = inr (λ f e. (0, omega arith, ap (λ g. g.stamp) (same_Some (file bytes stamp) f (sym is ∙ e))))
        put true false old now bytes stamp rest is = inl is
        put false same old now bytes stamp rest is = inl is

        gone : (here : Bool) (old now : Option File) (rest : List ℕ) → now ≡ cond here None old → Came rest old now
        gone true old now rest is = inr (λ f e. cc)
        gone false old now rest is = inl is

        first : (old : Option File) (m : Move) → get (fold (area_step area) (area_step area files m) moves) q ≡ file_step area q old m → Came (stamp_given q m ++ stamps_of moves q) old (get (fold (area_step area) (area_step area files m) moves) q)
        first old (Renamed a n bytes stamp) is = put (same_area area a) (same_name n q) old _ bytes stamp (stamps_of moves q) is
        first old (Removed a n) is = gone (same_area area a && same_name n q) old _ (stamps_of moves q) is
        first old (Synced a) is = gone false old _ (stamps_of moves q) is
        first old (Placed a n bytes stamp) is = put (same_area area a) (same_name n q) old _ bytes stamp (stamps_of moves q) is

pub same_file : (before now : List Move) (area : Area) (name : List ℕ) (old new : File) → Adds before now → HasFreshStamps now
    → get (area_after before area) name ≡ Some old → get (area_after now area) name ≡ Some new → old.stamp ≡ new.stamp → old ≡ new
unfolding HasFreshStamps
same_file before now area name old new adds apart was is stamps =
    let later : get (area_after now area) name ≡ get (fold (area_step area) (area_after before area) adds.more) name =
    ap (λ ms. get (area_after ms area) name) adds.added ∙ ap (λ fs. get fs name) (fold-append (area_step area) empty before adds.more) in
    elim (came area name (area_after before area) adds.more) [
      | inl same ↦ same_Some old new (sym was ∙ sym same ∙ sym later ∙ is)
      | inr came_later ↦
          let all : stamps_of now name ≡ stamps_of before name ++ stamps_of adds.more name = ap (λ ms. stamps_of ms name) adds.added ∙ flat_map-append (stamp_given name) before adds.more in
          let first = index_of (stamps_of before name) old.stamp (standing_given before area name old was) in
          let second = index_of (stamps_of adds.more name) new.stamp (came_later new (sym later ∙ is)) in
          let at_first = in_front (stamps_of before name) (stamps_of adds.more name) first.0 old.stamp first.1 in
          let at_second = behind (stamps_of before name) (stamps_of adds.more name) second.0 new.stamp second.1 ∙ ap Some (sym stamps) in
          let small = within (stamps_of before name) first.0 old.stamp first.1 in
          let same = apart name first.0 (second.0 + length (stamps_of before name)) old.stamp (ap (λ xs. slice_get xs first.0) all ∙ at_first) (ap (λ xs. slice_get xs (second.0 + length (stamps_of before name))) all ∙ at_second) in
          absurd (omega (arith, small, same))
    ]

-- ---- stamps that are the numbers of moves

one_above : (b : Bool) (stamp low : ℕ) → low ≤ stamp → All (λ s. low ≤ s) (cond b (stamp ∷ []) [])
one_above true stamp low h = All-cons (λ s. low ≤ s) stamp [] h (λ k d small. absurd (omega (arith, small)))
one_above false stamp low h = λ k d small. absurd (omega (arith, small))

above : (n : ℕ) (moves : List Move) (name : List ℕ) (low : ℕ) → IsNumbered n moves → low ≤ n → All (λ s. low ≤ s) (stamps_of moves name)
above n [] name low h le = λ k d small. absurd (omega (arith, small))
above n (Renamed area q bytes stamp ∷ moves) name low h le =
    All-append (λ s. low ≤ s) _ (stamps_of moves name) (one_above (same_name q name) stamp low (omega (arith, h.0))) (above (n + 1) moves name low h.1 (omega arith))
above n (Removed area q ∷ moves) name low h le = above (n + 1) moves name low h (omega arith)
above n (Synced area ∷ moves) name low h le = above (n + 1) moves name low h (omega arith)
above n (Placed area q bytes stamp ∷ moves) name low h le =
    All-append (λ s. low ≤ s) _ (stamps_of moves name) (one_above (same_name q name) stamp low (omega (arith, h.0))) (above (n + 1) moves name low h.1 (omega arith))

differs : (xs : List ℕ) (x : ℕ) → All (λ s. x + 1 ≤ s) xs → All (λ y. y ≢ x) xs
differs xs x all k d small same = let low = all k d small in omega (arith, low, same)

first_apart : (b : Bool) (x : ℕ) (xs : List ℕ) → All (λ y. y ≢ x) xs → Apart xs → Apart (cond b (x ∷ []) [] ++ xs)
first_apart false x xs fresh apart j k y a b = apart j k y a b
first_apart true x xs fresh apart zero zero y a b = refl
first_apart true x xs fresh apart zero (suc k) y a b = absurd (not_at xs x k fresh (b ∙ sym a))
first_apart true x xs fresh apart (suc j) zero y a b = absurd (not_at xs x j fresh (a ∙ sym b))
first_apart true x xs fresh apart (suc j) (suc k) y a b = ap suc (apart j k y a b)

apart_from : (n : ℕ) (moves : List Move) (name : List ℕ) → IsNumbered n moves → Apart (stamps_of moves name)
apart_from n [] name h = λ j k x a b. cc
apart_from n (Renamed area q bytes stamp ∷ moves) name h =
    first_apart (same_name q name) stamp (stamps_of moves name) (differs (stamps_of moves name) stamp (above (n + 1) moves name (stamp + 1) h.1 (omega (arith, h.0)))) (apart_from (n + 1) moves name h.1)
apart_from n (Removed area q ∷ moves) name h = apart_from (n + 1) moves name h
apart_from n (Synced area ∷ moves) name h = apart_from (n + 1) moves name h
apart_from n (Placed area q bytes stamp ∷ moves) name h =
    first_apart (same_name q name) stamp (stamps_of moves name) (differs (stamps_of moves name) stamp (above (n + 1) moves name (stamp + 1) h.1 (omega (arith, h.0)))) (apart_from (n + 1) moves name h.1)

pub numbered_apart : (moves : List Move) → IsNumbered 0 moves → HasFreshStamps moves
unfolding HasFreshStamps
numbered_apart moves h name = apart_from 0 moves name h
