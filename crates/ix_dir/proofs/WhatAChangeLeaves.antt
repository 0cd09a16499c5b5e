-- What one change leaves, and what more moves leave of an earlier moment.
use Rattle.std.proofs.Common.{◌≡◌, ◌↔◌, ℕ, zero, suc, ◌≤◌, Bool, true, false, cond, ◌&&◌, List, [], ◌∷◌, ◌++◌, length, take, refl, sym, ap, ◌∙◌, subst, Option, Some, None, is_some, arith, append_assoc}
use Rattle.std.specs.Option.{option_map}
use Rattle.std.specs.FinMap.{get}
use Rattle.ix_dir.specs.declared.area.Area.{Area}
use Rattle.ix_dir.specs.Calls.{with_move, moves_removed}
use Rattle.ix_dir.specs.Crash.{IsSettledIn}
use Rattle.ix_dir.specs.Files.{File, file, bytes_at}
use Rattle.ix_dir.specs.Images.{Value, Image, IsImage}
use Rattle.ix_dir.specs.WhatAChangeLeaves.{LeavesAt, Adds, AddsTo}
use Rattle.ix_dir.specs.Moves.{Move, Renamed, Removed, Synced, area_after, same_area, same_name}
use Rattle.ix_dir.proofs.WhatACrashLeaves.{same_area_itself, same_name_itself}
use Rattle.ix_dir.proofs.ValuesStood.{synced_stands}
use Rattle.ix_dir.proofs.FileAfterAMove.{get-area_after, area_after-append}

-- the test for the name and area holds of themselves
pub itself : (area : Area) (name : List ℕ) → (same_area area area && same_name name name) ≡ true
itself area name = ap (λ b. b && same_name name name) (same_area_itself area) ∙ same_name_itself name

kept : {A : Type 0} (b : Bool) (x y : A) → b ≡ false → cond b x y ≡ y
kept b x y e = rw e refl

met : {A : Type 0} (b : Bool) (x y : A) → b ≡ true → cond b x y ≡ x
met b x y e = rw e refl

bytes_of : Option File → Value
bytes_of = option_map (λ f. f.bytes)

pub renamed : (moves : List Move) (area : Area) (name bytes : List ℕ) (stamp : ℕ) → LeavesAt area name (Some bytes) moves (moves ++ Renamed area name bytes stamp ∷ [])
unfolding bytes_of
renamed moves area name bytes stamp = record {
  here = ap bytes_of (get-area_after moves (Renamed area name bytes stamp) area name ∙ met _ (Some (file bytes stamp)) _ (itself area name));
  others = λ a n no. get-area_after moves (Renamed area name bytes stamp) a n ∙ kept _ _ _ no;
}

pub taken_away : (moves : List Move) (area : Area) (name : List ℕ) → LeavesAt area name None moves (moves ++ Removed area name ∷ [])
unfolding bytes_of
taken_away moves area name = record {
  here = ap bytes_of (get-area_after moves (Removed area name) area name ∙ met _ None _ (itself area name));
  others = λ a n no. get-area_after moves (Removed area name) a n ∙ kept _ _ _ no;
}

nothing : (o : Option File) → is_some o ≡ false → option_map (λ f. f.bytes) o ≡ None
nothing None e = refl
nothing (Some f) e = cc

pub without : (moves : List Move) (area : Area) (name : List ℕ) → LeavesAt area name None moves (moves_removed area name moves)
without moves area name =
    elim (is_some (get (area_after moves area) name)) as (λ b. is_some (get (area_after moves area) name) ≡ b → LeavesAt area name None moves (cond b (moves ++ Removed area name ∷ []) moves)) [
      | true ↦ λ e. taken_away moves area name
      | false ↦ λ e. record { here = nothing (get (area_after moves area) name) e; others = λ a n no. refl }
    ] refl

pub synced : (moves : List Move) (area a : Area) → area_after (moves ++ Synced area ∷ []) a ≡ area_after moves a
synced moves area a = area_after-append moves (Synced area) a

pub settled : (moves : List Move) (area : Area) → IsSettledIn area (moves ++ Synced area ∷ [])
settled moves area name = synced_stands moves area name ∙ ap (λ files. bytes_at files name ∷ []) (sym (synced moves area area))

pub take_front : {A : Type 0} (xs ys : List A) (n : ℕ) → n ≤ length xs → take n (xs ++ ys) ≡ take n xs
take_front [] [] zero h = refl
take_front [] (y ∷ ys) zero h = refl
take_front [] ys (suc n) h = absurd (omega arith)
take_front (x ∷ xs) ys zero h = refl
take_front (x ∷ xs) ys (suc n) h = ap (λ rest. x ∷ rest) (take_front xs ys n (omega arith))

append_none : {A : Type 0} (xs : List A) → xs ++ [] ≡ xs
append_none [] = refl
append_none (x ∷ xs) = ap (λ rest. x ∷ rest) (append_none xs)

no_more : (moves : List Move) → Adds moves moves
no_more moves = record { more = []; added = sym (append_none moves) }

pub added_move : (moves : Option (List Move)) (move : Move) → AddsTo moves (with_move moves move)
added_move None move = tt
added_move (Some ms) move = record { more = move ∷ []; added = refl }

added_if : (b : Bool) (moves : List Move) (move : Move) → Adds moves (cond b (moves ++ move ∷ []) moves)
added_if true moves move = record { more = move ∷ []; added = refl }
added_if false moves move = no_more moves

pub added_removal : (moves : Option (List Move)) (area : Area) (name : List ℕ) → AddsTo moves (option_map (moves_removed area name) moves)
added_removal None area name = tt
added_removal (Some ms) area name = added_if (is_some (get (area_after ms area) name)) ms (Removed area name)

pub added_none : (moves : Option (List Move)) → AddsTo moves moves
added_none None = tt
added_none (Some ms) = no_more ms

two_added : (first second third : List Move) → Adds first second → Adds second third → Adds first third
two_added first second third a b = record { more = a.more ++ b.more; added = b.added ∙ ap (λ ms. ms ++ b.more) a.added ∙ append_assoc first a.more b.more }

pub added_both : (first second third : Option (List Move)) → AddsTo first second → AddsTo second third → AddsTo first third
added_both None None None a b = tt
added_both None None (Some z) a b = absurd b
added_both None (Some y) z a b = absurd a
added_both (Some x) None z a b = absurd a
added_both (Some x) (Some y) None a b = absurd b
added_both (Some x) (Some y) (Some z) a b = two_added x y z a b

pub images_stay : (before now : List Move) (moment : ℕ) (image : Image) → Adds before now → moment ≤ length before → IsImage (take moment now) image ↔ IsImage (take moment before) image
images_stay before now moment image adds within =
    let same : take moment now ≡ take moment before = ap (take moment) adds.added ∙ take_front before adds.more moment within in
    (λ is. subst (λ ms. IsImage ms image) same is, λ is. subst (λ ms. IsImage ms image) (sym same) is)
