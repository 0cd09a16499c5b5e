-- What definitions that contracts cite say, in other words.
use Rattle.std.proofs.Common.{◌≡◌, ℕ, true, false, cond, ◌&&◌, List, [], ◌∷◌, ◌++◌, length, map, take, refl, sym, ap, ◌∙◌, subst, Option, Some, None, is_some}
use Rattle.std.specs.List.{slice_get}
use Rattle.std.specs.Map.{keys_of}
use Rattle.std.specs.Option.{option_map}
use Rattle.std.specs.Cmp.Lexicographic.{same_text}
use Rattle.std.proofs.Math.Seq.{take-append_seam}
use Rattle.std.proofs.lemmas.Bool.{and_parts, cond-true}
use Rattle.std.proofs.lemmas.Option.{same_Some}
use Rattle.ix_dir.specs.declared.area.Area.{Area}
use Rattle.ix_dir.specs.declared.dir.Listed.{Listed}
use Rattle.ix_dir.specs.Calls.{Renames}
use Rattle.ix_dir.specs.Files.{file, bytes_at, stamp_at, rows_of, IsRising}
use Rattle.ix_dir.specs.Images.{Value, values_of}
use Rattle.ix_dir.specs.Moves.{Move, Renamed, Removed, Synced, Placed, area_after, same_area, same_name}
use Rattle.ix_dir.specs.Stamps.{HasFreshStamps}
use Rattle.ix_dir.specs.StoodSinceSync.{syncs, is_placed}
use Rattle.ix_dir.specs.WhatAChangeLeaves.{LeavesAt, AddsTo}
use Rattle.ix_dir.proofs.Door.{distinct_keys}
use Rattle.ix_dir.proofs.FileAfterAMove.{get-area_after, area_after-append}
use Rattle.ix_dir.proofs.ImagesAfterAChange.{same_area_same}
use Rattle.ix_dir.proofs.StampsApart.{fresh_renamed}
use Rattle.ix_dir.proofs.ValuesAfterAMove.{values_of-append}
use Rattle.ix_dir.proofs.ValuesStood.{last_stands}
use Rattle.ix_dir.proofs.WhatAChangeLeaves.{renamed}

-- after a placed file, and after a sync, a name has one value
pub placed_alone : (moves : List Move) (m : Move) (area : Area) (name : List ℕ) → is_placed area name m ≡ true → values_of (moves ++ m ∷ []) area name ≡ bytes_at (area_after (moves ++ m ∷ []) area) name ∷ []
placed_alone moves (Renamed a n bytes stamp) area name h = cc
placed_alone moves (Removed a n) area name h = cc
placed_alone moves (Synced a) area name h = cc
placed_alone moves (Placed a n bytes stamp) area name h =
    values_of-append moves (Placed a n bytes stamp) area name ∙ cond-true _ _ _ h
    ∙ ap (λ o. option_map (λ f. f.bytes) o ∷ []) (sym (get-area_after moves (Placed a n bytes stamp) area name ∙ cond-true _ (Some (file bytes stamp)) _ h))

pub synced_alone : (moves : List Move) (m : Move) (area : Area) (name : List ℕ) → syncs area m ≡ true → values_of (moves ++ m ∷ []) area name ≡ bytes_at (area_after (moves ++ m ∷ []) area) name ∷ []
synced_alone moves (Renamed a n bytes stamp) area name h = cc
synced_alone moves (Removed a n) area name h = cc
synced_alone moves (Placed a n bytes stamp) area name h = cc
synced_alone moves (Synced a) area name h =
    values_of-append moves (Synced a) area name ∙ cond-true _ _ _ h ∙ last_stands moves area name
    ∙ ap (λ files. bytes_at files name ∷ []) (sym (area_after-append moves (Synced a) area))

-- a rename through a directory
module _ (old now : List Move) (area : Area) (name bytes : List ℕ) (renames : Renames (Some old) (Some now) area name bytes) where
  pub rename_left : LeavesAt area name (Some bytes) old now
  rename_left = subst (LeavesAt area name (Some bytes) old) (sym (same_Some now _ renames.move)) (renamed old area name bytes renames.stamp)

  pub rename_fresh : HasFreshStamps old → HasFreshStamps now
  rename_fresh apart = subst HasFreshStamps (sym (same_Some now _ renames.move)) (fresh_renamed old area name bytes renames.stamp apart renames.fresh)

-- what a change leaves, as one look-up
module _ (area : Area) (name : List ℕ) (value : Value) (before now : List Move) (left : LeavesAt area name value before now) (a : Area) (n : List ℕ) where
  pub left_bytes_at : bytes_at (area_after now a) n ≡ cond (same_area a area && same_name name n) value (bytes_at (area_after before a) n)
  left_bytes_at =
      elim (same_area a area && same_name name n) as (λ b. (same_area a area && same_name name n) ≡ b → bytes_at (area_after now a) n ≡ cond b value (bytes_at (area_after before a) n)) [
        | true ↦ λ is.
            let parts = and_parts (same_area a area) (same_name name n) is in
            subst (λ x. bytes_at (area_after now x) n ≡ value) (sym (same_area_same a area parts.0))
            (subst (λ x. bytes_at (area_after now area) x ≡ value) (same_text name n (sym parts.1)) left.here)
        | false ↦ λ is. ap (option_map (λ f. f.bytes)) (left.others a n is)
      ] refl

  pub left_stamp_at : (same_area a area && same_name name n) ≡ false → stamp_at (area_after now a) n ≡ stamp_at (area_after before a) n
  left_stamp_at other = ap (option_map (λ f. f.stamp)) (left.others a n other)

pub told_alike : (before now : Option (List Move)) → AddsTo before now → is_some now ≡ is_some before
told_alike None None adds = refl
told_alike None (Some now) adds = absurd adds
told_alike (Some before) None adds = absurd adds
told_alike (Some before) (Some now) adds = refl

pub front_stays : (before now : List Move) → AddsTo (Some before) (Some now) → take (length before) now ≡ before
front_stays before now adds = ap (take (length before)) adds.added ∙ take-append_seam before adds.more

keys_names : (listed : List Listed) → keys_of (rows_of listed) ≡ map (λ l. l.name) listed
keys_names [] = refl
keys_names (l ∷ listed) = ap (λ rest. l.name ∷ rest) (keys_names listed)

pub names_apart : (listed : List Listed) → IsRising listed → (x : List ℕ) (j k : ℕ) → slice_get (map (λ l. l.name) listed) j ≡ Some x → slice_get (map (λ l. l.name) listed) k ≡ Some x → j ≡ k
names_apart listed rising x j k at_j at_k =
    let keys = keys_names listed in
    distinct_keys (rows_of listed) rising x j k (ap (λ names. slice_get names j) keys ∙ at_j) (ap (λ names. slice_get names k) keys ∙ at_k)
