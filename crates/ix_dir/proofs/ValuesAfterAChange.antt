-- What one change leaves of the values of its own name and of all others, and what a crash leaves of a settled area.
use Rattle.std.proofs.Common.{◌≡◌, ℕ, zero, suc, Bool, true, false, cond, ◌&&◌, List, [], ◌∷◌, ◌++◌, refl, sym, ap, ◌∙◌, subst, Some, None, is_some, Contains, arith}
use Rattle.std.specs.FinMap.{get}
use Rattle.std.specs.Option.{option_map}
use Rattle.std.proofs.lemmas.Bool.{cond-true, cond-false}
use Rattle.ix_dir.specs.declared.area.Area.{Area}
use Rattle.ix_dir.specs.Calls.{moves_removed}
use Rattle.ix_dir.specs.Crash.{IsSettledIn}
use Rattle.ix_dir.specs.Files.{bytes_at}
use Rattle.ix_dir.specs.Images.{Value, Image, IsImage, values_of}
use Rattle.ix_dir.specs.WhatAChangeLeaves.{LeavesAt}
use Rattle.ix_dir.specs.Moves.{Move, Renamed, Removed, Synced, area_after, same_area, same_name}
use Rattle.ix_dir.proofs.WhatAChangeLeaves.{renamed, without, synced, itself}
use Rattle.ix_dir.proofs.ValuesAfterAMove.{values_of-append}

-- every other name
pub other_renamed : (moves : List Move) (area : Area) (name bytes : List ℕ) (stamp : ℕ) (a : Area) (n : List ℕ)
    → (same_area a area && same_name name n) ≡ false → values_of (moves ++ Renamed area name bytes stamp ∷ []) a n ≡ values_of moves a n
other_renamed moves area name bytes stamp a n other = values_of-append moves (Renamed area name bytes stamp) a n ∙ cond-false _ _ _ other

pub other_removed : (moves : List Move) (area : Area) (name : List ℕ) (a : Area) (n : List ℕ)
    → (same_area a area && same_name name n) ≡ false → values_of (moves_removed area name moves) a n ≡ values_of moves a n
other_removed moves area name a n other =
    elim (is_some (get (area_after moves area) name)) as (λ b. values_of (cond b (moves ++ Removed area name ∷ []) moves) a n ≡ values_of moves a n) [
      | true ↦ values_of-append moves (Removed area name) a n ∙ cond-false _ _ _ other
      | false ↦ refl
    ]

pub other_synced : (moves : List Move) (area a : Area) (n : List ℕ) → same_area a area ≡ false → values_of (moves ++ Synced area ∷ []) a n ≡ values_of moves a n
other_synced moves area a n other = values_of-append moves (Synced area) a n ∙ cond-false _ _ _ other

-- its own name
pub own_renamed : (moves : List Move) (area : Area) (name bytes : List ℕ) (stamp : ℕ)
    → values_of (moves ++ Renamed area name bytes stamp ∷ []) area name ≡ values_of moves area name ++ Some bytes ∷ []
own_renamed moves area name bytes stamp = values_of-append moves (Renamed area name bytes stamp) area name ∙ cond-true _ _ _ (itself area name)

pub own_removed : (moves : List Move) (area : Area) (name : List ℕ) → is_some (get (area_after moves area) name) ≡ true
    → values_of (moves_removed area name moves) area name ≡ values_of moves area name ++ None ∷ []
own_removed moves area name there =
    ap (λ b. values_of (cond b (moves ++ Removed area name ∷ []) moves) area name) there
    ∙ values_of-append moves (Removed area name) area name
    ∙ cond-true _ _ _ (itself area name)

-- a list of one value has no other
pub only_one : (x v : Value) → Contains (x ∷ []) v → v ≡ x
only_one x v (zero, h, is) = sym is
only_one x v (suc k, h, is) = absurd (omega arith)

pub settled_leaves : (moves : List Move) (area : Area) (image : Image) (name : List ℕ) → IsSettledIn area moves → IsImage moves image
    → get (image area) name ≡ bytes_at (area_after moves area) name
settled_leaves moves area image name settled left =
    only_one _ (get (image area) name) (subst (λ values. Contains values (get (image area) name)) (settled name) (left area name))

-- ---- the other area

both_false : (b c : Bool) → b ≡ false → (b && c) ≡ false
both_false b c e = rw e refl

module _ (moves now : List Move) (area : Area) (name : List ℕ) (value : Value) (a : Area) (other : same_area a area ≡ false) (left : LeavesAt area name value moves now) where
  settled_other : ((n : List ℕ) → values_of now a n ≡ values_of moves a n) → IsSettledIn a moves → IsSettledIn a now
  settled_other same settled n =
      same n ∙ settled n ∙ ap (λ f. option_map (λ g. g.bytes) f ∷ []) (sym (left.others a n (both_false (same_area a area) (same_name name n) other)))

pub settled_renamed : (moves : List Move) (area : Area) (name bytes : List ℕ) (stamp : ℕ) (a : Area) → same_area a area ≡ false → IsSettledIn a moves → IsSettledIn a (moves ++ Renamed area name bytes stamp ∷ [])
settled_renamed moves area name bytes stamp a other =
    settled_other moves (moves ++ Renamed area name bytes stamp ∷ []) area name (Some bytes) a other (renamed moves area name bytes stamp)
    (λ n. other_renamed moves area name bytes stamp a n (both_false (same_area a area) (same_name name n) other))

pub settled_removed : (moves : List Move) (area : Area) (name : List ℕ) (a : Area) → same_area a area ≡ false → IsSettledIn a moves → IsSettledIn a (moves_removed area name moves)
settled_removed moves area name a other =
    settled_other moves (moves_removed area name moves) area name None a other (without moves area name)
    (λ n. other_removed moves area name a n (both_false (same_area a area) (same_name name n) other))

pub settled_synced : (moves : List Move) (area a : Area) → same_area a area ≡ false → IsSettledIn a moves → IsSettledIn a (moves ++ Synced area ∷ [])
settled_synced moves area a other settled n =
    other_synced moves area a n other ∙ settled n ∙ ap (λ files. bytes_at files n ∷ []) (sym (synced moves area a))
