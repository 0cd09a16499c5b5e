-- The values of a name are what stood there since the last sync.
use Rattle.std.proofs.Common.{◌≡◌, ◌⊎◌, inl, inr, ℕ, zero, suc, ◌-◌, ◌<◌, ◌≤◌, Bool, true, false, cond, ◌&&◌, List, [], ◌∷◌, ◌++◌, length, drop, get_or, refl, sym, ap, ◌∙◌, subst, Option, Some, None, Contains, arith, length-append, append_assoc, append-nil}
use Rattle.std.specs.List.{list_any, fold}
use Rattle.std.specs.Option.{option_map}
use Rattle.std.specs.FinMap.{get, empty, get-empty}
use Rattle.std.proofs.lemmas.List.{take-append-le}
use Rattle.std.proofs.lemmas.List.Folds.{list_any-append}
use Rattle.ix_dir.specs.declared.area.Area.{Area}
use Rattle.ix_dir.specs.Crash.{standing}
use Rattle.ix_dir.specs.Files.{File, Files, file, bytes_at}
use Rattle.ix_types.specs.Row.{text_cmp}
use Rattle.ix_dir.specs.Images.{Value, values_of, values_step, last_alone, IsImage}
use Rattle.ix_dir.specs.StoodSinceSync.{StoodSince, syncs}
use Rattle.ix_dir.specs.Moves.{Move, Renamed, Removed, Synced, Placed, area_after, area_step, same_area, same_name}
use Rattle.ix_dir.proofs.WhatACrashLeaves.{same_area_itself}
use Rattle.ix_dir.proofs.PickIsAnImage.{get-contents_of}
use Rattle.ix_dir.proofs.FileAfterAMove.{file_step, get-step}
use Rattle.ix_dir.proofs.ValuesAfterAMove.{values_of-append, take_full}

drop_to_last : (values : List Value) (v : Value) → drop (length values) (values ++ v ∷ []) ≡ v ∷ []
drop_to_last [] v = refl
drop_to_last (x ∷ values) v = drop_to_last values v

last_of_more : (values : List Value) (v : Value) → last_alone (values ++ v ∷ []) ≡ v ∷ []
last_of_more values v =
    let one_less : length (values ++ v ∷ []) - 1 ≡ length values = omega (arith, length-append values (v ∷ [])) in
    ap (λ n. drop n (values ++ v ∷ [])) one_less ∙ drop_to_last values v

appended : (b : Bool) (values : List Value) (v old : Value) → last_alone values ≡ old ∷ [] → last_alone (cond b (values ++ v ∷ []) values) ≡ cond b v old ∷ []
appended true values v old h = last_of_more values v
appended false values v old h = h

alone : (b : Bool) (values : List Value) (v old : Value) → last_alone values ≡ old ∷ [] → last_alone (cond b (v ∷ []) values) ≡ cond b v old ∷ []
alone true values v old h = refl
alone false values v old h = h

lasting : (b : Bool) (values : List Value) (old : Value) → last_alone values ≡ old ∷ [] → last_alone (cond b (last_alone values) values) ≡ old ∷ []
lasting true values old h = ap last_alone h
lasting false values old h = h

file_of : (b : Bool) (f old : Option File) → cond b (option_map (λ g. g.bytes) f) (option_map (λ g. g.bytes) old) ≡ option_map (λ g. g.bytes) (cond b f old)
file_of true f old = refl
file_of false f old = refl

module _ (area : Area) (q : List ℕ) where
  last_step : (values : List Value) (files : Files) (m : Move) → last_alone values ≡ bytes_at files q ∷ [] → last_alone (values_step area q values m) ≡ option_map (λ f. f.bytes) (file_step area q (get files q) m) ∷ []
  last_step values files (Renamed a n bytes stamp) h =
      let here = same_area area a && same_name n q in
      appended here values (Some bytes) (bytes_at files q) h ∙ ap (λ v. v ∷ []) (file_of here (Some (file bytes stamp)) (get files q))
  last_step values files (Removed a n) h =
      let here = same_area area a && same_name n q in
      appended here values None (bytes_at files q) h ∙ ap (λ v. v ∷ []) (file_of here None (get files q))
  last_step values files (Synced a) h = lasting (same_area area a) values (bytes_at files q) h
  last_step values files (Placed a n bytes stamp) h =
      let here = same_area area a && same_name n q in
      alone here values (Some bytes) (bytes_at files q) h ∙ ap (λ v. v ∷ []) (file_of here (Some (file bytes stamp)) (get files q))

  last_all : (values : List Value) (files : Files) (moves : List Move) → last_alone values ≡ bytes_at files q ∷ []
      → last_alone (fold (values_step area q) values moves) ≡ bytes_at (fold (area_step area) files moves) q ∷ []
  last_all values files [] h = h
  last_all values files (m ∷ moves) h =
      last_all (values_step area q values m) (area_step area files m) moves
      (last_step values files m h ∙ ap (λ o. option_map (λ f. f.bytes) o ∷ []) (sym (get-step area q files m)))

pub last_stands : (moves : List Move) (area : Area) (name : List ℕ) → last_alone (values_of moves area name) ≡ bytes_at (area_after moves area) name ∷ []
last_stands moves area name =
    last_all area name (None ∷ []) empty moves (ap (λ o. option_map (λ f. f.bytes) o ∷ []) (sym (get-empty {X = File} text_cmp name)))

pub synced_stands : (moves : List Move) (area : Area) (name : List ℕ) → values_of (moves ++ Synced area ∷ []) area name ≡ bytes_at (area_after moves area) name ∷ []
synced_stands moves area name =
    values_of-append moves (Synced area) area name
    ∙ ap (λ b. cond b (last_alone (values_of moves area name)) (values_of moves area name)) (same_area_itself area)
    ∙ last_stands moves area name

pub at_drop : (values : List Value) (k : ℕ) (v : Value) → drop k values ≡ v ∷ [] → (k < length values) × (get_or values k v ≡ v)
at_drop [] zero v h = cc
at_drop [] (suc k) v h = cc
at_drop (x ∷ values) zero v h = let same : x ≡ v = cc in (omega arith, same)
at_drop (x ∷ values) (suc k) v h =
    let rest = at_drop values k v h in
    (omega (arith, rest.0), rest.1)

pub standing_image : (moves : List Move) → IsImage moves (standing moves)
standing_image moves area name =
    let values = values_of moves area name in
    let v = bytes_at (area_after moves area) name in
    let at = at_drop values (length values - 1) v (last_stands moves area name) in
    let there : Contains values v = (length values - 1, at.0, at.1) in
    subst (Contains values) (sym (get-contents_of (area_after moves area) name)) there

-- one more element
pub contains_more : (values : List Value) (x v : Value) → Contains (values ++ x ∷ []) v → Contains values v ⊎ (x ≡ v)
contains_more [] x v (zero, h, is) = inr is
contains_more [] x v (suc k, h, is) = absurd (omega arith)
contains_more (y ∷ values) x v (zero, h, is) = inl (zero, omega arith, is)
contains_more (y ∷ values) x v (suc k, h, is) =
    elim (contains_more values x v (k, omega arith, is)) [
      | inl old ↦ inl (suc old.0, omega (arith, old.1), old.2)
      | inr new ↦ inr new
    ]

contains_one : (x v : Value) → Contains (x ∷ []) v → x ≡ v
contains_one x v (zero, h, is) = is
contains_one x v (suc k, h, is) = absurd (omega arith)

drop-snoc : (moves : List Move) (m : Move) (k : ℕ) → k ≤ length moves → drop k (moves ++ m ∷ []) ≡ drop k moves ++ m ∷ []
drop-snoc moves m zero h = refl
drop-snoc [] m (suc k) h = absurd (omega arith)
drop-snoc (x ∷ moves) m (suc k) h = drop-snoc moves m k (omega arith)

drop_none : (moves : List Move) → drop (length moves) moves ≡ []
drop_none [] = refl
drop_none (x ∷ moves) = drop_none moves

module _ (area : Area) (name : List ℕ) where
  stood_now : (moves : List Move) (v : Value) → bytes_at (area_after moves area) name ≡ v → StoodSince moves area name v
  stood_now moves v is = record {
    moment = length moves;
    within = omega arith;
    stood = ap (λ ms. bytes_at (area_after ms area) name) (take_full moves (length moves) (omega arith)) ∙ is;
    not_synced = ap (list_any (syncs area)) (drop_none moves);
  }

  stood_still : (moves : List Move) (m : Move) (v : Value) → syncs area m ≡ false → StoodSince moves area name v → StoodSince (moves ++ m ∷ []) area name v
  stood_still moves m v quiet since =
      let within = since.within in
      record {
        moment = since.moment;
        within = omega (arith, since.within, length-append moves (m ∷ []));
        stood = ap (λ ms. bytes_at (area_after ms area) name) (take-append-le since.moment moves (m ∷ []) within) ∙ since.stood;
        not_synced =
            ap (list_any (syncs area)) (drop-snoc moves m since.moment since.within)
            ∙ list_any-append (syncs area) (drop since.moment moves) (m ∷ [])
            ∙ rw (since.not_synced, quiet) refl;
      }

  -- each value stood there since the last sync
  abbrev Stood : List Move → Type 0
  Stood moves = (v : Value) → Contains (values_of moves area name) v → StoodSince moves area name v

  -- the last value is what stands
  newest : (moves : List Move) (values : List Value) (x : Value) → values_of moves area name ≡ values → last_alone values ≡ x ∷ [] → bytes_at (area_after moves area) name ≡ x
  newest moves values x is last =
      let both : bytes_at (area_after moves area) name ∷ [] ≡ x ∷ [] = sym (last_stands moves area name) ∙ ap last_alone is ∙ last in
      cc

  stood_appended : (b : Bool) (moves : List Move) (m : Move) (x : Value) → syncs area m ≡ false → Stood moves
      → values_of (moves ++ m ∷ []) area name ≡ cond b (values_of moves area name ++ x ∷ []) (values_of moves area name)
      → Stood (moves ++ m ∷ [])
  stood_appended true moves m x quiet so_far is v there =
      elim (contains_more (values_of moves area name) x v (subst (λ vs. Contains vs v) is there)) [
        | inl old ↦ stood_still moves m v quiet (so_far v old)
        | inr new ↦ stood_now (moves ++ m ∷ []) v (newest (moves ++ m ∷ []) _ x is (last_of_more (values_of moves area name) x) ∙ new)
      ]
  stood_appended false moves m x quiet so_far is v there = stood_still moves m v quiet (so_far v (subst (λ vs. Contains vs v) is there))

  stood_alone : (moves : List Move) (x : Value) → values_of moves area name ≡ x ∷ [] → (v : Value) → Contains (values_of moves area name) v → StoodSince moves area name v
  stood_alone moves x is v there = stood_now moves v (newest moves (x ∷ []) x is refl ∙ contains_one x v (subst (λ vs. Contains vs v) is there))

  stood_placed : (b : Bool) (moves : List Move) (m : Move) (x : Value) → syncs area m ≡ false → Stood moves
      → values_of (moves ++ m ∷ []) area name ≡ cond b (x ∷ []) (values_of moves area name)
      → Stood (moves ++ m ∷ [])
  stood_placed true moves m x quiet so_far is v there = stood_alone (moves ++ m ∷ []) x is v there
  stood_placed false moves m x quiet so_far is v there = stood_still moves m v quiet (so_far v (subst (λ vs. Contains vs v) is there))

  stood_synced : (b : Bool) (moves : List Move) (a : Area) → same_area area a ≡ b → Stood moves
      → values_of (moves ++ Synced a ∷ []) area name ≡ cond b (last_alone (values_of moves area name)) (values_of moves area name)
      → (v : Value) → Contains (values_of (moves ++ Synced a ∷ []) area name) v → StoodSince (moves ++ Synced a ∷ []) area name v
  stood_synced true moves a e so_far is v there = stood_alone (moves ++ Synced a ∷ []) (bytes_at (area_after moves area) name) (is ∙ last_stands moves area name) v there
  stood_synced false moves a e so_far is v there = stood_still moves (Synced a) v e (so_far v (subst (λ vs. Contains vs v) is there))

  stood_step : (moves : List Move) (m : Move) → Stood moves
      → Stood (moves ++ m ∷ [])
  stood_step moves (Renamed a n bytes stamp) so_far v there =
      stood_appended (same_area area a && same_name n name) moves (Renamed a n bytes stamp) (Some bytes) refl so_far (values_of-append moves (Renamed a n bytes stamp) area name) v there
  stood_step moves (Removed a n) so_far v there =
      stood_appended (same_area area a && same_name n name) moves (Removed a n) None refl so_far (values_of-append moves (Removed a n) area name) v there
  stood_step moves (Synced a) so_far v there = stood_synced (same_area area a) moves a refl so_far (values_of-append moves (Synced a) area name) v there
  stood_step moves (Placed a n bytes stamp) so_far v there =
      stood_placed (same_area area a && same_name n name) moves (Placed a n bytes stamp) (Some bytes) refl so_far (values_of-append moves (Placed a n bytes stamp) area name) v there

  stood_from : (front rest : List Move) → Stood front
      → (v : Value) → Contains (values_of (front ++ rest) area name) v → StoodSince (front ++ rest) area name v
  stood_from front [] so_far v there = subst (λ ms. StoodSince ms area name v) (sym (append-nil front)) (so_far v (subst (λ ms. Contains (values_of ms area name) v) (append-nil front) there))
  stood_from front (m ∷ rest) so_far v there =
      let again : (front ++ m ∷ []) ++ rest ≡ front ++ m ∷ rest = append_assoc front (m ∷ []) rest in
      subst (λ ms. StoodSince ms area name v) again
      (stood_from (front ++ m ∷ []) rest (stood_step front m so_far) v (subst (λ ms. Contains (values_of ms area name) v) (sym again) there))

pub all_stood : (moves : List Move) (area : Area) (name : List ℕ) (v : Value) → Contains (values_of moves area name) v → StoodSince moves area name v
all_stood moves area name v there =
    stood_from area name [] moves (λ w h. stood_now area name [] w (ap (option_map (λ f. f.bytes)) (get-empty {X = File} text_cmp name) ∙ contains_one None w h)) v there
