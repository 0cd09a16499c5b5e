-- A value that stood since the last sync is among the values.
use Rattle.std.proofs.Common.{◌≡◌, ℕ, zero, suc, ◌-◌, Bool, true, false, cond, ◌&&◌, ◌||◌, List, [], ◌∷◌, ◌++◌, length, take, drop, refl, sym, ap, ◌∙◌, subst, Some, None, Contains}
use Rattle.std.specs.List.{list_any, fold}
use Rattle.std.proofs.lemmas.List.Elements.{Contains-append_left}
use Rattle.std.proofs.lemmas.List.Sums.{fold-append}
use Rattle.ix_dir.specs.declared.area.Area.{Area}
use Rattle.ix_dir.specs.Files.{bytes_at}
use Rattle.ix_dir.specs.Images.{Value, values_of, values_step, last_alone}
use Rattle.ix_dir.specs.StoodSinceSync.{StoodSince, syncs, is_placed}
use Rattle.ix_dir.specs.Moves.{Move, Renamed, Removed, Synced, Placed, area_after, same_area, same_name}
use Rattle.ix_dir.proofs.ValuesStood.{last_stands, at_drop}

halves : {A : Type 0} (xs : List A) (n : ℕ) → take n xs ++ drop n xs ≡ xs
halves [] zero = refl
halves [] (suc n) = refl
halves (x ∷ xs) zero = refl
halves (x ∷ xs) (suc n) = ap (λ rest. x ∷ rest) (halves xs n)

longer : (b : Bool) (values : List Value) (x v : Value) → Contains values v → Contains (cond b (values ++ x ∷ []) values) v
longer true values x v there = Contains-append_left values (x ∷ []) v there
longer false values x v there = there

kept : (b : Bool) (values more : List Value) (v : Value) → b ≡ false → Contains values v → Contains (cond b more values) v
kept true values more v e there = cc
kept false values more v e there = there

module _ (area : Area) (name : List ℕ) (v : Value) where
  step_kept : (values : List Value) (m : Move) → syncs area m ≡ false → is_placed area name m ≡ false → Contains values v → Contains (values_step area name values m) v
  step_kept values (Renamed a n bytes stamp) quiet unplaced there = longer (same_area area a && same_name n name) values (Some bytes) v there
  step_kept values (Removed a n) quiet unplaced there = longer (same_area area a && same_name n name) values None v there
  step_kept values (Synced a) quiet unplaced there = kept (same_area area a) values (last_alone values) v quiet there
  step_kept values (Placed a n bytes stamp) quiet unplaced there = kept (same_area area a && same_name n name) values (Some bytes ∷ []) v unplaced there

  none_here : (b c : Bool) → (b || c) ≡ false → (b ≡ false) × (c ≡ false)
  none_here true c e = cc
  none_here false c e = (refl, e)

  all_kept : (values : List Value) (moves : List Move) → list_any (syncs area) moves ≡ false → list_any (is_placed area name) moves ≡ false → Contains values v → Contains (fold (values_step area name) values moves) v
  all_kept values [] quiet unplaced there = there
  all_kept values (m ∷ moves) quiet unplaced there =
      let q = none_here (syncs area m) (list_any (syncs area) moves) quiet in
      let u = none_here (is_placed area name m) (list_any (is_placed area name) moves) unplaced in
      all_kept (values_step area name values m) moves q.1 u.1 (step_kept values m q.0 u.0 there)

pub standing_is_there : (moves : List Move) (area : Area) (name : List ℕ) → Contains (values_of moves area name) (bytes_at (area_after moves area) name)
standing_is_there moves area name =
    let values = values_of moves area name in
    let at = at_drop values (length values - 1) (bytes_at (area_after moves area) name) (last_stands moves area name) in
    (length values - 1, at.0, at.1)

pub stood_is_there : (moves : List Move) (area : Area) (name : List ℕ) (value : Value) (since : StoodSince moves area name value) → list_any (is_placed area name) (drop since.moment moves) ≡ false → Contains (values_of moves area name) value
stood_is_there moves area name value since unplaced =
    let front = take since.moment moves in
    let rest = drop since.moment moves in
    let stood : Contains (values_of front area name) value = subst (Contains (values_of front area name)) since.stood (standing_is_there front area name) in
    let split : values_of moves area name ≡ fold (values_step area name) (values_of front area name) rest =
    ap (λ ms. values_of ms area name) (sym (halves moves since.moment)) ∙ fold-append (values_step area name) (None ∷ []) front rest in
    subst (λ vs. Contains vs value) (sym split) (all_kept area name value (values_of front area name) rest since.not_synced unplaced stood)
