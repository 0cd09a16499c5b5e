-- What a crash leaves, name by name.
use Rattle.std.proofs.Common.{◌≡◌, ◌≢◌, inl, inr, ℕ, zero, suc, ◌+◌, ◌-◌, ◌<◌, ◌≤◌, Bool, true, false, cond, ◌&&◌, List, [], ◌∷◌, ◌++◌, length, get_or, refl, sym, ap, ◌∙◌, subst, Option, Some, None, is_some, arith, length-append, length-drop}
use Rattle.std.specs.List.{slice_get, fold}
use Rattle.std.specs.Option.{option_map}
use Rattle.std.specs.Cmp.Lexicographic.{same_text, bytes_decides}
use Rattle.std.specs.FinMap.{get, entries, entries_sorted}
use Rattle.std.proofs.Common.{take}
use Rattle.std.proofs.lemmas.List.{take_more, length-take-le}
use Rattle.std.proofs.lemmas.Option.{slice_get-get_or}
use Rattle.ix_dir.specs.declared.area.Area.{Area}
use Rattle.ix_dir.specs.declared.area.Area.TheVariants.{Units, Records}
use Rattle.ix_dir.specs.declared.pick.Pick.{Pick}
use Rattle.ix_dir.specs.Crash.{puts, was_there, names_since, value_for, LeavesOf, IsSettled}
use Rattle.ix_dir.specs.Files.{File, Files, file, bytes_at}
use Rattle.ix_dir.specs.Images.{Value, values_of, values_step, last_alone}
use Rattle.ix_dir.specs.InMemory.{InMemory}
use Rattle.ix_dir.specs.Moves.{Move, Renamed, Removed, Synced, Placed, area_after, same_area, same_name}
use Rattle.ix_dir.specs.ValuesByNumber.{left_with}
use Rattle.ix_dir.proofs.OneElementMore.{snoc_cases, snoc_old, snoc_last}
use Rattle.ix_dir.proofs.Door.{holds, distinct_filtered}
use Rattle.ix_dir.proofs.FileAfterAMove.{get-area_after, area_after-append}
use Rattle.ix_dir.proofs.ValuesAfterAMove.{values_of-append}

pub same_area_itself : (a : Area) → same_area a a ≡ true
same_area_itself Units = refl
same_area_itself Records = refl

pub same_name_itself : (name : List ℕ) → same_name name name ≡ true
same_name_itself name = (bytes_decides name name).1 refl

apart : (name q : List ℕ) → name ≢ q → same_name name q ≡ false
apart name q ne = elim (same_name name q) as (λ b. b ≡ same_name name q → b ≡ false) [
  | true ↦ λ e. absurd (ne (same_text name q e))
  | false ↦ λ e. refl
] refl

chosen_file : (b : Bool) (bytes : List ℕ) (stamp : ℕ) (o : Option File) → option_map (λ f. f.bytes) (cond b (Some (file bytes stamp)) o) ≡ cond b (Some bytes) (option_map (λ f. f.bytes) o)
chosen_file true bytes stamp o = refl
chosen_file false bytes stamp o = refl

bytes_step : (moves : List Move) (area : Area) (name bytes : List ℕ) (stamp : ℕ) (a : Area) (q : List ℕ)
    → bytes_at (area_after (moves ++ Placed area name bytes stamp ∷ []) a) q ≡ cond (same_area a area && same_name name q) (Some bytes) (bytes_at (area_after moves a) q)
bytes_step moves area name bytes stamp a q =
    ap (option_map (λ f. f.bytes)) (get-area_after moves (Placed area name bytes stamp) a q) ∙ chosen_file (same_area a area && same_name name q) bytes stamp (get (area_after moves a) q)

left_bytes : (d : InMemory) (area : Area) (name : List ℕ) (v : Value) (q : List ℕ)
    → bytes_at (area_after (left_with d area name v).moves area) q ≡ cond (is_some v && same_name name q) v (bytes_at (area_after d.moves area) q)
left_bytes d area name None q = refl
left_bytes d area name (Some bytes) q =
    bytes_step d.moves area name bytes (length d.moves) area q ∙ ap (λ b. cond (b && same_name name q) (Some bytes) (bytes_at (area_after d.moves area) q)) (same_area_itself area)

some_is : {A : Type 0} (x y : A) → Some x ≡ Some y → x ≡ y
some_is x y e = ap (λ o. elim o [ Some z ↦ z | None ↦ x ]) e

module _ (pick : Pick) (moves : List Move) (area : Area) where
  pub leaves_none : (files : Files) → ((name : List ℕ) → bytes_at files name ≡ None) → LeavesOf pick moves area [] files
  leaves_none files none = record { picked = λ i name h. cc; no_other = λ name h. none name }

  module _ (d : InMemory) (names : List (List ℕ)) (name : List ℕ) (so_far : LeavesOf pick moves area names (area_after d.moves area)) (fresh : (i : ℕ) → slice_get names i ≢ Some name) where
    others_stay : (v : Value) (q : List ℕ) → name ≢ q → bytes_at (area_after (left_with d area name v).moves area) q ≡ bytes_at (area_after d.moves area) q
    others_stay v q ne = left_bytes d area name v q ∙ none (is_some v) (apart name q ne) where
      none : (b : Bool) → same_name name q ≡ false → cond (b && same_name name q) v (bytes_at (area_after d.moves area) q) ≡ bytes_at (area_after d.moves area) q
      none true e = rw e refl
      none false e = refl

    here : (v : Value) → bytes_at (area_after (left_with d area name v).moves area) name ≡ v
    here None = so_far.no_other name fresh
    here (Some bytes) = left_bytes d area name (Some bytes) name ∙ ap (λ b. cond b (Some bytes) (bytes_at (area_after d.moves area) name)) (same_name_itself name)

    pub leaves_more : (v : Value) → v ≡ value_for pick (length names) (values_of moves area name) → LeavesOf pick moves area (names ++ name ∷ []) (area_after (left_with d area name v).moves area)
    leaves_more v is = record {
      picked = λ i q h. elim (snoc_cases names name i q h) [
        | inl old ↦ others_stay v q (λ e. fresh i (old ∙ ap Some (sym e))) ∙ so_far.picked i q old
        | inr new ↦
            subst (λ x. bytes_at (area_after (left_with d area name v).moves area) x ≡ value_for pick i (values_of moves area x)) new.1
            (here v ∙ is ∙ ap (λ k. value_for pick k (values_of moves area name)) (sym new.0))
      ];
      no_other = λ q none.
          others_stay v q (λ e. none (length names) (snoc_last names name ∙ ap Some e))
          ∙ so_far.no_other q (λ i h. none i (snoc_old names name i q h));
    }

placed_value : (b : Bool) (bytes : List ℕ) (old : List Value) (o : Value) → old ≡ o ∷ [] → cond b (Some bytes ∷ []) old ≡ cond b (Some bytes) o ∷ []
placed_value true bytes old o e = refl
placed_value false bytes old o e = e

settled_more : (moves : List Move) (area : Area) (name bytes : List ℕ) (stamp : ℕ) → IsSettled moves → IsSettled (moves ++ Placed area name bytes stamp ∷ [])
settled_more moves area name bytes stamp settled a q =
    values_of-append moves (Placed area name bytes stamp) a q
    ∙ placed_value (same_area a area && same_name name q) bytes (values_of moves a q) (bytes_at (area_after moves a) q) (settled a q)
    ∙ ap (λ v. v ∷ []) (sym (bytes_step moves area name bytes stamp a q))

pub left_settled : (d : InMemory) (area : Area) (name : List ℕ) (v : Value) → IsSettled d.moves → IsSettled (left_with d area name v).moves
left_settled d area name None settled = settled
left_settled d area name (Some bytes) settled = settled_more d.moves area name bytes (length d.moves) settled

pub left_others : (d : InMemory) (area : Area) (name : List ℕ) (v : Value) (a : Area) → same_area a area ≡ false → area_after (left_with d area name v).moves a ≡ area_after d.moves a
left_others d area name None a e = refl
left_others d area name (Some bytes) a e = area_after-append d.moves (Placed area name bytes (length d.moves)) a ∙ rw e refl

same_but_moves : (first d : InMemory) (area : Area) (name : List ℕ) (v : Value) → d ≡ record first { moves = d.moves } → left_with d area name v ≡ record first { moves = (left_with d area name v).moves }
same_but_moves first d area name None is = is
same_but_moves first d area name (Some bytes) is =
    let with_moves : InMemory → InMemory = λ x. record x { moves = d.moves ++ Placed area name bytes (length d.moves) ∷ [] } in
    ap with_moves is

pub left_state : (first d now : InMemory) (area : Area) (name : List ℕ) (v : Value) → now ≡ left_with d area name v → d ≡ record first { moves = d.moves } → now ≡ record first { moves = now.moves }
left_state first d now area name v after is =
    let Same : InMemory → Type 0 = λ x. x ≡ record first { moves = x.moves } in
    subst Same (sym after) (same_but_moves first d area name v is)

-- the values of a name are never none at all
one_left : (values : List Value) → 0 < length values → 0 < length (last_alone values)
one_left values some = omega (arith, length-drop (length values - 1) values)

longer : (b : Bool) (values : List Value) (v : Value) → 0 < length values → 0 < length (cond b (values ++ v ∷ []) values)
longer true values v some = omega (arith, length-append values (v ∷ []))
longer false values v some = some

either : (b : Bool) (values more : List Value) → 0 < length values → 0 < length more → 0 < length (cond b more values)
either true values more some some_more = some_more
either false values more some some_more = some

step_some : (area : Area) (name : List ℕ) (values : List Value) (m : Move) → 0 < length values → 0 < length (values_step area name values m)
step_some area name values (Renamed a n bytes stamp) some = longer (same_area area a && same_name n name) values (Some bytes) some
step_some area name values (Removed a n) some = longer (same_area area a && same_name n name) values None some
step_some area name values (Synced a) some = either (same_area area a) values (last_alone values) some (one_left values some)
step_some area name values (Placed a n bytes stamp) some = either (same_area area a && same_name n name) values (Some bytes ∷ []) some (omega arith)

fold_some : (area : Area) (name : List ℕ) (values : List Value) (moves : List Move) → 0 < length values → 0 < length (fold (values_step area name) values moves)
fold_some area name values [] some = some
fold_some area name values (m ∷ moves) some = fold_some area name (values_step area name values m) moves (step_some area name values m some)

pub values_some : (moves : List Move) (area : Area) (name : List ℕ) → 0 < length (values_of moves area name)
values_some moves area name = fold_some area name (None ∷ []) moves (omega arith)

-- no name stands twice
abbrev pub IsDistinctNames : List (List ℕ) → Type 0
IsDistinctNames names = (x : List ℕ) (j k : ℕ) → slice_get names j ≡ Some x → slice_get names k ≡ Some x → j ≡ k

pub names_distinct : (moves : List Move) (area : Area) → IsDistinctNames (names_since moves area)
names_distinct moves area = distinct_filtered (was_there moves area) (entries (puts moves area)) (holds _ (entries_sorted (puts moves area)))

in_front : {A : Type 0} (xs : List A) (i j : ℕ) (x : A) → slice_get (take i xs) j ≡ Some x → (j < i) × (slice_get xs j ≡ Some x)
in_front xs zero j x h = cc
in_front [] (suc i) j x h = cc
in_front (y ∷ xs) (suc i) zero x h = (omega arith, h)
in_front (y ∷ xs) (suc i) (suc j) x h =
    let rest = in_front xs i j x h in
    (omega (arith, rest.0), rest.1)

-- one name more
pub leaves_step : (pick : Pick) (moves : List Move) (area : Area) (d now : InMemory) (names : List (List ℕ)) (i : ℕ) (name : List ℕ) → IsDistinctNames names → i < length names → name ≡ get_or names i name
    → LeavesOf pick moves area (take i names) (area_after d.moves area) → now ≡ left_with d area name (value_for pick i (values_of moves area name))
    → LeavesOf pick moves area (take (i + 1) names) (area_after now.moves area)
leaves_step pick moves area d now names i name distinct small is so_far after =
    let at : slice_get names i ≡ Some name = slice_get-get_or names i name small ∙ ap Some (sym is) in
    let fresh : (j : ℕ) → slice_get (take i names) j ≢ Some name = λ j h.
    let front = in_front names i j name h in
    let same = distinct name j i front.1 at in
    absurd (omega (arith, front.0, same)) in
    let fits : i ≤ length names = omega arith in
    let long : length (take i names) ≡ i = length-take-le i names fits in
    let more = leaves_more pick moves area d (take i names) name so_far fresh (value_for pick i (values_of moves area name)) (ap (λ k. value_for pick k (values_of moves area name)) (sym long)) in
    let taken : take (i + 1) names ≡ take i names ++ name ∷ [] = take_more names i name small ∙ ap (λ x. take i names ++ x ∷ []) (sym is) in
    rw (after, taken) more
