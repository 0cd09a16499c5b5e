-- The turns of a run, one turn further; lanes with a call left, and their answers, one lane further.
use Rattle.std.proofs.Common.{◌≡◌, ℕ, zero, suc, ◌+◌, ◌<◌, ◌||◌, add-one, arith, Bool, true, false, List, [], ◌∷◌, ◌++◌, length, map, take, drop, get_or, slice_get, Option, Some, None, is_some, option_and_then, refl, sym, ap, ◌∙◌}
use Rattle.std.specs.List.{enumerate_from, list_any, range_with_len}
use Rattle.std.proofs.lemmas.List.{drop_more, take_more, length-take-le, map-append}
use Rattle.std.proofs.lemmas.List.Folds.{list_any-append}
use Rattle.ix_machine.specs.declared.event.Outcome.{Outcome}
use Rattle.ix_lanes.specs.Calls.{next_call}
use Rattle.ix_lanes.specs.Progress.{Progress}
use Rattle.ix_lanes.specs.declared.answered.Answered.{Answered}
use Rattle.ix_lanes.specs.Tasks.{Task, tasks_of}
use Rattle.ix_machine.specs.Needs.{seen_at}
use Rattle.ix_plan.specs.declared.plan.Step.{Step}
use Rattle.ix_replays.specs.Run.{Run, extended, has_call, next_of, progress_of, run_from}
use Rattle.ix_model_run.specs.Standing.{GoesOn, IsAt, Standing, tasks_of_each}

module _ (name_of : List ℕ → List ℕ) (lanes : List (List Task)) where
  -- where order and flags differ in length there is no run
  goes_nowhere : (f : Run → Option Run) (o : Option Run) → ((longer : Run) → f longer ≡ None) → option_and_then f o ≡ None
  goes_nowhere f None each = refl
  goes_nowhere f (Some longer) each = each longer

  no_run : (run : Run) (order : List ℕ) (flags : List Outcome) → (length order ≡ length flags → ⊥) → run_from name_of lanes run order flags ≡ None
  no_run run [] [] differ = absurd (differ refl)
  no_run run [] (flag ∷ flags) differ = refl
  no_run run (lane ∷ order) [] differ = refl
  no_run run (lane ∷ order) (flag ∷ flags) differ =
      goes_nowhere (λ longer. run_from name_of lanes longer order flags) (extended name_of lanes run lane flag) (λ longer. no_run longer order flags (λ same. differ (ap (λ (n : ℕ). suc n) same)))

  pub differing : (run : Run) (order : List ℕ) (flags : List Outcome) → (length order ≡ length flags → ⊥) → run_from name_of lanes run order flags ≡ None
  differing = no_run

  -- what is left of the run from where it stands
  pub record IsLeft (end : Option Run) (now : Standing) (order : List ℕ) (flags : List Outcome) : Type 0 where
    pub run : Run
    pub at : IsAt run now
    pub left : end ≡ run_from name_of lanes run order flags

  first_left : (end : Option Run) (before : Standing) (order : List ℕ) (flags : List Outcome) (i : ℕ) (d lane : ℕ) (e flag : Outcome) → i < length order → i < length flags
      → lane ≡ get_or order i d → flag ≡ get_or flags i e → (l : IsLeft end before (drop i order) (drop i flags))
      → end ≡ option_and_then (λ (longer : Run). run_from name_of lanes longer (drop (i + 1) order) (drop (i + 1) flags)) (extended name_of lanes l.run lane flag)
  first_left end before order flags i d lane e flag within in_flags is_lane is_flag l =
      l.left ∙ (λ j. run_from name_of lanes l.run (drop_more order i d within j) (drop_more flags i e in_flags j))
      ∙ (λ j. option_and_then (λ (longer : Run). run_from name_of lanes longer (drop (i + 1) order) (drop (i + 1) flags)) (extended name_of lanes l.run (sym is_lane j) (sym is_flag j)))

  goes_to : (end : Option Run) (now : Standing) (order : List ℕ) (flags : List Outcome) (o : Option Run) → GoesOn now true o
      → end ≡ option_and_then (λ (longer : Run). run_from name_of lanes longer order flags) o → IsLeft end now order flags
  goes_to end now order flags None goes left = absurd goes
  goes_to end now order flags (Some longer) goes left = record { run = longer; at = goes; left = left }

  pub turn_on : (end : Option Run) (before now : Standing) (order : List ℕ) (flags : List Outcome) (i : ℕ) (d lane : ℕ) (e flag : Outcome) → i < length order → i < length flags
      → lane ≡ get_or order i d → flag ≡ get_or flags i e → ((run : Run) → IsAt run before → GoesOn now true (extended name_of lanes run lane flag))
      → IsLeft end before (drop i order) (drop i flags) → IsLeft end now (drop (i + 1) order) (drop (i + 1) flags)
  turn_on end before now order flags i d lane e flag within in_flags is_lane is_flag goes l =
      goes_to end now (drop (i + 1) order) (drop (i + 1) flags) (extended name_of lanes l.run lane flag) (goes l.run l.at) (first_left end before order flags i d lane e flag within in_flags is_lane is_flag l)

  pub turn_ends : (end : Option Run) (before now : Standing) (order : List ℕ) (flags : List Outcome) (i : ℕ) (d lane : ℕ) (e flag : Outcome) → i < length order → i < length flags
      → lane ≡ get_or order i d → flag ≡ get_or flags i e → ((run : Run) → IsAt run before → GoesOn now false (extended name_of lanes run lane flag))
      → IsLeft end before (drop i order) (drop i flags) → end ≡ None
  turn_ends end before now order flags i d lane e flag within in_flags is_lane is_flag goes l =
      first_left end before order flags i d lane e flag within in_flags is_lane is_flag l
      ∙ ap (λ (o : Option Run). option_and_then (λ (longer : Run). run_from name_of lanes longer (drop (i + 1) order) (drop (i + 1) flags)) o) (goes l.run l.at)

-- ---- lists

map_at : {X Y : Type 0} (f : X → Y) (xs : List X) (i : ℕ) (d x : X) → i < length xs → x ≡ get_or xs i d → slice_get (map f xs) i ≡ Some (f x)
map_at f [] i d x within is = absurd (omega (arith, within))
map_at {X} f (y ∷ xs) zero d x within is = ap (λ (z : X). Some (f z)) (sym is)
map_at f (y ∷ xs) (suc i) d x within is = map_at f xs i d x (omega (arith, within)) is

range_next : (a n : ℕ) → range_with_len a (suc n) ≡ range_with_len a n ++ (a + n) ∷ []
range_next a zero = ap (λ (x : ℕ). x ∷ []) (omega arith)
range_next a (suc n) = ap (λ (xs : List ℕ). a ∷ xs) (range_next (a + 1) n ∙ ap (λ (x : ℕ). range_with_len (a + 1) n ++ x ∷ []) (omega arith))

pub any_next : (p : ℕ → Bool) (n : ℕ) (before after b : Bool) → before ≡ list_any p (range_with_len 0 n) → b ≡ p n → after ≡ (before || b) → after ≡ list_any p (range_with_len 0 (n + 1))
any_next p n before after b e f g =
    let none_before : 0 + n ≡ n = omega arith in
    g ∙ (λ i. e i || f i)
    ∙ sym (ap (λ (k : ℕ). list_any p (range_with_len 0 k)) (add-one n) ∙ ap (list_any p) (range_next 0 n) ∙ ap (λ (k : ℕ). list_any p (range_with_len 0 n ++ k ∷ [])) none_before ∙ list_any-append p (range_with_len 0 n) (n ∷ []) ∙ ap (λ (b : Bool). list_any p (range_with_len 0 n) || b) (last (p n)))
  where
    last : (b : Bool) → (b || false) ≡ b
    last true = refl
    last false = refl

enumerate_next : {X : Type 0} (n : ℕ) (xs : List X) (y : X) → enumerate_from n (xs ++ y ∷ []) ≡ enumerate_from n xs ++ (n + length xs, y) ∷ []
enumerate_next n [] y = ap (λ (k : ℕ). (k, y) ∷ []) (omega arith)
enumerate_next {X} n (x ∷ xs) y = ap (λ (es : List (ℕ × X)). (n, x) ∷ es) (enumerate_next (n + 1) xs y ∙ ap (λ (k : ℕ). enumerate_from (n + 1) xs ++ (k, y) ∷ []) (omega arith))

pub as_long : (f : List Step → List Task) (xs : List (List Step)) → length (map f xs) ≡ length xs
as_long f [] = refl
as_long f (x ∷ xs) = ap (λ (n : ℕ). suc n) (as_long f xs)

module _ (name_of : List ℕ → List ℕ) (lanes : List (List Step)) (run : Run) where
  pub next_at : (i : ℕ) (d steps : List Step) (p : Progress) → i < length lanes → steps ≡ get_or lanes i d → p ≡ progress_of run i (tasks_of name_of steps)
      → next_call (seen_at run.state) run.state.current p ≡ next_of name_of (tasks_of_each name_of lanes) run i
  next_at i d steps p within is own =
      ap (next_call (seen_at run.state) run.state.current) own
      ∙ sym (ap (λ (o : Option (List Task)). option_and_then (λ (tasks : List Task). next_call (seen_at run.state) run.state.current (progress_of run i tasks)) o) (map_at (tasks_of name_of) lanes i d steps within is))

  pub has_on : (i : ℕ) (d steps : List Step) (before b after : Bool) → i < length lanes → steps ≡ get_or lanes i d
      → before ≡ list_any (has_call name_of (tasks_of_each name_of lanes) run) (range_with_len 0 i)
      → b ≡ is_some (next_call (seen_at run.state) run.state.current (progress_of run i (tasks_of name_of steps))) → after ≡ (before || b)
      → after ≡ list_any (has_call name_of (tasks_of_each name_of lanes) run) (range_with_len 0 (i + 1))
  has_on i d steps before b after within is was own now =
      any_next (has_call name_of (tasks_of_each name_of lanes) run) i before after b was
      (own ∙ sym (ap (λ (o : Option (List Task)). is_some (option_and_then (λ (tasks : List Task). next_call (seen_at run.state) run.state.current (progress_of run i tasks)) o)) (map_at (tasks_of name_of) lanes i d steps within is)))
      now

  abbrev pub answers_in : ℕ × List Task → List Answered
  answers_in lane = (progress_of run lane.0 lane.1).answers

  pub answers_on : (i : ℕ) (d steps : List Step) (before after : List (List Answered)) (own : List Answered) → i < length lanes → steps ≡ get_or lanes i d
      → before ≡ map answers_in (enumerate_from 0 (tasks_of_each name_of (take i lanes))) → own ≡ (progress_of run i (tasks_of name_of steps)).answers → after ≡ before ++ own ∷ []
      → after ≡ map answers_in (enumerate_from 0 (tasks_of_each name_of (take (i + 1) lanes)))
  answers_on i d steps before after own within is was own_is now =
      let long : length (map (tasks_of name_of) (take i lanes)) ≡ i = as_long (tasks_of name_of) (take i lanes) ∙ length-take-le i lanes (omega (arith, within)) in
      let count : 0 + length (map (tasks_of name_of) (take i lanes)) ≡ i = omega (arith, long) in
      now ∙ (λ j. was j ++ own_is j ∷ [])
      ∙ sym (ap (λ (ls : List (List Step)). map answers_in (enumerate_from 0 (tasks_of_each name_of ls))) (take_more lanes i d within ∙ ap (λ (x : List Step). take i lanes ++ x ∷ []) (sym is))
      ∙ ap (λ (ts : List (List Task)). map answers_in (enumerate_from 0 ts)) (map-append (tasks_of name_of) (take i lanes) (steps ∷ []))
      ∙ ap (map answers_in) (enumerate_next 0 (map (tasks_of name_of) (take i lanes)) (tasks_of name_of steps) ∙ ap (λ (n : ℕ). enumerate_from 0 (map (tasks_of name_of) (take i lanes)) ++ (n, tasks_of name_of steps) ∷ []) count)
      ∙ map-append answers_in (enumerate_from 0 (map (tasks_of name_of) (take i lanes))) ((i, tasks_of name_of steps) ∷ []))
