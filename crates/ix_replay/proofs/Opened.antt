-- From a store that was opened to a runner of a script's lanes, and what its run says of the whole.
use Rattle.std.proofs.Common.{◌≡◌, ◌∙◌, ℕ, List, Option, Some, None, IfSome, map, slice_get, option_map, ap, sym, subst}
use Rattle.std.specs.List.{AllByRecursion}
use Rattle.std.proofs.lemmas.Option.{slice_get-map}
use Rattle.ix_dir.specs.State.{DirState}
use Rattle.ix_dir.specs.declared.moves.Move.{Move}
use Rattle.ix_dir.specs.WhatAChangeLeaves.{AddsTo}
use Rattle.ix_shelf.specs.Shelf.{OnShelf}
use Rattle.ix_ledger.specs.Books.{Books}
use Rattle.ix_ledger.specs.Kept.{Kept}
use Rattle.ix_library.specs.declared.known.KnownStamps.{KnownStamps}
use Rattle.ix_library.specs.StandsFor.{HasSlots}
use Rattle.ix_import.specs.Importing.{Importing}
use Rattle.ix_plan.specs.declared.plan.Step.{Step}
use Rattle.ix_plan.specs.declared.plan.Script.{Script}
use Rattle.ix_lanes.specs.Progress.{Progress, begun}
use Rattle.ix_lanes.specs.Rules.{IsReady}
use Rattle.ix_lanes.specs.Tasks.{Task, tasks_of}
use Rattle.ix_lanes.specs.Views.{Under}
use Rattle.ix_replays.specs.Run.{Run, lanes_of}
use Rattle.ix_seats.specs.Seated.{Seated}
use Rattle.ix_calls.specs.Sound.{AreSound}
use Rattle.ix_replay.specs.Runs.{CanStep, IsRun}
use Rattle.ix_replay.proofs.Lists.{all_each, all_there}

-- a directory that tells its moves told them before
told_before : (before after : Option (List Move)) (Q : Type 0) → AddsTo before after → IfSome before (λ (moves : List Move). Q) → IfSome after (λ (moves : List Move). Q)
told_before None None Q adds so = tt
told_before None (Some now) Q adds so = absurd adds
told_before (Some moves) None Q adds so = absurd adds
told_before (Some moves) (Some now) Q adds so = so

-- what follows of facts on the moves, where they are told
pub if_told : (told : Option (List Move)) (P R : List Move → Type 0) → ((moves : List Move) → P moves → R moves) → IfSome told P → IfSome told R
if_told None P R leads so = tt
if_told (Some moves) P R leads so = leads moves so

pub both_told : (told : Option (List Move)) (P Q R : List Move → Type 0) → ((moves : List Move) → P moves → Q moves → R moves) → IfSome told P → IfSome told Q → IfSome told R
both_told None P Q R leads first second = tt
both_told (Some moves) P Q R leads first second = leads moves first second

pub three_told : (told : Option (List Move)) (P Q R T : List Move → Type 0) → ((moves : List Move) → P moves → Q moves → R moves → T moves) → IfSome told P → IfSome told Q → IfSome told R → IfSome told T
three_told None P Q R T leads first second third = tt
three_told (Some moves) P Q R T leads first second third = leads moves first second third

-- a runner over what was opened can step
pub can_step : (name_of : List ℕ → List ℕ) (before : Option (List Move)) (books : Books) (shelf : OnShelf) (known : KnownStamps) (dir start : DirState) (importer : Importing) (seats : List Seated) (kept : Kept)
    → books.kept ≡ kept → dir ≡ start → HasSlots kept start → AddsTo before start.moves → AllByRecursion (λ (seat : Seated). AreSound name_of seat.lane.progress.tasks) seats
    → IfSome before (λ (moves : List Move). (lanes : List (List Task)) × (run : Run) × IsRun name_of lanes run books shelf known dir importer seats)
    → CanStep name_of books shelf known dir importer seats
can_step name_of before books shelf known dir start importer seats kept same there ready adds sound runs = record {
  ready = subst (λ (d : DirState). HasSlots books.kept d) (sym there) (subst (λ (k : Kept). HasSlots k start) (sym same) ready);
  sound = sound;
  runs = told_before before dir.moves ((lanes : List (List Task)) × (run : Run) × IsRun name_of lanes run books shelf known dir importer seats) (subst (λ (d : DirState). AddsTo before d.moves) (sym there) adds) runs;
}

-- the tasks of lanes that are begun are sound, where those of each lane's steps are
module _ (name_of : List ℕ → List ℕ) (sound : (steps : List Step) → AllByRecursion IsReady steps → AreSound name_of (tasks_of name_of steps)) where
  steps_sound : (o : Option (List Step)) → IfSome o (AllByRecursion IsReady) → IfSome (option_map begun (option_map (tasks_of name_of) o)) (λ (p : Progress). AreSound name_of p.tasks)
  steps_sound None ready = tt
  steps_sound (Some steps) ready = sound steps ready

  pub all_sound : (script : Script) (lanes : List Under) (seats : List Seated) → AllByRecursion (AllByRecursion IsReady) script.lanes
      → map (λ (lane : Under). lane.progress) lanes ≡ map begun (lanes_of name_of script) → map (λ (seat : Seated). seat.lane) seats ≡ lanes
      → AllByRecursion (λ (seat : Seated). AreSound name_of seat.lane.progress.tasks) seats
  all_sound script lanes seats ready are own =
      all_each (λ (seat : Seated). AreSound name_of seat.lane.progress.tasks) seats (λ k seat there.
      let lane_at : slice_get lanes k ≡ Some seat.lane = sym (ap (λ (ls : List Under). slice_get ls k) own) ∙ (slice_get-map (λ (s : Seated). s.lane) seats k ∙ ap (option_map (λ (s : Seated). s.lane)) there) in
      let shown : option_map begun (option_map (tasks_of name_of) (slice_get script.lanes k)) ≡ Some seat.lane.progress =
      sym (slice_get-map begun (lanes_of name_of script) k ∙ ap (option_map begun) (slice_get-map (tasks_of name_of) script.lanes k))
      ∙ (ap (λ (ps : List Progress). slice_get ps k) (sym are) ∙ (slice_get-map (λ (l : Under). l.progress) lanes k ∙ ap (option_map (λ (l : Under). l.progress)) lane_at)) in
      subst (λ (o : Option Progress). IfSome o (λ (p : Progress). AreSound name_of p.tasks)) shown (steps_sound (slice_get script.lanes k) (all_there (AllByRecursion IsReady) script.lanes k ready)))
