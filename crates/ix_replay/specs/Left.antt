-- What a replay leaves in a directory that tells its moves.
use Rattle.std.specs.Prelude.{◌≡◌, ◌-◌, ◌+◌, ◌≤◌, ℕ, false, List, ◌++◌, length, map, take, Option, Some}
use Rattle.std.specs.List.{AllByRecursion}
use Rattle.ix_dir.specs.declared.area.Area.TheVariants.{Records}
use Rattle.ix_dir.specs.declared.moves.Move.{Move}
use Rattle.ix_dir.specs.Crash.{standing}
use Rattle.ix_dir.specs.Images.{Image, IsImage}
use Rattle.ix_dir.specs.WhatAChangeLeaves.{Adds, AddsTo, IfTold}
use Rattle.ix_machine.specs.declared.event.Event.{Event}
use Rattle.ix_machine.specs.State.{State}
use Rattle.ix_model.specs.declared.publication.Publication.{Publication}
use Rattle.ix_model.specs.declared.publication.Publication.TheVariants.{Put}
use Rattle.ix_model.specs.declared.publication.StoredUnit.{StoredUnit}
use Rattle.ix_opening.specs.AfterOpening.{IsFront, opening_moves}
use Rattle.ix_opening.specs.Found.{opening_of}
use Rattle.ix_plan.specs.declared.plan.Script.{Script}
use Rattle.ix_stops.specs.Changes.{waiting}
use Rattle.ix_stops.specs.Prefixes.{CountsFrom, IsPrefix, IsPrefixAt, LeavesPrefixes}
use Rattle.ix_stops.specs.Stands.{StandsOnDisk}
use Rattle.ix_library.specs.Growing.{Grows}
use Rattle.ix_replays.specs.Run.{Run, fresh, lanes_of}
use Rattle.ix_turns.specs.Ended.{is_missed}
use Rattle.ix_turn_order.specs.Order.{ComesTo}

-- no event says that a file is lost or damaged
abbrev pub NoneMissed : List Event → Type 0
NoneMissed events = AllByRecursion (λ (event : Event). is_missed event.outcome ≡ false) events

-- the directory tells its moves, and both areas hold what the state says
abbrev pub HoldsState : (List ℕ → List ℕ) → State → Option (List Move) → Type 0
HoldsState name_of s moves = (now : List Move) × (moves ≡ Some now) × StandsOnDisk name_of s now

-- Steps that lead from the one run to the other. Moves are only added, and so are publications. At each moment of the steps a crash leaves the units after some of the
-- publications, from those that are acknowledged to those that are made, and no refused file. No event that came says that a file is lost or damaged.
pub record LeavesBehind (name_of : List ℕ → List ℕ) (start run : Run) (before now : Option (List Move)) : Type 0 where
  pub adds : AddsTo before now
  pub grows : Grows start.state run.state
  pub prefixes : IfTold before now (LeavesPrefixes name_of start.state.publications run.state.publications)
  pub more : List Event
  pub came : run.events ≡ start.events ++ more
  pub found : NoneMissed more

module _ (name_of : List ℕ → List ℕ) (before : List Move) where
  -- the moves at the end of an opening
  abbrev pub opened : List Move
  opened = before ++ opening_moves name_of before

  -- The moves of a replay that ended, from those before it: opening's, and then the run's. Both areas hold what the state at the run's end says.
  pub record IsLeft (run : Run) (now : List Move) : Type 0 where
    pub adds : Adds opened now
    pub stands : StandsOnDisk name_of run.state now
    -- up to opening's second sync a crash leaves what it could leave before
    pub early : (moment : ℕ) (image : Image) → length before ≤ moment → moment ≤ length before + 2 → IsImage (take moment now) image → IsImage before image
    -- from then to opening's end each image has the units that opening found
    pub images : (moment : ℕ) (image : Image) → length before + 2 ≤ moment → moment ≤ length opened → IsImage (take moment now) image
        → (opening_of name_of image).units ≡ (opening_of name_of (standing before)).units
    -- the run's publications are the units that opening found, and one more for each units change since
    pub more : List Publication
    pub begins : run.state.publications ≡ map (λ (entry : List ℕ × StoredUnit). Put entry.0 entry.1) (opening_of name_of (standing before)).units ++ more
    pub counts : CountsFrom (length opened) (length (opening_of name_of (standing before)).units) run.state.publications now
    -- from opening's end on each image has the units after some of them, from those that are acknowledged at the moment to those that are made, and refuses no file
    pub prefixes : (moment : ℕ) (image : Image) → length opened ≤ moment → moment ≤ length now → IsImage (take moment now) image
        → IsPrefixAt name_of run.state.publications (length opened) (length (opening_of name_of (standing before)).units) (take moment now) image

  -- An opening that stopped behind some of its moves. The records and the sound units are as before, and so are those of each image from the second sync on; up to then a
  -- crash leaves what it could leave before.
  pub record StopsInOpening (now : List Move) : Type 0 where
    pub front : IsFront name_of before now
    pub records : standing now Records ≡ standing before Records
    pub kept : (opening_of name_of (standing now)).units ≡ (opening_of name_of (standing before)).units
    pub early : (moment : ℕ) (image : Image) → length before ≤ moment → moment ≤ length before + 2 → IsImage (take moment now) image → IsImage before image
    pub images : (moment : ℕ) (image : Image) → length before + 2 ≤ moment → moment ≤ length now → IsImage (take moment now) image
        → (opening_of name_of image).units ≡ (opening_of name_of (standing before)).units

  -- A replay that stopped in its run: of some run to which the replay comes both areas hold what the state says, and a crash leaves the units after all its publications, or
  -- without those whose change waits for a sync, and no refused file.
  pub record StopsInRun (script : Script) (now : List Move) : Type 0 where
    pub run : Run
    pub rest : List ℕ
    pub comes : ComesTo name_of (lanes_of name_of script) (fresh name_of script (opening_of name_of (standing before))) script.order run rest
    pub stands : StandsOnDisk name_of run.state now
    pub images : (image : Image) → IsImage now image → IsPrefix name_of run.state.publications (length run.state.publications - waiting now) (length run.state.publications) image
