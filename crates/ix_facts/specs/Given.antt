-- Laws of the crates below, in one record.
use Rattle.std.specs.Prelude.{◌≡◌, ℕ, ◌≤◌, true, false, List, length, Option, Some, None}
use Rattle.std.specs.FinMap.{get}
use Rattle.std.specs.Option.{option_map}
use Rattle.ix_dir.specs.declared.area.Area.{Area}
use Rattle.ix_dir.specs.declared.moves.Move.{Move}
use Rattle.ix_dir.specs.Crash.{IsSettledIn}
use Rattle.ix_dir.specs.Files.{Files, bytes_at, contents_of}
use Rattle.ix_dir.specs.Images.{Image, IsImage}
use Rattle.ix_dir.specs.Moves.{area_after}
use Rattle.ix_dir.specs.WhatAChangeLeaves.{AddsTo, IfTold}
use Rattle.ix_unit.specs.Laws as unit
use Rattle.ix_unit.specs.declared.value.UnitValue.{UnitValue}
use Rattle.ix_shelf.specs.Shelf.{OnShelf}
use Rattle.ix_cabinet.specs.Scan.{stamps_in}
use Rattle.ix_model.specs.declared.publication.Publication.{Publication}
use Rattle.ix_model.specs.Units.{Units, needs}
use Rattle.ix_machine.specs.declared.event.Outcome.{Outcome}
use Rattle.ix_machine.specs.Counts.{mark_with}
use Rattle.ix_machine.specs.Given.{Given}
use Rattle.ix_machine.specs.Needs as machine
use Rattle.ix_machine.specs.Sound.{IsSound, MarksInOrder}
use Rattle.ix_machine.specs.State as state
use Rattle.ix_machine.specs.State.{State, Import, lease_of}
use Rattle.ix_machine.specs.Step as calls
use Rattle.ix_machine.specs.Step.{Stepped, step}
use Rattle.ix_guard.specs.Counts.{names_of}
use Rattle.ix_guard.specs.Listing.{need_list_of}
use Rattle.ix_guard.specs.OfMachine.{guarding_of}
use Rattle.ix_guard.specs.Protection as guard
use Rattle.ix_ledger.specs.Effects as effect
use Rattle.ix_ledger.specs.Effects.{change_for}
use Rattle.ix_ledger.specs.OfState.{kept_of}
use Rattle.ix_stops.specs.Prefixes.{LeavesPrefixes}
use Rattle.ix_changes.specs.Holds.{Holds, Leads, IsAlikeOnDisk}
use Rattle.ix_library.specs.Growing.{Grows}

-- of the disk and of units
pub record DiskLaws : Type 0 where
  pub contents : (files : Files) (name : List ℕ) → get (contents_of files) name ≡ bytes_at files name
  pub settled : (moves : List Move) (area : Area) (image : Image) (name : List ℕ) → IsSettledIn area moves → IsImage moves image → get (image area) name ≡ bytes_at (area_after moves area) name
  pub stamps : (files : Files) (name : List ℕ) → get (stamps_in files) name ≡ option_map (λ f. f.stamp) (get files name)
  pub one_spelling : unit.OneSpelling
  pub one_value : unit.OneValue

-- of what a guard keeps of a state
pub record GuardLaws : Type 0 where
  pub names : (units : Units) → names_of (need_list_of units) ≡ needs units
  pub protected : (state : State) (name : List ℕ) → guard.is_protected (guarding_of state) name ≡ machine.is_protected state name
  pub guarded : (name_of : List ℕ → List ℕ) (state : State) (lane : ℕ) (name : List ℕ) → IsSound name_of state → guard.is_guarded (guarding_of state) lane name ≡ machine.is_guarded state lane name

-- of steps, one behind the other
pub record StepLaws : Type 0 where
  pub unmoved : (name_of : List ℕ → List ℕ) (s next : State) (shelf : OnShelf) (moves : Option (List Move)) → Holds name_of s shelf moves → IsAlikeOnDisk s next → Leads name_of s next moves moves shelf
  pub grows : (name_of : List ℕ → List ℕ) (s : State) (lane : ℕ) (given : Given) (flag : Outcome) (stepped : Stepped) → step name_of s lane given flag ≡ Some stepped → Grows s stepped.state
  pub joined : (name_of : List ℕ → List ℕ) (first : List Publication) (second third : State) (before between now : Option (List Move)) → Grows second third → AddsTo before between → AddsTo between now → IfTold before between (LeavesPrefixes name_of first second.publications) → IfTold between now (LeavesPrefixes name_of second.publications third.publications) → IfTold before now (LeavesPrefixes name_of first third.publications)
  pub marks : (changes : ℕ) (publications : List Publication) → changes ≤ length publications → mark_with changes publications ≡ changes

-- of what is kept of the state behind a step
pub record LedgerLaws : Type 0 where
  pub leases : (s : State) (lane : ℕ) (names : List (List ℕ)) → kept_of (calls.lease s lane names).plain.state ≡ effect.leased (kept_of s) lane names
  pub notes : (s : State) (lane : ℕ) (name : List ℕ) → machine.option_any (λ lease. machine.has_name name lease.names) (lease_of s lane) ≡ true → kept_of (calls.noted s lane name) ≡ effect.noted (kept_of s) lane name
  pub drops : (s : State) (lane : ℕ) → kept_of (calls.dropped s lane) ≡ effect.dropped (kept_of s) lane
  pub stages : (s : State) (lane : ℕ) (unit : UnitValue) (lease : state.Lease) → lease_of s lane ≡ Some lease → kept_of (calls.stage s lane unit).plain.state ≡ effect.staging (kept_of s) lane unit
  pub changes : (s : State) (publication : Publication) → MarksInOrder s → kept_of (calls.publishing s publication None) ≡ effect.changed (kept_of s) (change_for (kept_of s) publication) false
  pub pends : (s : State) (publication : Publication) → MarksInOrder s → kept_of (calls.publishing s publication (Some (length s.publications))) ≡ effect.changed (kept_of s) (change_for (kept_of s) publication) true
  pub settles : (s : State) → kept_of (machine.settled s) ≡ effect.settled (kept_of s)
  pub scans : (s : State) (lane : ℕ) → kept_of (calls.scan s lane).plain.state ≡ effect.opened (kept_of s) lane
  pub closes : (s : State) → kept_of (calls.unopened s) ≡ effect.closed (kept_of s)
  pub installs : (s : State) (lane : ℕ) (open_import : Import) → s.import ≡ Some open_import → kept_of (calls.install_mark s lane open_import.mark).plain.state ≡ effect.installed (kept_of s) lane
  pub adopts : (s : State) (lane : ℕ) → kept_of (calls.adopt s lane).plain.state ≡ effect.adopted (kept_of s) lane
  pub releases : (s : State) (lane : ℕ) → kept_of (calls.release s lane).plain.state ≡ effect.released (kept_of s) lane
