-- Laws of the crates below, in one record.
use Rattle.std.specs.Prelude.{◌≡◌, ℕ, List, [], ◌∷◌, ◌++◌, Bool, false, Some, is_some}
use Rattle.ix_dir.specs.declared.area.Area.{Area}
use Rattle.ix_dir.specs.declared.area.Area.TheVariants.{Units, Records}
use Rattle.ix_dir.specs.declared.moves.Move.{Move}
use Rattle.ix_dir.specs.declared.moves.Move.TheVariants.{Renamed, Synced}
use Rattle.ix_dir.specs.Calls.{moves_removed}
use Rattle.ix_dir.specs.Crash.{IsSettledIn}
use Rattle.ix_dir.specs.Moves.{same_area}
use Rattle.ix_record.specs.declared.body.Body.{Body}
use Rattle.ix_unit.specs.declared.value.UnitValue.{UnitValue}
use Rattle.ix_unit.specs.Spelling.{UnitSpelling}
use Rattle.ix_cabinet.specs.declared.change.Settled.{Settled}
use Rattle.ix_machine.specs.declared.event.Outcome.TheVariants.{Done, Written, Removed, Nothing}
use Rattle.ix_machine.specs.Given.{Put, Publish, Remove, Collect}
use Rattle.ix_machine.specs.Needs.{visible}
use Rattle.ix_machine.specs.Sound.{IsSound}
use Rattle.ix_machine.specs.State.{State, Lease, lease_of}
use Rattle.ix_machine.specs.Step.{Stepped, step, name_with_output}
use Rattle.ix_stops.specs.Prefixes.{LeavesPrefixes}
use Rattle.ix_stops.specs.Shapes.{syncs, settled_moves}
use Rattle.ix_stops.specs.Stands.{StandsOnDisk, flag_of, outcome_of}
use Rattle.std.specs.Prelude.{◌↔◌, Contains}
use Rattle.std.specs.FinMap.{get}
use Rattle.std.specs.Option.{option_map}
use Rattle.ix_dir.specs.Files.{File, Files, bytes_at, contents_of}
use Rattle.ix_dir.specs.Moves.{area_after}
use Rattle.ix_dir.specs.Stamps.{HasFreshStamps}
use Rattle.ix_dir.specs.WhatAChangeLeaves.{Adds}
use Rattle.ix_record.specs.Laws as record_laws
use Rattle.ix_unit.specs.Laws as unit
use Rattle.ix_cabinet.specs.Scan.{StampMap, stamps_in, changed, gone, IsChanged, IsGone}

pub record Laws : Type 0 where
  pub settled_renamed : (moves : List Move) (area : Area) (name bytes : List ℕ) (stamp : ℕ) (a : Area) → same_area a area ≡ false → IsSettledIn a moves → IsSettledIn a (moves ++ Renamed area name bytes stamp ∷ [])
  pub settled_removed : (moves : List Move) (area : Area) (name : List ℕ) (a : Area) → same_area a area ≡ false → IsSettledIn a moves → IsSettledIn a (moves_removed area name moves)
  pub settled_synced : (moves : List Move) (area a : Area) → same_area a area ≡ false → IsSettledIn a moves → IsSettledIn a (moves ++ Synced area ∷ [])
  pub records_settled : (moves : List Move) (records units : Bool) → (records ≡ false → IsSettledIn Records moves) → IsSettledIn Records (moves ++ syncs records units)
  pub others : (name_of : List ℕ → List ℕ) (s next : State) (moves : List Move) (records units : Bool) → StandsOnDisk name_of s moves → next.publications ≡ s.publications → next.pending ≡ s.pending → next.records ≡ s.records → StandsOnDisk name_of next (moves ++ syncs records units) × LeavesPrefixes name_of s.publications next.publications moves (moves ++ syncs records units)
  pub put : (name_of : List ℕ → List ℕ) (s : State) (moves : List Move) (lane : ℕ) (body : Body) (stepped : Stepped) (stamp : ℕ) → StandsOnDisk name_of s moves → IsSound name_of s → step name_of s lane (Put body) Done ≡ Some stepped → stepped.outcome ≡ Written → StandsOnDisk name_of stepped.state (moves ++ Renamed Records body.name body.bytes stamp ∷ []) × LeavesPrefixes name_of s.publications stepped.state.publications moves (moves ++ Renamed Records body.name body.bytes stamp ∷ [])
  pub publish : (name_of : List ℕ → List ℕ) (s : State) (moves : List Move) (lane : ℕ) (lease : Lease) (unit : UnitValue) (settled : Settled) (stepped : Stepped) (records : Bool) (bytes : List ℕ) (stamp : ℕ) (now : List Move) → StandsOnDisk name_of s moves → IsSound name_of s → lease_of s lane ≡ Some lease → lease.staged ≡ Some unit → step name_of s lane Publish (flag_of settled) ≡ Some stepped → stepped.outcome ≡ outcome_of settled → (records ≡ false → IsSettledIn Records moves) → UnitSpelling bytes unit → now ≡ settled_moves settled ((moves ++ syncs records (is_some s.pending)) ++ Renamed Units (name_of unit.output) bytes stamp ∷ []) → StandsOnDisk name_of stepped.state now × LeavesPrefixes name_of s.publications stepped.state.publications moves now
  pub remove : (name_of : List ℕ → List ℕ) (s : State) (moves : List Move) (lane : ℕ) (output name : List ℕ) (settled : Settled) (stepped : Stepped) (now : List Move) → StandsOnDisk name_of s moves → step name_of s lane (Remove output) (flag_of settled) ≡ Some stepped → name_with_output output (visible s) ≡ Some name → now ≡ settled_moves settled (moves_removed Units name (moves ++ syncs false (is_some s.pending))) → StandsOnDisk name_of stepped.state now × LeavesPrefixes name_of s.publications stepped.state.publications moves now
  pub collect : (name_of : List ℕ → List ℕ) (s : State) (moves : List Move) (lane : ℕ) (stepped : Stepped) (name : List ℕ) → StandsOnDisk name_of s moves → IsSound name_of s → step name_of s lane Collect Done ≡ Some stepped → stepped.outcome ≡ Removed name → StandsOnDisk name_of stepped.state (moves_removed Records name (moves ++ syncs false (is_some s.pending))) × LeavesPrefixes name_of s.publications stepped.state.publications moves (moves_removed Records name (moves ++ syncs false (is_some s.pending)))
  pub collect_none : (name_of : List ℕ → List ℕ) (s : State) (moves : List Move) (lane : ℕ) (stepped : Stepped) → StandsOnDisk name_of s moves → IsSound name_of s → step name_of s lane Collect Done ≡ Some stepped → stepped.outcome ≡ Nothing → StandsOnDisk name_of stepped.state (moves ++ syncs false (is_some s.pending)) × LeavesPrefixes name_of s.publications stepped.state.publications moves (moves ++ syncs false (is_some s.pending))

-- what a look at files says
pub record LookLaws : Type 0 where
  pub contents : (files : Files) (name : List ℕ) → get (contents_of files) name ≡ bytes_at files name
  pub same_file : (before now : List Move) (area : Area) (name : List ℕ) (old new : File) → Adds before now → HasFreshStamps now → get (area_after before area) name ≡ Some old → get (area_after now area) name ≡ Some new → old.stamp ≡ new.stamp → old ≡ new
  pub stamp_of : (files : Files) (name : List ℕ) → get (stamps_in files) name ≡ option_map (λ f. f.stamp) (get files name)
  pub is_changed : (known now : StampMap) (name : List ℕ) → Contains (changed known now) name ↔ IsChanged known now name
  pub is_gone : (known now : StampMap) (name : List ℕ) → Contains (gone known now) name ↔ IsGone known now name
  pub one_unit : unit.OneValue
  pub one_record : record_laws.OneValue
