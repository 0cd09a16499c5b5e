-- Laws of the crates below, in one record.
use Rattle.std.specs.Prelude.{◌≡◌, ◌↔◌, ◌⊎◌, ℕ, ◌≤◌, List, [], ◌∷◌, ◌++◌, length, ◌&&◌, false, Some, None}
use Rattle.std.specs.FinMap.{get}
use Rattle.ix_dir.specs.declared.area.Area.{Area}
use Rattle.ix_dir.specs.declared.area.Area.TheVariants.{Units, Records}
use Rattle.ix_dir.specs.declared.moves.Move.{Move}
use Rattle.ix_dir.specs.declared.moves.Move.TheVariants.{Renamed, Synced}
use Rattle.ix_dir.specs.Calls.{moves_removed}
use Rattle.ix_dir.specs.Crash.{IsSettledIn, standing}
use Rattle.ix_dir.specs.Files.{Files, Contents, bytes_at, contents_of}
use Rattle.ix_dir.specs.Images.{IsImageIn, values_of}
use Rattle.ix_dir.specs.Moves.{area_after, same_area, same_name}
use Rattle.ix_dir.specs.WhatAChangeLeaves.{LeavesAt}
use Rattle.ix_model.specs.declared.publication.Publication.{Publication}
use Rattle.ix_model.specs.declared.publication.Publication.TheVariants.{Put, Gone}
use Rattle.ix_model.specs.declared.publication.StoredUnit.{StoredUnit}
use Rattle.ix_model.specs.Units.{changed_name, units_at, units_after, units_after_last, unit_named, KeepsOtherNames, NamesRise}
use Rattle.ix_machine.specs.Counts.{mark_with}
use Rattle.ix_machine.specs.Opening.{IsSoundUnit, judged}
use Rattle.ix_machine.specs.State as machine
use Rattle.std.specs.Prelude.{Ok}
use Rattle.std.specs.Prelude.{◌≢◌}
use Rattle.std.specs.Map.{lookup}
use Rattle.std.specs.BTreeMap.{is_at}
use Rattle.ix_types.specs.Row.{text_cmp}
use Rattle.ix_record.specs.declared.body.Body.{Body}
use Rattle.ix_record.specs.declared.value.RecordValue.{RecordValue}
use Rattle.ix_unit.specs.declared.value.UnitValue.{UnitValue}
use Rattle.ix_model.specs.declared.publication.Publication.TheVariants as model
use Rattle.ix_machine.specs.declared.event.Outcome.{Outcome}
use Rattle.ix_machine.specs.declared.event.Outcome.TheVariants.{Done, Clash, Unsynced, Removed, Nothing}
use Rattle.ix_machine.specs.Given as given
use Rattle.ix_machine.specs.Given.{Given, Publish, Collect}
use Rattle.ix_machine.specs.Laws.{IsLoose, RemovesLeast, IsRefusal, after_refusal, IsPendingChange}
use Rattle.ix_machine.specs.Needs.{settled}
use Rattle.ix_machine.specs.Sound.{IsSound, ValuesStand}
use Rattle.ix_machine.specs.State.{State, Lease, lease_of}
use Rattle.ix_machine.specs.Step.{Stepped, step}
use Rattle.ix_machine.specs.Needs.{visible}
use Rattle.ix_machine.specs.Run.{begun}
use Rattle.ix_opening.specs.AfterOpening.{opening_moves}
use Rattle.ix_opening.specs.Found.{opening_of}

pub record Laws : Type 0 where
  -- of the directory
  pub contents : (files : Files) (name : List ℕ) → get (contents_of files) name ≡ bytes_at files name
  pub sync_areas : (moves : List Move) (area a : Area) → area_after (moves ++ Synced area ∷ []) a ≡ area_after moves a
  pub sync_settled : (moves : List Move) (area : Area) → IsSettledIn area (moves ++ Synced area ∷ [])
  pub rename : (moves : List Move) (area : Area) (name bytes : List ℕ) (stamp : ℕ) → LeavesAt area name (Some bytes) moves (moves ++ Renamed area name bytes stamp ∷ [])
  pub removal : (moves : List Move) (area : Area) (name : List ℕ) → LeavesAt area name None moves (moves_removed area name moves)
  pub one_renamed : (moves : List Move) (area : Area) (name bytes : List ℕ) (stamp : ℕ) (contents : Contents) → IsSettledIn area moves → IsImageIn area (moves ++ Renamed area name bytes stamp ∷ []) contents ↔ ((contents ≡ standing moves area) ⊎ (contents ≡ standing (moves ++ Renamed area name bytes stamp ∷ []) area))
  pub one_removed : (moves : List Move) (area : Area) (name : List ℕ) (contents : Contents) → IsSettledIn area moves → IsImageIn area (moves_removed area name moves) contents ↔ ((contents ≡ standing moves area) ⊎ (contents ≡ standing (moves_removed area name moves) area))
  pub other_renamed : (moves : List Move) (area : Area) (name bytes : List ℕ) (stamp : ℕ) (a : Area) (n : List ℕ) → (same_area a area && same_name name n) ≡ false → values_of (moves ++ Renamed area name bytes stamp ∷ []) a n ≡ values_of moves a n
  pub other_removed : (moves : List Move) (area : Area) (name : List ℕ) (a : Area) (n : List ℕ) → (same_area a area && same_name name n) ≡ false → values_of (moves_removed area name moves) a n ≡ values_of moves a n
  pub other_synced : (moves : List Move) (area a : Area) (n : List ℕ) → same_area a area ≡ false → values_of (moves ++ Synced area ∷ []) a n ≡ values_of moves a n
  -- of publications
  pub put : (earlier : List Publication) (name : List ℕ) (unit : StoredUnit) → unit_named name (units_after_last earlier (Put name unit)) ≡ Some unit
  pub gone : (earlier : List Publication) (name : List ℕ) → unit_named name (units_after_last earlier (Gone name)) ≡ None
  pub others : (earlier : List Publication) (last : Publication) → KeepsOtherNames (changed_name last) (units_after earlier) (units_after_last earlier last)
  pub rises : (publications : List Publication) (n : ℕ) → NamesRise (units_at publications n)
  pub prefix : (earlier later : List Publication) (n : ℕ) → n ≤ length earlier → units_at (earlier ++ later) n ≡ units_at earlier n
  -- of the machine
  pub marks : (changes : ℕ) (publications : List Publication) → changes ≤ length publications → mark_with changes publications ≡ changes
  pub found : (name_of : List ℕ → List ℕ) (records : machine.Files) (name bytes : List ℕ) (found : StoredUnit) → IsSoundUnit name_of records name bytes found → judged name_of records name bytes ≡ Ok found

-- what the machine's steps change
pub record StepLaws : Type 0 where
  pub refused : (name_of : List ℕ → List ℕ) (s : State) (lane : ℕ) (given : Given) (flag : Outcome) (stepped : Stepped) → step name_of s lane given flag ≡ Some stepped → IsRefusal stepped.outcome → stepped.state ≡ after_refusal s lane given
  pub unsynced : (name_of : List ℕ → List ℕ) (s : State) (lane : ℕ) (given : Given) (stepped : Stepped) → step name_of s lane given Unsynced ≡ Some stepped → (synced : Stepped) × (step name_of s lane given Done ≡ Some synced) × IsPendingChange s synced stepped.state
  pub put_changes : (name_of : List ℕ → List ℕ) (s : State) (lane : ℕ) (body : Body) (flag : Outcome) (stepped : Stepped) → step name_of s lane (given.Put body) flag ≡ Some stepped → stepped.state ≡ record s { records = stepped.state.records; leases = stepped.state.leases }
  pub put_stands : (name_of : List ℕ → List ℕ) (s : State) (lane : ℕ) (body : Body) (stepped : Stepped) → step name_of s lane (given.Put body) Done ≡ Some stepped → stepped.outcome ≢ Clash → lookup (is_at (text_cmp body.name)) stepped.state.records ≡ Some body.bytes
  pub put_others : (name_of : List ℕ → List ℕ) (s : State) (lane : ℕ) (body : Body) (flag : Outcome) (stepped : Stepped) (other : List ℕ) → step name_of s lane (given.Put body) flag ≡ Some stepped → body.name ≢ other → lookup (is_at (text_cmp other)) stepped.state.records ≡ lookup (is_at (text_cmp other)) s.records
  pub added : (name_of : List ℕ → List ℕ) (s : State) (lane : ℕ) (lease : Lease) (unit : UnitValue) (stepped : Stepped) → IsSound name_of s → lease_of s lane ≡ Some lease → lease.staged ≡ Some unit → step name_of s lane Publish Done ≡ Some stepped → stepped.outcome ≢ Clash
      → (values : List RecordValue) × (stepped.state.publications ≡ s.publications ++ model.Put (name_of unit.output) (record { unit = unit; values = values }) ∷ []) × ValuesStand name_of s.records unit.records values
  pub removed : (name_of : List ℕ → List ℕ) (s : State) (lane : ℕ) (stepped : Stepped) (name : List ℕ) → IsSound name_of s → step name_of s lane Collect Done ≡ Some stepped → stepped.outcome ≡ Removed name → RemovesLeast s name stepped.state
  pub nothing : (name_of : List ℕ → List ℕ) (s : State) (lane : ℕ) (stepped : Stepped) (name : List ℕ) → step name_of s lane Collect Done ≡ Some stepped → stepped.outcome ≡ Nothing → (stepped.state ≡ settled s) × (IsLoose s name → ⊥)

-- what an opening leaves
pub record OpeningLaws (name_of : List ℕ → List ℕ) (before : List Move) : Type 0 where
  pub units : (opening_of name_of (standing (before ++ opening_moves name_of before))).units ≡ (opening_of name_of (standing before)).units
  pub refused : (opening_of name_of (standing (before ++ opening_moves name_of before))).refused ≡ []
  pub records : standing (before ++ opening_moves name_of before) Records ≡ standing before Records
  pub settled_units : IsSettledIn Units (before ++ opening_moves name_of before)
  pub settled_records : IsSettledIn Records (before ++ opening_moves name_of before)
  pub visible_ones : (lanes : ℕ) → visible (begun (opening_of name_of (standing before)) lanes) ≡ (opening_of name_of (standing before)).units
