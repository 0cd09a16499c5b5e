-- A stage of the library is the machine's.
use Rattle.std.proofs.Common.{◌≡◌, ℕ, Bool, true, false, cond, ◌&&◌, List, [], ◌∷◌, refl, sym, ap, subst, ◌∙◌, Option, Some, None, is_some, IsSome, IfSome, OnOk, Result, Ok, Err, nat_eq}
use Rattle.std.specs.List.{AllByRecursion, list_all}
use Rattle.std.proofs.lemmas.Bool.{and_parts}
use Rattle.ix_dir.specs.declared.moves.Move.{Move}
use Rattle.ix_dir.specs.State.{DirState, is_staged, staged_bytes, with_slot}
use Rattle.ix_dir.specs.WhatAChangeLeaves.{AddsTo}
use Rattle.ix_unit.specs.declared.value.RecordDep.{RecordDep}
use Rattle.ix_unit.specs.declared.value.UnitValue.{UnitValue}
use Rattle.ix_unit.specs.Spelling.{UnitSpelling}
use Rattle.ix_shelf.specs.Shelf.{OnShelf}
use Rattle.ix_cabinet.specs.declared.fault.StageError.{StageError}
use Rattle.ix_cabinet.specs.declared.fault.StageError.TheVariants.{Fault, Memory}
use Rattle.ix_machine.specs.declared.event.Outcome.{Outcome}
use Rattle.ix_machine.specs.declared.event.Outcome.TheVariants as outcome
use Rattle.ix_machine.specs.Given as given
use Rattle.ix_machine.specs.Run.{MayCall}
use Rattle.ix_machine.specs.State.{State}
use Rattle.ix_machine.specs.Step as calls
use Rattle.ix_guard.specs.Guarding.{Lease}
use Rattle.ix_guard.specs.Protection.{has_put}
use Rattle.ix_ledger.specs.Effects as effect
use Rattle.ix_ledger.specs.Kept.{Kept, staged_in}
use Rattle.ix_ledger.specs.OfState.{Keeps, Makes}
use Rattle.ix_changes.specs.Holds.{Leads}
use Rattle.ix_library.specs.declared.known.KnownStamps.{KnownStamps}
use Rattle.ix_library.specs.Conditions.{has_put_each}
use Rattle.ix_library.specs.Endings.{flag_for, stage_ending, stage_leaves}
use Rattle.ix_library.specs.Given.{Laws}
use Rattle.ix_library.specs.StandsFor.{HasStaged, StandsFor, Takes}
use Rattle.ix_library.proofs.Slots.{SlotsApart, less_staged, none_there, staged_apart, staged_more}
use Rattle.ix_library.proofs.Taking.{takes, stays_as, none_added}

-- ---- the lease

all_put : (lease : Lease) (deps : List RecordDep) → list_all (λ (dep : RecordDep). has_put dep.name lease) deps ≡ true → AllByRecursion (λ (dep : RecordDep). has_put dep.name lease ≡ true) deps
all_put lease [] is = tt
all_put lease (dep ∷ deps) is = let both = and_parts (has_put dep.name lease) (list_all (λ (d : RecordDep). has_put d.name lease) deps) is in (both.0, all_put lease deps both.1)

-- a lease under which the records were put
pub record PutUnder (deps : List RecordDep) (o : Option Lease) : Type 0 where
  pub lease : Lease
  pub is : o ≡ Some lease
  pub put : AllByRecursion (λ (dep : RecordDep). has_put dep.name lease ≡ true) deps

pub put_under : (deps : List RecordDep) (o : Option Lease) → has_put_each deps o ≡ true → PutUnder deps o
put_under deps None is = absurd (cc)
put_under deps (Some lease) is = record { lease = lease; is = refl; put = all_put lease deps is }

-- ---- the directory

-- one slot may have changed, and counts
pub record StagesOnDisk {U : Type 0} (lane : ℕ) (unit : UnitValue) (before after : DirState) (r : Result U StageError) : Type 0 where
  pub staged : OnOk r (is_staged after lane ≡ true)
  pub bytes : OnOk r (IsSome before.moves → UnitSpelling (staged_bytes after lane) unit)
  pub moves : after.moves ≡ before.moves
  pub slots : after.slots ≡ with_slot before.slots lane (after.slots lane)

pub others_stay : (lane : ℕ) (before after : DirState) → after.slots ≡ with_slot before.slots lane (after.slots lane) → SlotsApart lane before after
others_stay lane before after is other apart =
    ap (λ (f : ℕ → Option (List ℕ)). f other) is ∙ ap (λ (b : Bool). cond b (after.slots lane) (before.slots other)) apart

-- ---- the step

pub record StageLaws : Type 0 where
  pub made : (name_of : List ℕ → List ℕ) (s : State) (lane : ℕ) (kept : Kept) (unit : UnitValue) → Keeps name_of kept s → MayCall name_of s lane (given.Stage unit)
      → Makes name_of s lane (given.Stage unit) outcome.Done outcome.Done (effect.staging kept lane unit) (calls.stage s lane unit).plain.state
  pub failed : (name_of : List ℕ → List ℕ) (s : State) (lane : ℕ) (kept : Kept) (unit : UnitValue) → Keeps name_of kept s → MayCall name_of s lane (given.Stage unit)
      → Makes name_of s lane (given.Stage unit) outcome.Fault outcome.Fault (effect.dropped kept lane) (calls.dropped s lane)

module _ (laws : Laws) (ledger : StageLaws) (name_of : List ℕ → List ℕ) (s : State) (lane : ℕ) (unit : UnitValue) (kept now : Kept) (known : KnownStamps) (shelf : OnShelf) (before after : DirState)
    (stands : StandsFor name_of s kept shelf known before) (may : MayCall name_of s lane (given.Stage unit)) where
  unmoved : (next : State) → next.publications ≡ s.publications → next.pending ≡ s.pending → next.records ≡ s.records → after.moves ≡ before.moves → Leads name_of s next before.moves after.moves shelf
  unmoved next publications pending records same =
      subst (λ (m : Option (List Move)). Leads name_of s next before.moves m shelf) (sym same)
      (laws.unmoved name_of s next shelf before.moves stands.holds (record { publications = publications; pending = pending; records = records }))

  adds : after.moves ≡ before.moves → AddsTo before.moves after.moves
  adds same = subst (AddsTo before.moves) (sym same) (none_added before.moves)

  pub stage_takes : {U : Type 0} (r : Result U StageError) → StagesOnDisk lane unit before after r → now ≡ stage_leaves r kept lane unit
      → IfSome (stage_ending r) (λ how. Takes name_of s lane (given.Stage unit) (flag_for how) how before now shelf known after)
  stage_takes (Ok x) disk is =
      let next = (calls.stage s lane unit).plain.state in
      let made = effect.staging kept lane unit in
      takes laws name_of s lane (given.Stage unit) outcome.Done outcome.Done next kept made now known shelf shelf before after stands (stays_as s next refl refl refl) (ledger.made name_of s lane kept unit stands.keeps may)
      (unmoved next refl refl refl disk.moves)
      (staged_more kept made lane unit refl before after (others_stay lane before after disk.slots) (disk.staged, disk.bytes (ap is_some stands.holds.is)) stands.staged)
      (adds disk.moves) is
  stage_takes (Err Fault) disk is =
      let next = calls.dropped s lane in
      let made = effect.dropped kept lane in
      takes laws name_of s lane (given.Stage unit) outcome.Fault outcome.Fault next kept made now known shelf shelf before after stands (stays_as s next refl refl refl) (ledger.failed name_of s lane kept unit stands.keeps may)
      (unmoved next refl refl refl disk.moves)
      (staged_apart kept made lane before after (less_staged kept made lane refl) (none_there kept.staged lane) (others_stay lane before after disk.slots) stands.staged)
      (adds disk.moves) is
  stage_takes (Err Memory) disk is = tt
