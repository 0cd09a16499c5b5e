-- A publish of the library is the machine's.
use Rattle.std.proofs.Common.{◌≡◌, ℕ, zero, suc, Bool, true, false, List, [], ◌∷◌, length, map, refl, sym, ap, subst, ◌∙◌, Option, Some, None, is_some, IfSome, Result, Ok, Err, is_err, slice_index_or, slice_set}
use Rattle.ix_dir.specs.declared.moves.Move.{Move}
use Rattle.ix_dir.specs.State.{DirState}
use Rattle.ix_dir.specs.WhatAChangeLeaves.{AddsTo}
use Rattle.ix_unit.specs.declared.value.UnitValue.{UnitValue}
use Rattle.ix_shelf.specs.Shelf.{OnShelf}
use Rattle.ix_cabinet.specs.declared.change.Settled.{Settled}
use Rattle.ix_cabinet.specs.declared.change.Settled.TheVariants.{Synced, Unsynced}
use Rattle.ix_model.specs.declared.publication.Publication.TheVariants as model
use Rattle.ix_machine.specs.declared.event.Outcome.{Outcome}
use Rattle.ix_machine.specs.declared.event.Outcome.TheVariants as outcome
use Rattle.ix_machine.specs.Given as given
use Rattle.ix_machine.specs.State.{State, Lease, lease_of}
use Rattle.ix_machine.specs.Step.{Stepped, ended, step, stored_unit}
use Rattle.ix_machine.specs.Step as calls
use Rattle.ix_ledger.specs.Effects.{Changed, publish_change}
use Rattle.ix_ledger.specs.Effects as effect
use Rattle.ix_ledger.specs.Kept.{Kept, staged_in}
use Rattle.ix_ledger.specs.OfState.{Keeps, Makes, staged_under}
use Rattle.ix_stops.specs.Stands.{flag_of, outcome_of}
use Rattle.ix_changes.specs.Holds.{Leads, IsAlikeOnDisk}
use Rattle.ix_library.specs.declared.known.KnownStamps.{KnownStamps}
use Rattle.ix_library.specs.Endings.{flag_for, publish_answer, publish_ending, publish_leaves}
use Rattle.ix_library.specs.Given.{Laws}
use Rattle.ix_library.specs.StandsFor.{HasSlots, StandsFor, Takes}
use Rattle.ix_library.proofs.Slots.{SlotsApart, less_staged, none_there, staged_less, staged_apart, slots_apart}
use Rattle.ix_library.proofs.Taking.{takes, unmoved_takes, stays_as}
use Rattle.ix_library.proofs.UnitsStay.{Stays}

-- ---- the lease

staged_at : (leases : List (Option Lease)) (lane : ℕ) → slice_index_or (map staged_under leases) lane None ≡ staged_under (slice_index_or leases lane None)
staged_at [] lane = refl
staged_at (o ∷ leases) zero = refl
staged_at (o ∷ leases) (suc lane) = staged_at leases lane

pub record StagedUnder (o : Option Lease) (unit : UnitValue) : Type 0 where
  pub lease : Lease
  pub is : o ≡ Some lease
  pub staged : lease.staged ≡ Some unit

staged_by : (o : Option Lease) (unit : UnitValue) → staged_under o ≡ Some unit → StagedUnder o unit
staged_by None unit is = absurd (cc)
staged_by (Some lease) unit is = record { lease = lease; is = refl; staged = is }

-- ---- what the ledger and the directory say

pub record PublishLaws : Type 0 where
  pub made : (name_of : List ℕ → List ℕ) (s : State) (lane : ℕ) (kept : Kept) (unit : UnitValue) (change : Changed) → Keeps name_of kept s → staged_in kept lane ≡ Some unit → publish_change kept lane (name_of unit.output) ≡ Some change
      → Makes name_of s lane given.Publish outcome.Done outcome.Synced (effect.changed (effect.dropped kept lane) change false) (calls.publishing (calls.dropped s lane) (model.Put (name_of unit.output) (stored_unit s unit)) None)
  pub unsynced : (name_of : List ℕ → List ℕ) (s : State) (lane : ℕ) (kept : Kept) (unit : UnitValue) (change : Changed) → Keeps name_of kept s → staged_in kept lane ≡ Some unit → publish_change kept lane (name_of unit.output) ≡ Some change
      → Makes name_of s lane given.Publish outcome.Unsynced outcome.Unsynced (effect.changed (effect.dropped kept lane) change true) (calls.publishing (calls.dropped s lane) (model.Put (name_of unit.output) (stored_unit s unit)) (Some (length s.publications)))
  pub failed : (name_of : List ℕ → List ℕ) (s : State) (lane : ℕ) (kept : Kept) (unit : UnitValue) (change : Changed) → Keeps name_of kept s → staged_in kept lane ≡ Some unit → publish_change kept lane (name_of unit.output) ≡ Some change
      → Makes name_of s lane given.Publish outcome.Fault outcome.Fault (effect.dropped kept lane) (calls.dropped s lane)
  pub clashed : (name_of : List ℕ → List ℕ) (s : State) (lane : ℕ) (kept : Kept) (unit : UnitValue) → Keeps name_of kept s → staged_in kept lane ≡ Some unit → publish_change kept lane (name_of unit.output) ≡ None
      → Makes name_of s lane given.Publish outcome.Done outcome.Clash (effect.dropped kept lane) (calls.dropped s lane)

pub record PublishesOnDisk {E : Type 0} (name_of : List ℕ → List ℕ) (s : State) (lane : ℕ) (unit : UnitValue) (before after : Option (List Move)) (shelf : OnShelf) (r : Result Settled E) : Type 0 where
  pub made : (lease : Lease) (settled : Settled) (stepped : Stepped) → lease_of s lane ≡ Some lease → lease.staged ≡ Some unit → r ≡ Ok settled → step name_of s lane given.Publish (flag_of settled) ≡ Some stepped → stepped.outcome ≡ outcome_of settled
      → Leads name_of s stepped.state before after shelf
  pub failed : (next : State) → IsAlikeOnDisk s next → is_err r ≡ true → Leads name_of s next before after shelf

-- ---- the step

module _ (laws : Laws) (ledger : PublishLaws) (name_of : List ℕ → List ℕ) (s : State) (lane : ℕ) (unit : UnitValue) (kept now : Kept) (known : KnownStamps) (has : staged_in kept lane ≡ Some unit) where
  under : (shelf : OnShelf) (before : DirState) → StandsFor name_of s kept shelf known before → StagedUnder (lease_of s lane) unit
  under shelf before stands = staged_by (lease_of s lane) unit (sym (staged_at s.leases lane) ∙ (ap (λ (k : Kept). staged_in k lane) (sym stands.keeps.is) ∙ has))

  pub clash_takes : (shelf : OnShelf) (before : DirState) → StandsFor name_of s kept shelf known before → publish_change kept lane (name_of unit.output) ≡ None → now ≡ effect.dropped kept lane
      → Takes name_of s lane given.Publish outcome.Done outcome.Clash before now shelf known before
  clash_takes shelf before stands none is =
      let next = calls.dropped s lane in
      let made = effect.dropped kept lane in
      unmoved_takes laws name_of s lane given.Publish outcome.Done outcome.Clash next kept made now known shelf before stands (stays_as s next refl refl refl) (record { publications = refl; pending = refl; records = refl })
      (staged_less kept made before (less_staged kept made lane refl) stands.staged) (ledger.clashed name_of s lane kept unit stands.keeps has none) is

  module _ (change : Changed) (is_change : publish_change kept lane (name_of unit.output) ≡ Some change) (shelf_before shelf : OnShelf) (before after : DirState) (stands : StandsFor name_of s kept shelf_before known before)
      (apart : SlotsApart lane before after) (adds : AddsTo before.moves after.moves) where
    abbrev Ends : Outcome → Outcome → Type 0
    Ends flag how = Takes name_of s lane given.Publish flag how before now shelf known after

    ends : (flag how : Outcome) (next : State) (made : Kept) → made.staged ≡ slice_set kept.staged lane None → Stays s next → Makes name_of s lane given.Publish flag how made next → Leads name_of s next before.moves after.moves shelf → now ≡ made → Ends flag how
    ends flag how next made less stays makes leads is =
        takes laws name_of s lane given.Publish flag how next kept made now known shelf_before shelf before after stands stays makes leads
        (staged_apart kept made lane before after (less_staged kept made lane less) (ap (λ (xs : List (Option UnitValue)). slice_index_or xs lane None) less ∙ none_there kept.staged lane) apart stands.staged) adds is

    pub publish_takes : {E : Type 0} (r : Result Settled E) → PublishesOnDisk name_of s lane unit before.moves after.moves shelf r → now ≡ publish_leaves (publish_answer r) kept lane (Some change)
        → IfSome (publish_ending (publish_answer r)) (λ how. Takes name_of s lane given.Publish (flag_for how) how before now shelf known after)
    publish_takes (Ok Synced) disk is =
        let lease = under shelf_before before stands in
        let put = model.Put (name_of unit.output) (stored_unit s unit) in
        let next = calls.publishing (calls.dropped s lane) put None in
        let makes = ledger.made name_of s lane kept unit change stands.keeps has is_change in
        ends outcome.Done outcome.Synced next (effect.changed (effect.dropped kept lane) change false) refl (record { current = refl; import = refl; more = put ∷ []; grown = refl }) makes
        (disk.made lease.lease Synced (ended outcome.Synced next) lease.is lease.staged refl makes.taken refl) is
    publish_takes (Ok Unsynced) disk is =
        let lease = under shelf_before before stands in
        let put = model.Put (name_of unit.output) (stored_unit s unit) in
        let next = calls.publishing (calls.dropped s lane) put (Some (length s.publications)) in
        let makes = ledger.unsynced name_of s lane kept unit change stands.keeps has is_change in
        ends outcome.Unsynced outcome.Unsynced next (effect.changed (effect.dropped kept lane) change true) refl (record { current = refl; import = refl; more = put ∷ []; grown = refl }) makes
        (disk.made lease.lease Unsynced (ended outcome.Unsynced next) lease.is lease.staged refl makes.taken refl) is
    publish_takes (Err e) disk is =
        let next = calls.dropped s lane in
        ends outcome.Fault outcome.Fault next (effect.dropped kept lane) refl (stays_as s next refl refl refl) (ledger.failed name_of s lane kept unit change stands.keeps has is_change)
        (disk.failed next (record { publications = refl; pending = refl; records = refl }) refl) is

-- ---- slots

published_staged : {E : Type 0} (r : Result Settled E) (kept : Kept) (lane : ℕ) (change : Changed) → (publish_leaves (publish_answer r) kept lane (Some change)).staged ≡ slice_set kept.staged lane None
published_staged (Ok settled) kept lane change = refl
published_staged (Err e) kept lane change = refl

pub publish_ready : {E : Type 0} (r : Result Settled E) (kept now : Kept) (lane : ℕ) (change : Changed) (before after : DirState) → now ≡ publish_leaves (publish_answer r) kept lane (Some change) → SlotsApart lane before after → HasSlots kept before → HasSlots now after
publish_ready r kept now lane change before after is apart has =
    let less : now.staged ≡ slice_set kept.staged lane None = ap (λ (k : Kept). k.staged) is ∙ published_staged r kept lane change in
    slots_apart kept now lane before after (less_staged kept now lane less) (ap (λ (xs : List (Option UnitValue)). slice_index_or xs lane None) less ∙ none_there kept.staged lane) apart has
