-- A collect of the library is the machine's.
use Rattle.std.proofs.Common.{◌≡◌, ℕ, Bool, true, false, List, refl, sym, ap, subst, ◌∙◌, Option, Some, None, IfSome, Result, Ok, Err, is_err, slice_get}
use Rattle.std.specs.Map.{keys_of, remove_entry}
use Rattle.std.specs.BTreeMap.{is_at}
use Rattle.ix_types.specs.Row.{text_cmp}
use Rattle.ix_dir.specs.declared.moves.Move.{Move}
use Rattle.ix_dir.specs.State.{DirState}
use Rattle.ix_dir.specs.WhatAChangeLeaves.{AddsTo}
use Rattle.ix_shelf.specs.Shelf.{OnShelf}
use Rattle.ix_machine.specs.declared.event.Outcome.{Outcome}
use Rattle.ix_machine.specs.declared.event.Outcome.TheVariants as outcome
use Rattle.ix_machine.specs.Given as given
use Rattle.ix_machine.specs.Needs.{loose}
use Rattle.ix_machine.specs.Needs as needs
use Rattle.ix_machine.specs.State.{State}
use Rattle.ix_machine.specs.Step.{Stepped, ended, step}
use Rattle.ix_ledger.specs.Effects as effect
use Rattle.ix_ledger.specs.Kept.{Kept}
use Rattle.ix_ledger.specs.OfState.{Keeps, Makes}
use Rattle.ix_changes.specs.Holds.{Leads, IsAlikeOnDisk}
use Rattle.ix_library.specs.declared.fault.Collected.TheVariants as collects
use Rattle.ix_library.specs.declared.known.KnownStamps.{KnownStamps}
use Rattle.ix_library.specs.Endings.{flag_for, collect_answer, collect_ending, collect_leaves}
use Rattle.ix_library.specs.Given.{Laws}
use Rattle.ix_library.specs.StandsFor.{StandsFor, Takes}
use Rattle.ix_library.proofs.Slots.{same_staged, staged_same}
use Rattle.ix_library.proofs.Taking.{takes, stays_as}

pub record CollectLaws : Type 0 where
  pub nothing : (name_of : List ℕ → List ℕ) (s : State) (lane : ℕ) (kept : Kept) → Keeps name_of kept s → slice_get (loose s) 0 ≡ None → Makes name_of s lane given.Collect outcome.Done outcome.Nothing (effect.settled kept) (needs.settled s)
  pub removed : (name_of : List ℕ → List ℕ) (s : State) (lane : ℕ) (kept : Kept) (name : List ℕ) → Keeps name_of kept s → slice_get (loose s) 0 ≡ Some name
      → Makes name_of s lane given.Collect outcome.Done (outcome.Removed name) (effect.settled kept) (record (needs.settled s) { records = remove_entry (is_at (text_cmp name)) s.records })
  pub failed : (name_of : List ℕ → List ℕ) (s : State) (lane : ℕ) (kept : Kept) → Keeps name_of kept s → Makes name_of s lane given.Collect outcome.Fault outcome.Fault kept s

-- the disk's half of a collect that was to end so
pub record CollectsOnDisk {U E : Type 0} (name_of : List ℕ → List ℕ) (s : State) (lane : ℕ) (how : Outcome) (before after : Option (List Move)) (shelf : OnShelf) (r : Result U E) : Type 0 where
  pub made : (stepped : Stepped) → is_err r ≡ false → step name_of s lane given.Collect outcome.Done ≡ Some stepped → stepped.outcome ≡ how → Leads name_of s stepped.state before after shelf
  pub failed : (next : State) → IsAlikeOnDisk s next → is_err r ≡ true → Leads name_of s next before after shelf

module _ (laws : Laws) (ledger : CollectLaws) (name_of : List ℕ → List ℕ) (s : State) (lane : ℕ) (kept now : Kept) (known : KnownStamps) (shelf_before shelf : OnShelf) (before after : DirState) (stands : StandsFor name_of s kept shelf_before known before)
    (slots : after.slots ≡ before.slots) (adds : AddsTo before.moves after.moves) where
  ends : (flag how : Outcome) (next : State) (made : Kept) → made.staged ≡ kept.staged → next.current ≡ s.current → next.import ≡ s.import → next.publications ≡ s.publications → Makes name_of s lane given.Collect flag how made next
      → Leads name_of s next before.moves after.moves shelf → now ≡ made → Takes name_of s lane given.Collect flag how before now shelf known after
  ends flag how next made same current import publications makes leads is =
      takes laws name_of s lane given.Collect flag how next kept made now known shelf_before shelf before after stands (stays_as s next current import publications) makes leads
      (staged_same kept made before after (same_staged kept made same) slots stands.staged) adds is

  pub failed_takes : Leads name_of s s before.moves after.moves shelf → now ≡ kept → Takes name_of s lane given.Collect outcome.Fault outcome.Fault before now shelf known after
  failed_takes leads is = ends outcome.Fault outcome.Fault s kept refl refl refl refl (ledger.failed name_of s lane kept stands.keeps) leads is

  pub nothing_takes : {U E : Type 0} (r : Result U E) → slice_get (loose s) 0 ≡ None → CollectsOnDisk name_of s lane outcome.Nothing before.moves after.moves shelf r → now ≡ collect_leaves (collect_answer collects.Nothing r) kept
      → IfSome (collect_ending (collect_answer collects.Nothing r)) (λ how. Takes name_of s lane given.Collect (flag_for how) how before now shelf known after)
  nothing_takes (Ok x) none disk is =
      let next = needs.settled s in
      let makes = ledger.nothing name_of s lane kept stands.keeps none in
      ends outcome.Done outcome.Nothing next (effect.settled kept) refl refl refl refl makes (disk.made (ended outcome.Nothing next) refl makes.taken refl) is
  nothing_takes (Err e) none disk is = failed_takes (disk.failed s (record { publications = refl; pending = refl; records = refl }) refl) is

  pub removed_takes : {U E : Type 0} (r : Result U E) (name : List ℕ) → slice_get (loose s) 0 ≡ Some name → CollectsOnDisk name_of s lane (outcome.Removed name) before.moves after.moves shelf r
      → now ≡ collect_leaves (collect_answer (collects.Removed name) r) kept → IfSome (collect_ending (collect_answer (collects.Removed name) r)) (λ how. Takes name_of s lane given.Collect (flag_for how) how before now shelf known after)
  removed_takes (Ok x) name first disk is =
      let next = record (needs.settled s) { records = remove_entry (is_at (text_cmp name)) s.records } in
      let makes = ledger.removed name_of s lane kept name stands.keeps first in
      ends outcome.Done (outcome.Removed name) next (effect.settled kept) refl refl refl refl makes (disk.made (ended (outcome.Removed name) next) refl makes.taken refl) is
  removed_takes (Err e) name first disk is = failed_takes (disk.failed s (record { publications = refl; pending = refl; records = refl }) refl) is
