-- A removal of the library is the machine's.
use Rattle.std.proofs.Common.{◌≡◌, ℕ, Bool, true, false, List, [], ◌∷◌, ◌++◌, length, refl, sym, ap, subst, ◌∙◌, Option, Some, None, IfSome, Result, Ok, Err, is_err}
use Rattle.std.proofs.lemmas.Option.{same_Some}
use Rattle.ix_dir.specs.declared.moves.Move.{Move}
use Rattle.ix_dir.specs.State.{DirState}
use Rattle.ix_dir.specs.WhatAChangeLeaves.{AddsTo}
use Rattle.ix_shelf.specs.Shelf.{OnShelf}
use Rattle.ix_cabinet.specs.declared.change.Settled.{Settled}
use Rattle.ix_cabinet.specs.declared.change.Settled.TheVariants.{Synced, Unsynced}
use Rattle.ix_model.specs.declared.publication.Publication.{Publication}
use Rattle.ix_model.specs.declared.publication.Publication.TheVariants as model
use Rattle.ix_machine.specs.declared.event.Outcome.{Outcome}
use Rattle.ix_machine.specs.declared.event.Outcome.TheVariants as outcome
use Rattle.ix_machine.specs.Given as given
use Rattle.ix_machine.specs.Needs.{visible}
use Rattle.ix_machine.specs.State.{State}
use Rattle.ix_machine.specs.Step.{Stepped, ended, step, flagged, remove_named, publishing, name_with_output}
use Rattle.ix_ledger.specs.Effects.{Changed, remove_change}
use Rattle.ix_ledger.specs.Effects as effect
use Rattle.ix_ledger.specs.Kept.{Kept}
use Rattle.ix_ledger.specs.OfState.{Keeps, Makes}
use Rattle.ix_stops.specs.Stands.{flag_of}
use Rattle.ix_changes.specs.Holds.{Leads, IsAlikeOnDisk}
use Rattle.ix_library.specs.declared.known.KnownStamps.{KnownStamps}
use Rattle.ix_library.specs.Endings.{flag_for, remove_answer, remove_ending, remove_leaves}
use Rattle.ix_library.specs.Given.{Laws}
use Rattle.ix_library.specs.StandsFor.{StandsFor, Takes}
use Rattle.ix_library.proofs.Slots.{same_staged, staged_same}
use Rattle.ix_library.proofs.Taking.{takes, unmoved_takes, stays_as}
use Rattle.ix_library.proofs.UnitsStay.{Stays}

-- ---- the name of the unit

last_same : {X : Type 0} (xs : List X) (a b : X) → xs ++ a ∷ [] ≡ xs ++ b ∷ [] → a ≡ b
last_same [] a b is = cc
last_same (x ∷ xs) a b is = last_same xs a b (cc)

gone_same : (n name : List ℕ) → model.Gone n ≡ model.Gone name → n ≡ name
gone_same n name is = cc

not_synced : outcome.NoUnit ≡ outcome.Synced → ⊥
not_synced is = absurd (cc)

by_name : (s : State) (name : List ℕ) (o : Option (List ℕ)) → flagged (remove_named s o) outcome.Done ≡ Some (ended outcome.Synced (publishing s (model.Gone name) None)) → o ≡ Some name
by_name s name None is = absurd (not_synced (ap (λ (t : Stepped). t.outcome) (same_Some (ended outcome.NoUnit s) (ended outcome.Synced (publishing s (model.Gone name) None)) is)))
by_name s name (Some n) is =
    let states = ap (λ (t : Stepped). t.state.publications) (same_Some (ended outcome.Synced (publishing s (model.Gone n) None)) (ended outcome.Synced (publishing s (model.Gone name) None)) is) in
    ap Some (gone_same n name (last_same s.publications (model.Gone n) (model.Gone name) states))

-- ---- what the ledger and the directory say

pub record RemoveLaws : Type 0 where
  pub made : (name_of : List ℕ → List ℕ) (s : State) (lane : ℕ) (kept : Kept) (output : List ℕ) (change : Changed) → Keeps name_of kept s → remove_change kept (name_of output) output ≡ Some change
      → Makes name_of s lane (given.Remove output) outcome.Done outcome.Synced (effect.changed kept change false) (publishing s (model.Gone (name_of output)) None)
  pub unsynced : (name_of : List ℕ → List ℕ) (s : State) (lane : ℕ) (kept : Kept) (output : List ℕ) (change : Changed) → Keeps name_of kept s → remove_change kept (name_of output) output ≡ Some change
      → Makes name_of s lane (given.Remove output) outcome.Unsynced outcome.Unsynced (effect.changed kept change true) (publishing s (model.Gone (name_of output)) (Some (length s.publications)))
  pub failed : (name_of : List ℕ → List ℕ) (s : State) (lane : ℕ) (kept : Kept) (output : List ℕ) (change : Changed) → Keeps name_of kept s → remove_change kept (name_of output) output ≡ Some change
      → Makes name_of s lane (given.Remove output) outcome.Fault outcome.Fault kept s
  pub refused : (name_of : List ℕ → List ℕ) (s : State) (lane : ℕ) (kept : Kept) (output : List ℕ) → Keeps name_of kept s → remove_change kept (name_of output) output ≡ None
      → Makes name_of s lane (given.Remove output) outcome.Done outcome.NoUnit kept s

pub record RemovesOnDisk {E : Type 0} (name_of : List ℕ → List ℕ) (s : State) (lane : ℕ) (output : List ℕ) (before after : Option (List Move)) (shelf : OnShelf) (r : Result Settled E) : Type 0 where
  pub made : (settled : Settled) (stepped : Stepped) → name_with_output output (visible s) ≡ Some (name_of output) → r ≡ Ok settled → step name_of s lane (given.Remove output) (flag_of settled) ≡ Some stepped → Leads name_of s stepped.state before after shelf
  pub failed : (next : State) → IsAlikeOnDisk s next → is_err r ≡ true → Leads name_of s next before after shelf

-- ---- the step

module _ (laws : Laws) (ledger : RemoveLaws) (name_of : List ℕ → List ℕ) (s : State) (lane : ℕ) (output : List ℕ) (kept now : Kept) (known : KnownStamps) where
  pub refused_takes : (shelf : OnShelf) (before : DirState) → StandsFor name_of s kept shelf known before → remove_change kept (name_of output) output ≡ None → now ≡ kept
      → Takes name_of s lane (given.Remove output) outcome.Done outcome.NoUnit before now shelf known before
  refused_takes shelf before stands none is =
      unmoved_takes laws name_of s lane (given.Remove output) outcome.Done outcome.NoUnit s kept kept now known shelf before stands (stays_as s s refl refl refl) (record { publications = refl; pending = refl; records = refl })
      stands.staged (ledger.refused name_of s lane kept output stands.keeps none) is

  module _ (change : Changed) (is_change : remove_change kept (name_of output) output ≡ Some change) (shelf_before shelf : OnShelf) (before after : DirState) (stands : StandsFor name_of s kept shelf_before known before)
      (slots : after.slots ≡ before.slots) (adds : AddsTo before.moves after.moves) where
    named : name_with_output output (visible s) ≡ Some (name_of output)
    named = by_name s (name_of output) (name_with_output output (visible s)) (ledger.made name_of s lane kept output change stands.keeps is_change).taken

    ends : (flag how : Outcome) (next : State) (made : Kept) → made.staged ≡ kept.staged → Stays s next → Makes name_of s lane (given.Remove output) flag how made next → Leads name_of s next before.moves after.moves shelf → now ≡ made
        → Takes name_of s lane (given.Remove output) flag how before now shelf known after
    ends flag how next made same stays makes leads is =
        takes laws name_of s lane (given.Remove output) flag how next kept made now known shelf_before shelf before after stands stays makes leads (staged_same kept made before after (same_staged kept made same) slots stands.staged) adds is

    pub remove_takes : {E : Type 0} (r : Result Settled E) → RemovesOnDisk name_of s lane output before.moves after.moves shelf r → now ≡ remove_leaves (remove_answer r) kept (Some change)
        → IfSome (remove_ending (remove_answer r)) (λ how. Takes name_of s lane (given.Remove output) (flag_for how) how before now shelf known after)
    remove_takes (Ok Synced) disk is =
        let gone = model.Gone (name_of output) in
        let next = publishing s gone None in
        let makes = ledger.made name_of s lane kept output change stands.keeps is_change in
        ends outcome.Done outcome.Synced next (effect.changed kept change false) refl (record { current = refl; import = refl; more = gone ∷ []; grown = refl }) makes
        (disk.made Synced (ended outcome.Synced next) named refl makes.taken) is
    remove_takes (Ok Unsynced) disk is =
        let gone = model.Gone (name_of output) in
        let next = publishing s gone (Some (length s.publications)) in
        let makes = ledger.unsynced name_of s lane kept output change stands.keeps is_change in
        ends outcome.Unsynced outcome.Unsynced next (effect.changed kept change true) refl (record { current = refl; import = refl; more = gone ∷ []; grown = refl }) makes
        (disk.made Unsynced (ended outcome.Unsynced next) named refl makes.taken) is
    remove_takes (Err e) disk is =
        ends outcome.Fault outcome.Fault s kept refl (stays_as s s refl refl refl) (ledger.failed name_of s lane kept output change stands.keeps is_change)
        (disk.failed s (record { publications = refl; pending = refl; records = refl }) refl) is
