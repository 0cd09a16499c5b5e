-- A step of the library, from the step of its ledger and what the directory holds.
use Rattle.std.proofs.Common.{◌≡◌, ℕ, List, [], ◌∷◌, ◌++◌, refl, sym, ap, subst, ◌∙◌, Option, Some, None, Result, Ok, Err, OnOk, IfOk}
use Rattle.ix_dir.specs.declared.moves.Move.{Move}
use Rattle.ix_dir.specs.State.{DirState}
use Rattle.ix_dir.specs.WhatAChangeLeaves.{AddsTo}
use Rattle.ix_shelf.specs.Shelf.{OnShelf}
use Rattle.ix_machine.specs.declared.event.Event.{Event}
use Rattle.ix_machine.specs.declared.event.Outcome.{Outcome}
use Rattle.ix_machine.specs.declared.event.Outcome.TheVariants as outcome
use Rattle.ix_machine.specs.Given as given
use Rattle.ix_machine.specs.Given.{Given}
use Rattle.ix_machine.specs.Step as calls
use Rattle.ix_machine.specs.State.{State, lease_of}
use Rattle.ix_ledger.specs.Books.{Books, logged}
use Rattle.ix_ledger.specs.Effects as effect
use Rattle.ix_ledger.specs.Kept.{Kept}
use Rattle.ix_ledger.specs.OfState.{Keeps, Makes}
use Rattle.ix_changes.specs.Holds.{Leads, IsAlikeOnDisk}
use Rattle.ix_library.specs.declared.known.KnownStamps.{KnownStamps}
use Rattle.ix_library.specs.Given.{Laws}
use Rattle.ix_library.specs.StandsFor.{HasStaged, StandsFor, Takes}
use Rattle.ix_library.proofs.Slots.{less_staged, staged_less}
use Rattle.ix_library.proofs.UnitsStay.{Stays, told_stay}

-- ---- moves

append_nothing : {A : Type 0} (xs : List A) → xs ++ [] ≡ xs
append_nothing [] = refl
append_nothing (x ∷ xs) = ap (λ rest. x ∷ rest) (append_nothing xs)

pub none_added : (moves : Option (List Move)) → AddsTo moves moves
none_added None = tt
none_added (Some moves) = record { more = []; added = sym (append_nothing moves) }

-- ---- a step

module _ (laws : Laws) (name_of : List ℕ → List ℕ) (s : State) (lane : ℕ) (given : Given) (flag how : Outcome) (next : State) (old kept now : Kept) (known : KnownStamps) where
  -- the machine's step in memory and on disk
  pub takes : (shelf_before shelf : OnShelf) (before after : DirState) → StandsFor name_of s old shelf_before known before → Stays s next → Makes name_of s lane given flag how kept next → Leads name_of s next before.moves after.moves shelf
      → HasStaged kept after → AddsTo before.moves after.moves → now ≡ kept → Takes name_of s lane given flag how before now shelf known after
  takes shelf_before shelf before after stands stays makes leads staged adds is =
      subst (λ (k : Kept). Takes name_of s lane given flag how before k shelf known after) (sym is)
      (record {
        next = next;
        taken = makes.taken;
        stands = record {
          keeps = makes.keeps;
          holds = leads.holds;
          staged = staged;
          knows = told_stay laws name_of s next stays stands.keeps.sound.marks known before.moves after.moves stands.knows adds;
        };
        adds = adds;
        leaves = leads.leaves;
        waits = leads.waits;
      })

-- the same for a step without moves
pub unmoved_takes : (laws : Laws) (name_of : List ℕ → List ℕ) (s : State) (lane : ℕ) (given : Given) (flag how : Outcome) (next : State) (old kept now : Kept) (known : KnownStamps) (shelf : OnShelf) (dir : DirState)
    → StandsFor name_of s old shelf known dir → Stays s next → IsAlikeOnDisk s next → HasStaged kept dir → Makes name_of s lane given flag how kept next → now ≡ kept → Takes name_of s lane given flag how dir now shelf known dir
unmoved_takes laws name_of s lane given flag how next old kept now known shelf dir stands stays alike staged makes is =
    takes laws name_of s lane given flag how next old kept now known shelf shelf dir dir stands stays makes (laws.unmoved name_of s next shelf dir.moves stands.holds alike) staged (none_added dir.moves) is

-- a state with the same marks and publications
pub stays_as : (s next : State) → next.current ≡ s.current → next.import ≡ s.import → next.publications ≡ s.publications → Stays s next
stays_as s next current import publications = record { current = current; import = import; more = []; grown = publications ∙ sym (append_nothing s.publications) }

-- ---- steps that call no directory

pub lease_takes : {E U : Type 0} (laws : Laws)
    (leases : (name_of : List ℕ → List ℕ) (s : State) (lane : ℕ) (kept : Kept) (names : List (List ℕ)) → Keeps name_of kept s → lease_of s lane ≡ None → Makes name_of s lane (given.Lease names) outcome.Done outcome.Done (effect.leased kept lane names) (calls.lease s lane names).plain.state)
    (name_of : List ℕ → List ℕ) (s : State) (lane : ℕ) (names : List (List ℕ)) (old new : Books) (known : KnownStamps) (shelf : OnShelf) (dir : DirState) (one : Event) (r : Result U E)
    → StandsFor name_of s old.kept shelf known dir → lease_of s lane ≡ None → OnOk r (new ≡ logged old (effect.leased old.kept lane names) one)
    → OnOk r (Takes name_of s lane (given.Lease names) outcome.Done outcome.Done dir new.kept shelf known dir)
lease_takes laws leases name_of s lane names old new known shelf dir one (Ok x) stands none is =
    let next = (calls.lease s lane names).plain.state in
    let kept = effect.leased old.kept lane names in
    unmoved_takes laws name_of s lane (given.Lease names) outcome.Done outcome.Done next old.kept kept new.kept known shelf dir stands (stays_as s next refl refl refl) (record { publications = refl; pending = refl; records = refl })
    (staged_less old.kept kept dir (less_staged old.kept kept lane refl) stands.staged) (leases name_of s lane old.kept names stands.keeps none) (ap (λ (b : Books). b.kept) is)
lease_takes laws leases name_of s lane names old new known shelf dir one (Err e) stands none is = tt

pub adopt_takes : {E : Type 0} (laws : Laws)
    (adopts : (name_of : List ℕ → List ℕ) (s : State) (lane : ℕ) (kept : Kept) → Keeps name_of kept s → Makes name_of s lane given.Adopt outcome.Done (outcome.At kept.current) (effect.adopted kept lane) (calls.adopt s lane).plain.state)
    (name_of : List ℕ → List ℕ) (s : State) (lane : ℕ) (old new : Books) (known : KnownStamps) (shelf : OnShelf) (dir : DirState) (one : Event) (r : Result ℕ E)
    → StandsFor name_of s old.kept shelf known dir → OnOk r (new ≡ logged old (effect.adopted old.kept lane) one) → IfOk r (λ m. m ≡ old.kept.current)
    → IfOk r (λ m. Takes name_of s lane given.Adopt outcome.Done (outcome.At m) dir new.kept shelf known dir)
adopt_takes laws adopts name_of s lane old new known shelf dir one (Ok m) stands is at =
    let next = (calls.adopt s lane).plain.state in
    subst (λ (n : ℕ). Takes name_of s lane given.Adopt outcome.Done (outcome.At n) dir new.kept shelf known dir) (sym at)
    (unmoved_takes laws name_of s lane given.Adopt outcome.Done (outcome.At old.kept.current) next old.kept (effect.adopted old.kept lane) new.kept known shelf dir stands (stays_as s next refl refl refl) (record { publications = refl; pending = refl; records = refl })
    stands.staged (adopts name_of s lane old.kept stands.keeps) (ap (λ (b : Books). b.kept) is))
adopt_takes laws adopts name_of s lane old new known shelf dir one (Err e) stands is at = tt

pub release_takes : {E U : Type 0} (laws : Laws)
    (releases : (name_of : List ℕ → List ℕ) (s : State) (lane : ℕ) (kept : Kept) → Keeps name_of kept s → Makes name_of s lane given.Release outcome.Done outcome.Done (effect.released kept lane) (calls.release s lane).plain.state)
    (name_of : List ℕ → List ℕ) (s : State) (lane : ℕ) (old new : Books) (known : KnownStamps) (shelf : OnShelf) (dir : DirState) (one : Event) (r : Result U E)
    → StandsFor name_of s old.kept shelf known dir → OnOk r (new ≡ logged old (effect.released old.kept lane) one)
    → OnOk r (Takes name_of s lane given.Release outcome.Done outcome.Done dir new.kept shelf known dir)
release_takes laws releases name_of s lane old new known shelf dir one (Ok x) stands is =
    let next = (calls.release s lane).plain.state in
    unmoved_takes laws name_of s lane given.Release outcome.Done outcome.Done next old.kept (effect.released old.kept lane) new.kept known shelf dir stands (stays_as s next refl refl refl) (record { publications = refl; pending = refl; records = refl })
    stands.staged (releases name_of s lane old.kept stands.keeps) (ap (λ (b : Books). b.kept) is)
release_takes laws releases name_of s lane old new known shelf dir one (Err e) stands is = tt
