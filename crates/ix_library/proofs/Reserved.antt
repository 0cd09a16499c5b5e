-- Room that a step makes, and files that it looks at, change nothing else.
use Rattle.std.proofs.Common.{◌≡◌, ℕ, List, refl, sym, ap, subst, ◌∙◌, Option, Some, None, true, [], is_some, unwrap_or, IfSome, IsSome, Result, Ok, Err, OnErr}
use Rattle.ix_dir.specs.declared.moves.Move.{Move}
use Rattle.ix_dir.specs.State.{DirState}
use Rattle.ix_dir.specs.WhatAChangeLeaves.{AddsTo, IfTold}
use Rattle.ix_unit.specs.Spelling.{UnitSpelling}
use Rattle.ix_shelf.specs.Shelf.{OnShelf}
use Rattle.ix_machine.specs.declared.event.Outcome.{Outcome}
use Rattle.ix_machine.specs.Given.{Given}
use Rattle.ix_machine.specs.State.{State}
use Rattle.ix_ledger.specs.Kept.{Kept, staged_in}
use Rattle.ix_stops.specs.Prefixes.{LeavesPrefixes}
use Rattle.ix_changes.specs.Holds.{Holds, Waits}
use Rattle.ix_library.specs.declared.known.KnownStamps.{KnownStamps}
use Rattle.ix_library.specs.Endings.{flag_for}
use Rattle.ix_library.specs.KnownUnits.{KnowsUnits}
use Rattle.ix_library.specs.StandsFor.{HasSlots, StandsFor, Takes}
use Rattle.ix_library.proofs.Slots.{SlotsApart, same_staged, staged_apart}

abbrev Slots : Type 0
Slots = ℕ → Option (List ℕ)

-- ---- the same moves and slots

module _ (name_of : List ℕ → List ℕ) (s : State) (known : KnownStamps) (before room : DirState) (moves : room.moves ≡ before.moves) (slots : room.slots ≡ before.slots) where
  -- behind it the library stands for the same state
  pub at_same : (old kept : Kept) (shelf : OnShelf) → kept ≡ old → StandsFor name_of s old shelf known before → StandsFor name_of s kept shelf known room
  at_same old kept shelf same stands =
      subst (λ (k : Kept). StandsFor name_of s k shelf known room) (sym same)
      (record {
        keeps = stands.keeps;
        holds = subst (Holds name_of s shelf) (sym moves) stands.holds;
        staged = λ lane unit staged. subst (λ (f : Slots). (is_some (f lane) ≡ true) × UnitSpelling (unwrap_or (f lane) []) unit) (sym slots) (stands.staged lane unit staged);
        knows = subst (λ (m : Option (List Move)). IfSome m (KnowsUnits name_of s known)) (sym moves) stands.knows;
      })

  -- and a step from behind it is one from before it
  pub from_same : (lane : ℕ) (given : Given) (flag how : Outcome) (now : Kept) (shelf : OnShelf) (after : DirState) → Takes name_of s lane given flag how room now shelf known after → Takes name_of s lane given flag how before now shelf known after
  from_same lane given flag how now shelf after t = record {
    next = t.next;
    taken = t.taken;
    stands = t.stands;
    adds = subst (λ (m : Option (List Move)). AddsTo m after.moves) moves t.adds;
    leaves = subst (λ (m : Option (List Move)). IfTold m after.moves (LeavesPrefixes name_of s.publications t.next.publications)) moves t.leaves;
    waits = subst (λ (m : Option (List Move)). IfSome m (Waits s) → IfSome after.moves (Waits t.next)) moves t.waits;
  }

  -- however it ended
  pub ends_from_same : (lane : ℕ) (given : Given) (now : Kept) (shelf : OnShelf) (after : DirState) (ending : Option Outcome) → IfSome ending (λ how. Takes name_of s lane given (flag_for how) how room now shelf known after)
      → IfSome ending (λ how. Takes name_of s lane given (flag_for how) how before now shelf known after)
  ends_from_same lane given now shelf after None t = tt
  ends_from_same lane given now shelf after (Some how) t = from_same lane given (flag_for how) how now shelf after t

-- ---- room

-- the slots are as before
pub ready_room : (old kept : Kept) (before room : DirState) → kept ≡ old → room ≡ record before { spare = room.spare } → HasSlots old before → HasSlots kept room
ready_room old kept before room same is has lane some =
    ap (λ (d : DirState). is_some (d.slots lane)) is ∙ has lane (subst (λ (k : Kept). IsSome (staged_in k lane)) same some)

module _ (name_of : List ℕ → List ℕ) (s : State) (known : KnownStamps) (before room : DirState) (is : room ≡ record before { spare = room.spare }) where
  pub at_room : (old kept : Kept) (shelf : OnShelf) → kept ≡ old → StandsFor name_of s old shelf known before → StandsFor name_of s kept shelf known room
  at_room = at_same name_of s known before room (ap (λ (d : DirState). d.moves) is) (ap (λ (d : DirState). d.slots) is)

  pub from_room : (lane : ℕ) (given : Given) (flag how : Outcome) (now : Kept) (shelf : OnShelf) (after : DirState) → Takes name_of s lane given flag how room now shelf known after → Takes name_of s lane given flag how before now shelf known after
  from_room = from_same name_of s known before room (ap (λ (d : DirState). d.moves) is) (ap (λ (d : DirState). d.slots) is)

  pub ends_from_room : (lane : ℕ) (given : Given) (now : Kept) (shelf : OnShelf) (after : DirState) (ending : Option Outcome) → IfSome ending (λ how. Takes name_of s lane given (flag_for how) how room now shelf known after)
      → IfSome ending (λ how. Takes name_of s lane given (flag_for how) how before now shelf known after)
  ends_from_room = ends_from_same name_of s known before room (ap (λ (d : DirState). d.moves) is) (ap (λ (d : DirState). d.slots) is)

-- ---- want of memory

-- what is kept, the moves and the shelf are as before, and so are the slots but for a lane that has staged nothing
pub again_apart : (name_of : List ℕ → List ℕ) (s : State) (known : KnownStamps) (old now : Kept) (shelf_before shelf : OnShelf) (lane : ℕ) (before after : DirState) → now ≡ old → shelf ≡ shelf_before → after.moves ≡ before.moves
    → SlotsApart lane before after → staged_in old lane ≡ None → StandsFor name_of s old shelf_before known before → StandsFor name_of s now shelf known after
again_apart name_of s known old now shelf_before shelf lane before after same same_shelf moves apart none stands =
    subst (λ (k : Kept). StandsFor name_of s k shelf known after) (sym same)
    (subst (λ (o : OnShelf). StandsFor name_of s old o known after) (sym same_shelf)
    (record {
      keeps = stands.keeps;
      holds = subst (Holds name_of s shelf_before) (sym moves) stands.holds;
      staged = staged_apart old old lane before after (same_staged old old refl) none apart stands.staged;
      knows = subst (λ (m : Option (List Move)). IfSome m (KnowsUnits name_of s known)) (sym moves) stands.knows;
    }))

-- the same where all slots are as before
pub again_same : (name_of : List ℕ → List ℕ) (s : State) (known : KnownStamps) (old now : Kept) (shelf_before shelf : OnShelf) (before after : DirState) → now ≡ old → shelf ≡ shelf_before → after.moves ≡ before.moves → after.slots ≡ before.slots
    → StandsFor name_of s old shelf_before known before → StandsFor name_of s now shelf known after
again_same name_of s known old now shelf_before shelf before after same same_shelf moves slots stands =
    subst (λ (o : OnShelf). StandsFor name_of s now o known after) (sym same_shelf) (at_same name_of s known before after moves slots old now shelf_before same stands)

-- the same for a step that calls no directory
pub again_kept : {U E : Type 0} (r : Result U E) (name_of : List ℕ → List ℕ) (s : State) (known : KnownStamps) (old now : Kept) (shelf : OnShelf) (dir : DirState) → OnErr r (now ≡ old) → StandsFor name_of s old shelf known dir → OnErr r (StandsFor name_of s now shelf known dir)
again_kept (Ok x) name_of s known old now shelf dir same stands = tt
again_kept (Err e) name_of s known old now shelf dir same stands = subst (λ (k : Kept). StandsFor name_of s k shelf known dir) (sym same) stands
