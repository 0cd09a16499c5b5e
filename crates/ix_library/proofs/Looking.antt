-- A step of the library that looks at files and makes no move.
use Rattle.std.proofs.Common.{◌≡◌, ℕ, List, sym, subst, Option, IfSome}
use Rattle.ix_dir.specs.declared.moves.Move.{Move}
use Rattle.ix_dir.specs.State.{DirState}
use Rattle.ix_dir.specs.WhatAChangeLeaves.{AddsTo, IfTold}
use Rattle.ix_shelf.specs.Shelf.{OnShelf}
use Rattle.ix_machine.specs.declared.event.Outcome.{Outcome}
use Rattle.ix_machine.specs.Given.{Given}
use Rattle.ix_machine.specs.State.{State}
use Rattle.ix_ledger.specs.Kept.{Kept}
use Rattle.ix_ledger.specs.OfState.{Makes}
use Rattle.ix_stops.specs.Prefixes.{LeavesPrefixes}
use Rattle.ix_changes.specs.Holds.{Holds, Waits, IsAlikeOnDisk}
use Rattle.ix_library.specs.declared.known.KnownStamps.{KnownStamps}
use Rattle.ix_library.specs.Given.{Laws}
use Rattle.ix_library.specs.KnownUnits.{KnowsUnits}
use Rattle.ix_library.specs.StandsFor.{HasSlots, StandsFor, Takes}
use Rattle.ix_library.proofs.Slots.{same_staged, staged_same, slots_same}
use Rattle.ix_library.proofs.Taking.{none_added}

-- the directory has the moves and the slots that it had
pub record IsLook (before after : DirState) : Type 0 where
  pub moves : after.moves ≡ before.moves
  pub slots : after.slots ≡ before.slots

-- the lanes have staged what they had
pub ready_as : (old now : Kept) (before after : DirState) → IsLook before after → now.staged ≡ old.staged → HasSlots old before → HasSlots now after
ready_as old now before after look same has = slots_same old now before after (same_staged old now same) look.slots has

pub look_takes : (laws : Laws) (name_of : List ℕ → List ℕ) (s : State) (lane : ℕ) (given : Given) (flag how : Outcome) (next : State) (old kept now : Kept) (known known_now : KnownStamps) (shelf : OnShelf) (before after : DirState)
    → StandsFor name_of s old shelf known before → IsLook before after → IsAlikeOnDisk s next → kept.staged ≡ old.staged → Makes name_of s lane given flag how kept next → now ≡ kept → IfSome before.moves (KnowsUnits name_of next known_now)
    → Takes name_of s lane given flag how before now shelf known_now after
look_takes laws name_of s lane given flag how next old kept now known known_now shelf before after stands look alike staged makes is knows =
    let leads = laws.unmoved name_of s next shelf before.moves stands.holds alike in
    subst (λ (k : Kept). Takes name_of s lane given flag how before k shelf known_now after) (sym is)
    (record {
      next = next;
      taken = makes.taken;
      stands = record {
        keeps = makes.keeps;
        holds = subst (λ (m : Option (List Move)). Holds name_of next shelf m) (sym look.moves) leads.holds;
        staged = staged_same old kept before after (same_staged old kept staged) look.slots stands.staged;
        knows = subst (λ (m : Option (List Move)). IfSome m (KnowsUnits name_of next known_now)) (sym look.moves) knows;
      };
      adds = subst (λ (m : Option (List Move)). AddsTo before.moves m) (sym look.moves) (none_added before.moves);
      leaves = subst (λ (m : Option (List Move)). IfTold before.moves m (LeavesPrefixes name_of s.publications next.publications)) (sym look.moves) leads.leaves;
      waits = subst (λ (m : Option (List Move)). IfSome before.moves (Waits s) → IfSome m (Waits next)) (sym look.moves) leads.waits;
    })
