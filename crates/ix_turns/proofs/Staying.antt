-- A library stands for a state as long as what is kept, and the moves and the slots of its directory, stay as they are.
use Rattle.std.proofs.Common.{◌≡◌, ℕ, List, Option, IfSome, is_some, unwrap_or, sym, subst, true, []}
use Rattle.ix_dir.specs.declared.moves.Move.{Move}
use Rattle.ix_dir.specs.State.{DirState}
use Rattle.ix_shelf.specs.Shelf.{OnShelf}
use Rattle.ix_unit.specs.Spelling.{UnitSpelling}
use Rattle.ix_machine.specs.State.{State}
use Rattle.ix_ledger.specs.Kept.{Kept}
use Rattle.ix_changes.specs.Holds.{Holds}
use Rattle.ix_library.specs.declared.known.KnownStamps.{KnownStamps}
use Rattle.ix_library.specs.KnownUnits.{KnowsUnits}
use Rattle.ix_library.specs.StandsFor.{StandsFor}

module _ (name_of : List ℕ → List ℕ) (s : State) where
  over : (kept : Kept) (shelf : OnShelf) (known : KnownStamps) (before after : DirState) → after.moves ≡ before.moves → after.slots ≡ before.slots
      → StandsFor name_of s kept shelf known before → StandsFor name_of s kept shelf known after
  over kept shelf known before after moves slots stands = record {
    keeps = stands.keeps;
    holds = subst (λ (m : Option (List Move)). Holds name_of s shelf m) (sym moves) stands.holds;
    staged = λ lane unit staged.
        subst (λ (at : ℕ → Option (List ℕ)). (is_some (at lane) ≡ true) × UnitSpelling (unwrap_or (at lane) []) unit) (sym slots) (stands.staged lane unit staged);
    knows = subst (λ (m : Option (List Move)). IfSome m (KnowsUnits name_of s known)) (sym moves) stands.knows;
  }

  pub stays : (kept now : Kept) (shelf shelf_now : OnShelf) (known known_now : KnownStamps) (before after : DirState) → now ≡ kept → shelf_now ≡ shelf → known_now ≡ known
      → after.moves ≡ before.moves → after.slots ≡ before.slots → StandsFor name_of s kept shelf known before → StandsFor name_of s now shelf_now known_now after
  stays kept now shelf shelf_now known known_now before after is shelf_is known_is moves slots stands =
      subst (λ (k : Kept). StandsFor name_of s k shelf_now known_now after) (sym is)
      (subst (λ (h : OnShelf). StandsFor name_of s kept h known_now after) (sym shelf_is)
      (subst (λ (n : KnownStamps). StandsFor name_of s kept shelf n after) (sym known_is)
      (over kept shelf known before after moves slots stands)))
