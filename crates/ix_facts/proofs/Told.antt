-- A store over a directory that tells its moves.
use Rattle.std.proofs.Common.{◌≡◌, ◌⊎◌, inl, inr, ℕ, List, length, Option, Some, IfSome, sym, subst, ◌∙◌}
use Rattle.std.proofs.lemmas.Option.{same_Some}
use Rattle.ix_dir.specs.declared.moves.Move.{Move}
use Rattle.ix_dir.specs.State.{DirState}
use Rattle.ix_shelf.specs.Shelf.{OnShelf}
use Rattle.ix_model.specs.Units.{units_at}
use Rattle.ix_machine.specs.Sound.{NeededStand, RecordsStand}
use Rattle.ix_machine.specs.State.{Import, State, held_by}
use Rattle.ix_ledger.specs.Kept.{Kept}
use Rattle.ix_stops.specs.Stands.{StandsOnDisk}
use Rattle.ix_library.specs.declared.known.KnownStamps.{KnownStamps}
use Rattle.ix_library.specs.KnownUnits.{KnowsUnits}
use Rattle.ix_library.specs.StandsFor.{StandsFor}

module _ (name_of : List ℕ → List ℕ) (s : State) (kept : Kept) (shelf : OnShelf) (known : KnownStamps) (dir : DirState) (moves : List Move) (stands : StandsFor name_of s kept shelf known dir) (told : dir.moves ≡ Some moves) where
  pub on_disk : StandsOnDisk name_of s moves
  on_disk = subst (StandsOnDisk name_of s) (same_Some stands.holds.told moves (sym stands.holds.is ∙ told)) stands.holds.stands

  pub stamps_known : KnowsUnits name_of s known moves
  stamps_known = subst (λ (o : Option (List Move)). IfSome o (KnowsUnits name_of s known)) told stands.knows

module _ (name_of : List ℕ → List ℕ) (s : State) (needed : NeededStand name_of s) (mark : ℕ) where
  abbrev Stand : ℕ → Type 0
  Stand m = RecordsStand name_of s.records (units_at s.publications m)

  -- the mark is one of those whose units' records must stay
  abbrev pub IsKeptMark : Type 0
  IsKeptMark = (mark ≡ length s.publications) ⊎ ((s.pending ≡ Some mark) ⊎ (((open_import : Import) × (s.import ≡ Some open_import) × (open_import.mark ≡ mark)) ⊎ ((s.current ≡ mark) ⊎ ((lane : ℕ) × (held_by s lane ≡ Some mark)))))

  pub stand_at : IsKeptMark → RecordsStand name_of s.records (units_at s.publications mark)
  stand_at (inl all) = subst Stand (sym all) needed.visible_ones
  stand_at (inr (inl pends)) = subst (λ (o : Option ℕ). IfSome o Stand) pends needed.pending
  stand_at (inr (inr (inl imported))) = subst Stand imported.2 (subst (λ (o : Option Import). IfSome o (λ (i : Import). Stand i.mark)) imported.1 needed.imported)
  stand_at (inr (inr (inr (inl current)))) = subst Stand current needed.current
  stand_at (inr (inr (inr (inr held)))) = subst (λ (o : Option ℕ). IfSome o Stand) held.1 (needed.held held.0)
