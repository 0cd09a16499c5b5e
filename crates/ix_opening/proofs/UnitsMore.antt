-- Units that were found, one more at a time.
use Rattle.std.proofs.Common.{◌≡◌, ℕ, List, ◌++◌, sym, subst, ◌∙◌, Option, Some, None, IfSome, All, length, take, ◌≤◌}
use Rattle.std.proofs.lemmas.List.Elements.{All-push}
use Rattle.std.proofs.lemmas.Option.{same_Some}
use Rattle.ix_dir.specs.declared.area.Area.TheVariants.{Units}
use Rattle.ix_dir.specs.declared.dir.Listed.{Listed}
use Rattle.ix_dir.specs.declared.moves.Move.{Move}
use Rattle.ix_dir.specs.Files.{bytes_at, listed_of, IsRising}
use Rattle.ix_dir.specs.Moves.{area_after}
use Rattle.ix_unit.specs.declared.batch.UnitPut.{UnitPut}
use Rattle.ix_cabinet.specs.Scan.{IsNamedUnit, IsUnitAt}
use Rattle.ix_machine.specs.State.{Files}
use Rattle.ix_opening.specs.declared.looking.Found.{Found}
use Rattle.ix_opening.specs.declared.looking.Progress.{Progress}
use Rattle.ix_opening.specs.declared.units.Judged.{Judged}
use Rattle.ix_opening.specs.declared.units.Judged.TheVariants as taken
use Rattle.ix_opening.specs.Found.{IsFound}
use Rattle.ix_opening.specs.Judged.{IsUnitOf}
use Rattle.ix_opening.specs.Known.{AreRead, Agrees}
use Rattle.ix_opening.specs.Steps.{AreGiven, IsSoFar, puts_of}
use Rattle.ix_opening.proofs.AllFound.{all_found}
use Rattle.ix_opening.proofs.RecordsOfAUnit.{take_full}
use Rattle.ix_opening.proofs.Steps.{append_none}

pub applied : (before now : Option (List Move)) (P Q : List Move → Type 0) → now ≡ before → IfSome now (λ m. P m → Q m) → IfSome before P → IfSome before Q
applied None now P Q is step so_far = tt
applied (Some m) None P Q is step so_far = cc
applied (Some m) (Some n) P Q is step so_far = subst (λ x. P x → Q x) (same_Some n m is) step so_far

module _ (name_of : List ℕ → List ℕ) (name bytes : List ℕ) where
  unit_at : (m : List Move) (taken : Judged) (old new : List UnitPut) → new ≡ old ++ puts_of name taken → IsUnitOf name_of name bytes taken → Some bytes ≡ bytes_at (area_after m Units) name
      → All (IsUnitAt (area_after m Units)) old → All (IsUnitAt (area_after m Units)) new
  unit_at m (taken.Sound unit) old new is of stands all =
      subst (All (IsUnitAt (area_after m Units))) (sym is)
      (All-push (IsUnitAt (area_after m Units)) old (record { name = name; unit = unit }) all (record { bytes = bytes; stands = sym stands; spelled = of.0 }))
  unit_at m (taken.Refused fault) old new is of stands all = subst (All (IsUnitAt (area_after m Units))) (sym (is ∙ append_none old)) all

  pub units_at : (moves : Option (List Move)) (taken : Judged) (old new : List UnitPut) → new ≡ old ++ puts_of name taken → IsUnitOf name_of name bytes taken
      → IfSome moves (λ m. Some bytes ≡ bytes_at (area_after m Units) name) → IfSome moves (λ m. All (IsUnitAt (area_after m Units)) old → All (IsUnitAt (area_after m Units)) new)
  units_at None taken old new is of stands = tt
  units_at (Some m) taken old new is of stands = unit_at m taken old new is of stands

  pub units_named : (taken : Judged) (old new : List UnitPut) → new ≡ old ++ puts_of name taken → IsUnitOf name_of name bytes taken → All (IsNamedUnit name_of) old → All (IsNamedUnit name_of) new
  units_named (taken.Sound unit) old new is of all =
      subst (All (IsNamedUnit name_of)) (sym is) (All-push (IsNamedUnit name_of) old (record { name = name; unit = unit }) all (record { valid = of.0.valid; named = of.1 }))
  units_named (taken.Refused fault) old new is of all = subst (All (IsNamedUnit name_of)) (sym (is ∙ append_none old)) all

-- at the end of the list
pub looked : (name_of : List ℕ → List ℕ) (moves told : Option (List Move)) (listed items : List Listed) (i : ℕ) (files : Files) (look : Progress) (found : Found) → told ≡ moves → items ≡ listed → length items ≤ i
    → IfSome moves (λ m. listed ≡ listed_of (area_after m Units)) → IsRising listed → AreGiven told (take i items) files → AreRead name_of told look.known.entries
    → ((records : Files) → Agrees name_of look.known.entries records → IsSoFar name_of files records look)
    → found.units ≡ look.units.items → found.refused ≡ look.refused.items → IsFound name_of moves found
looked name_of moves told listed items i files look found told_is items_is all lists rising given read so_far units refused =
    all_found name_of moves listed files look found lists rising
    (subst (λ mv. AreGiven mv listed files) told_is (subst (λ xs. AreGiven told xs files) (take_full items i all ∙ items_is) given))
    (subst (λ mv. AreRead name_of mv look.known.entries) told_is read) so_far units refused
