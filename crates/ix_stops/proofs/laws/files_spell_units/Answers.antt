use Rattle.std.proofs.Common.{◌≡◌, ◌⊎◌, inl, inr, ℕ, List, refl, sym, subst, Option, Some, None}
use Rattle.std.specs.FinMap.{get}
use Rattle.ix_dir.specs.Images.{Value}
use Rattle.ix_unit.specs.Spelling.{UnitSpelling}
use Rattle.ix_model.specs.declared.publication.StoredUnit.{StoredUnit}
use Rattle.ix_model.specs.Units.{unit_named}
use Rattle.ix_stops.specs.UnitFiles.{IsSpelledUnder}
use Rattle.ix_stops.proofs.laws.files_spell_units.Goals as goal

abbrev Both : (List ℕ → List ℕ) → List ℕ → Value → Option StoredUnit → Type 0
Both name_of name file unit =
    ((file ≡ None) × (unit ≡ None))
    ⊎ ((bytes : List ℕ) × (stored : StoredUnit) × (file ≡ Some bytes) × (unit ≡ Some stored) × UnitSpelling bytes stored.unit × (name ≡ name_of stored.unit.output))

apart : (name_of : List ℕ → List ℕ) (name : List ℕ) (file : Value) (unit : Option StoredUnit) → IsSpelledUnder name_of name file unit → Both name_of name file unit
apart name_of name None None h = inl (refl, refl)
apart name_of name None (Some u) h = absurd h
apart name_of name (Some b) None h = absurd h
apart name_of name (Some b) (Some u) h = inr (b, u, refl, refl, h.0, h.1)

together : (name_of : List ℕ → List ℕ) (name : List ℕ) (file : Value) (unit : Option StoredUnit) → Both name_of name file unit → IsSpelledUnder name_of name file unit
together name_of name file unit (inl none) = subst (IsSpelledUnder name_of name file) (sym none.1) (subst (λ v. IsSpelledUnder name_of name v None) (sym none.0) tt)
together name_of name file unit (inr h) =
    subst (IsSpelledUnder name_of name file) (sym h.3) (subst (λ v. IsSpelledUnder name_of name v (Some h.1)) (sym h.2) (h.4, h.5))

pub returns : goal.returns
returns c name_of files units = (
  λ spell name. apart name_of name (get files name) (unit_named name units) (spell name),
  λ both name. together name_of name (get files name) (unit_named name units) (both name),
)
