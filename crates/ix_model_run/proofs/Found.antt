-- Walks over units, one unit further.
use Rattle.std.proofs.Common.{◌≡◌, ◌||◌, ℕ, Bool, true, false, if◌then◌else◌, List, [], ◌∷◌, ◌++◌, Some, None, option_map, refl, ap, ◌∙◌}
use Rattle.std.specs.List.{find, list_any}
use Rattle.std.proofs.lemmas.List.Folds.{list_any-append}
use Rattle.std.specs.Str.{bytes_eq}
use Rattle.ix_model.specs.declared.publication.StoredUnit.{StoredUnit}
use Rattle.ix_model.specs.Units.{Units}
use Rattle.ix_machine.specs.Needs.{units_need}
use Rattle.ix_machine.specs.Step.{name_with_output}
use Rattle.ix_model_run.specs.Kept.{or_named}

module _ (output : List ℕ) where
  one : (b : Bool) (entry : List ℕ × StoredUnit) → option_map (λ (e : List ℕ × StoredUnit). e.0) (if b then Some entry else None) ≡ (if b then Some entry.0 else None)
  one true entry = refl
  one false entry = refl

  first_of : (b : Bool) (before : Units) (first entry : List ℕ × StoredUnit) → name_with_output output (before ++ entry ∷ []) ≡ or_named output (name_with_output output before) entry
      → option_map (λ (e : List ℕ × StoredUnit). e.0) (if b then Some first else find (λ (e : List ℕ × StoredUnit). bytes_eq e.1.unit.output output) (before ++ entry ∷ []))
      ≡ or_named output (option_map (λ (e : List ℕ × StoredUnit). e.0) (if b then Some first else find (λ (e : List ℕ × StoredUnit). bytes_eq e.1.unit.output output) before)) entry
  first_of true before first entry e = refl
  first_of false before first entry e = e

  pub named_next : (before : Units) (entry : List ℕ × StoredUnit) → name_with_output output (before ++ entry ∷ []) ≡ or_named output (name_with_output output before) entry
  named_next [] entry = one (bytes_eq entry.1.unit.output output) entry
  named_next (first ∷ before) entry = first_of (bytes_eq first.1.unit.output output) before first entry (named_next before entry)

pub needs_next : (name : List ℕ) (before : Units) (entry : List ℕ × StoredUnit)
    → units_need name (before ++ entry ∷ []) ≡ (units_need name before || list_any (λ dep. bytes_eq dep.name name) entry.1.unit.records)
needs_next name before entry =
    list_any-append (λ (e : List ℕ × StoredUnit). list_any (λ dep. bytes_eq dep.name name) e.1.unit.records) before (entry ∷ [])
    ∙ ap (λ (b : Bool). units_need name before || b) (last (list_any (λ dep. bytes_eq dep.name name) entry.1.unit.records))
  where
    last : (b : Bool) → (b || false) ≡ b
    last true = refl
    last false = refl
