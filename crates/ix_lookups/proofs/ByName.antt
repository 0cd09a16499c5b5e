-- Look-ups by name.
use Rattle.std.proofs.Common.{◌≡◌, ◌↔◌, ℕ, ◌⊎◌, inl, inr, Bool, true, false, cond, List, [], ◌∷◌, map, Some, Contains, IsSome, refl, sym}
use Rattle.std.specs.Str.{bytes_eq}
use Rattle.std.specs.Map.{lookup}
use Rattle.std.specs.BTreeMap.{is_at}
use Rattle.std.specs.Option.{option_map}
use Rattle.ix_types.specs.Row.{text_cmp}
use Rattle.ix_record.specs.declared.value.RecordValue.{RecordValue}
use Rattle.ix_model.specs.declared.publication.StoredUnit.{StoredUnit}
use Rattle.ix_model.specs.Units.{Units}
use Rattle.ix_answers.specs.Batches.{unit_of}
use Rattle.ix_answers.proofs.Members.{Has, has, contains, same, equal}
use Rattle.ix_lookups.specs.Found.{unit, found_in}
use Rattle.ix_lookups.specs.Loaded.{Loaded, body_named, loaded_names}

pub unit-those : (units : Units) (name : List ℕ) → unit name (found_in units) ≡ unit_of name units
unit-those [] name = refl
unit-those (e ∷ es) name =
    elim (is_at (text_cmp name) e.0) as (λ b. cond b (Some e.1.unit) (unit name (found_in es)) ≡ option_map (λ (stored : StoredUnit). stored.unit) (cond b (Some e.1) (lookup (is_at (text_cmp name)) es))) [
      | true ↦ refl
      | false ↦ unit-those es name
    ]

abbrev Entries : Type 0
Entries = List (List ℕ × RecordValue)

body-in : (name : List ℕ) (es : Entries) → Has (map (λ (entry : List ℕ × RecordValue). entry.0) es) name → IsSome (lookup (bytes_eq name) es)
body-in name [] h = absurd h
body-in name (e ∷ es) h =
    (elim (bytes_eq name e.0) as (λ b. bytes_eq name e.0 ≡ b → IsSome (cond b (Some e.1) (lookup (bytes_eq name) es))) [
      | true ↦ λ t. refl
      | false ↦ λ f. further f (λ k. body-in name es k) h
    ]) refl
  where
    further : bytes_eq name e.0 ≡ false → (Has (map (λ (entry : List ℕ × RecordValue). entry.0) es) name → IsSome (lookup (bytes_eq name) es)) → (e.0 ≡ name) ⊎ Has (map (λ (entry : List ℕ × RecordValue). entry.0) es) name → IsSome (lookup (bytes_eq name) es)
    further f rest (inl p) = let t : bytes_eq name e.0 ≡ true = equal name e.0 (sym p) in absurd (cc)
    further f rest (inr k) = rest k

body-out : (name : List ℕ) (es : Entries) → IsSome (lookup (bytes_eq name) es) → Has (map (λ (entry : List ℕ × RecordValue). entry.0) es) name
body-out name [] s = absurd (cc)
body-out name (e ∷ es) s =
    (elim (bytes_eq name e.0) as (λ b. bytes_eq name e.0 ≡ b → IsSome (cond b (Some e.1) (lookup (bytes_eq name) es)) → (e.0 ≡ name) ⊎ Has (map (λ (entry : List ℕ × RecordValue). entry.0) es) name) [
      | true ↦ λ t k. inl (sym (same name e.0 t))
      | false ↦ λ f k. inr (body-out name es k)
    ]) refl s

pub loaded-those : (bodies : Loaded) (name : List ℕ) → Contains (loaded_names bodies) name ↔ IsSome (body_named name bodies)
loaded-those bodies name = (
  λ c. body-in name bodies.entries (has (loaded_names bodies) name c),
  λ s. contains (loaded_names bodies) name (body-out name bodies.entries s),
)

-- ---- what stands behind handles

pub viewed : {K A B : Type 0} (view : A → B) (test : K → Bool) (es : List (K × A)) → option_map view (lookup test es) ≡ lookup test (map (λ (e : K × A). (e.0, view e.1)) es)
viewed view test [] = refl
viewed view test (e ∷ es) =
    elim (test e.0) as (λ b. option_map view (cond b (Some e.1) (lookup test es)) ≡ cond b (Some (view e.1)) (lookup test (map (λ x. (x.0, view x.1)) es))) [
      | true ↦ refl
      | false ↦ viewed view test es
    ]

pub differ : (first second : List ℕ) → (second ≡ first → ⊥) → bytes_eq first second ≡ false
differ first second ne =
    (elim (bytes_eq first second) as (λ b. bytes_eq first second ≡ b → b ≡ false) [
      | true ↦ λ t. absurd (ne (sym (same first second t)))
      | false ↦ λ f. refl
    ]) refl
