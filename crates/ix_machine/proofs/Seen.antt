-- The plain machine's maps of units, and the units of the definitions.
use Rattle.std.proofs.Common.{◌≡◌, ℕ, ◌+◌, ◌<◌, ◌≤◌, Bool, true, false, cond, ◌||◌, List, [], ◌∷◌, length, map, take, drop, drop-cons, get_or, filter, add-one, fold, Ordering, Less, Equal, Greater, Option, Some, None, option_map, Bor, zero, suc, refl, sym, ap, ◌∙◌, arith}
use Rattle.std.specs.List.{list_any}
use Rattle.std.specs.Map.{lookup, remove_entry}
use Rattle.std.specs.BTreeMap.{insert_entry, is_at}
use Rattle.std.specs.Ordering.{match_ordering}
use Rattle.std.specs.Str.{bytes_eq}
use Rattle.std.specs.declared.sync.Arc.{Arc}
use Rattle.std.specs.declared.alloc.Global.{Global}
use Rattle.std.proofs.lemmas.List.{take-map}
use Rattle.ix_types.specs.Row.{text_cmp}
use Rattle.ix_unit.specs.declared.value.UnitValue.{UnitValue}
use Rattle.ix_model.specs.declared.publication.StoredUnit.{StoredUnit}
use Rattle.ix_model.specs.declared.publication.Publication.{Publication}
use Rattle.ix_model.specs.declared.publication.Publication.TheVariants as model
use Rattle.ix_model.specs.Units.{Units, changed, units_at}
use Rattle.ix_machine.specs.declared.units.Change.{Change}
use Rattle.ix_machine.specs.declared.parts.Import as code_import
use Rattle.ix_machine.specs.Needs.{option_any, units_need}
use Rattle.ix_machine.specs.Plain.{publication_of, UnitMap, unit_map, changed_map}
use Rattle.ix_machine.specs.PlainMap.{shown}
use Rattle.ix_machine.specs.PlainState.{import_seen}

-- entries whose values are seen by f
abbrev pub seen_by : {X Y : Type 0} → (X → Y) → List (List ℕ × X) → List (List ℕ × Y)
seen_by f entries = map (λ e. (e.0, f e.1)) entries

seen_by-match : {X Y : Type 0} (f : X → Y) (o : Ordering) (a b c : List (List ℕ × X)) → seen_by f (match_ordering o a b c) ≡ match_ordering o (seen_by f a) (seen_by f b) (seen_by f c)
seen_by-match f Less a b c = refl
seen_by-match f Equal a b c = refl
seen_by-match f Greater a b c = refl

pub seen_by-insert_entry : {X Y : Type 0} (f : X → Y) (entries : List (List ℕ × X)) (k : List ℕ) (v : X)
    → seen_by f (insert_entry text_cmp entries k v) ≡ insert_entry text_cmp (seen_by f entries) k (f v)
seen_by-insert_entry f [] k v = refl
seen_by-insert_entry f (e ∷ entries) k v =
    seen_by-match f (text_cmp k e.0) ((k, v) ∷ e ∷ entries) ((e.0, v) ∷ entries) (e ∷ insert_entry text_cmp entries k v)
    ∙ ap (λ rest. match_ordering (text_cmp k e.0) ((k, f v) ∷ seen_by f (e ∷ entries)) ((e.0, f v) ∷ seen_by f entries) ((e.0, f e.1) ∷ rest)) (seen_by-insert_entry f entries k v)

pub seen_by-remove_entry : {X Y : Type 0} (f : X → Y) (test : List ℕ → Bool) (entries : List (List ℕ × X)) → seen_by f (remove_entry test entries) ≡ remove_entry test (seen_by f entries)
seen_by-remove_entry f test [] = refl
seen_by-remove_entry f test (e ∷ entries) =
    elim (test e.0) as (λ b. seen_by f (cond b entries (e ∷ remove_entry test entries)) ≡ cond b (seen_by f entries) ((e.0, f e.1) ∷ remove_entry test (seen_by f entries))) [
      | true ↦ refl
      | false ↦ ap (λ rest. (e.0, f e.1) ∷ rest) (seen_by-remove_entry f test entries)
    ]

pub lookup-seen_by : {X Y : Type 0} (f : X → Y) (test : List ℕ → Bool) (entries : List (List ℕ × X)) → lookup test (seen_by f entries) ≡ option_map f (lookup test entries)
lookup-seen_by f test [] = refl
lookup-seen_by f test (e ∷ entries) =
    elim (test e.0) as (λ b. cond b (Some (f e.1)) (lookup test (seen_by f entries)) ≡ option_map f (cond b (Some e.1) (lookup test entries))) [
      | true ↦ refl
      | false ↦ lookup-seen_by f test entries
    ]

unit_in : StoredUnit → UnitValue
unit_in stored = stored.unit

-- ---- the units after some changes

-- one change more
map-changed : (units : Units) (p : Publication) → unit_map (changed units p) ≡ changed_map (unit_map units) p
map-changed units (model.Put name stored) = seen_by-insert_entry (λ (s : StoredUnit). s.unit) units name stored
map-changed units (model.Gone name) = seen_by-remove_entry (λ (s : StoredUnit). s.unit) (is_at (text_cmp name)) units

map-folded : (units : Units) (ps : List Publication) → unit_map (fold changed units ps) ≡ fold changed_map (unit_map units) ps
map-folded units [] = refl
map-folded units (p ∷ ps) = map-folded (changed units p) ps ∙ ap (λ (m : UnitMap). fold changed_map m ps) (map-changed units p)

-- the maps after the changes so far
abbrev pub map_after : List Change → UnitMap
map_after changes = fold changed_map [] (map publication_of changes)

pub map_at : (changes : List Change) (mark : ℕ) → unit_map (units_at (map publication_of changes) mark) ≡ map_after (take mark changes)
map_at changes mark =
    map-folded [] (take mark (map publication_of changes))
    ∙ ap (fold changed_map []) (take-map publication_of mark changes)

pub take-all : {X : Type 0} (n : ℕ) (xs : List X) → length xs ≤ n → take n xs ≡ xs
take-all zero [] h = refl
take-all zero (x ∷ xs) h = absurd (omega arith)
take-all (suc n) [] h = refl
take-all (suc n) (x ∷ xs) h = ap (λ rest. x ∷ rest) (take-all n xs (omega arith))

-- ---- what they need

pub any-map : {X Y : Type 0} (test : Y → Bool) (f : X → Y) (xs : List X) → list_any test (map f xs) ≡ list_any (λ x. test (f x)) xs
any-map test f [] = refl
any-map test f (x ∷ xs) = ap (λ b. test (f x) || b) (any-map test f xs)

pub needs-shown : (name : List ℕ) (entries : List (List ℕ × Bor (Arc UnitValue Global))) (units : Units) → shown entries ≡ unit_map units
    → list_any (λ (b : Bor (Arc UnitValue Global)). list_any (λ dep. bytes_eq dep.name name) b.now.value.records) (map (λ e. e.1) entries) ≡ units_need name units
needs-shown name entries units same =
    any-map (λ (b : Bor (Arc UnitValue Global)). list_any (λ dep. bytes_eq dep.name name) b.now.value.records) (λ (e : List ℕ × Bor (Arc UnitValue Global)). e.1) entries
    ∙ (sym (any-map (λ (e : List ℕ × UnitValue). list_any (λ dep. bytes_eq dep.name name) e.1.records) (λ (e : List ℕ × Bor (Arc UnitValue Global)). (e.0, e.1.now.value)) entries)
    ∙ (ap (list_any (λ (e : List ℕ × UnitValue). list_any (λ dep. bytes_eq dep.name name) e.1.records)) same
    ∙ any-map (λ (e : List ℕ × UnitValue). list_any (λ dep. bytes_eq dep.name name) e.1.records) (λ (e : List ℕ × StoredUnit). (e.0, e.1.unit)) units))

-- the mark of an import, as the code has it and as the definitions do
pub import-any : (test : ℕ → Bool) (o : Option code_import.Import) → option_any test (option_map (λ i. i.mark) o) ≡ option_any (λ i. test i.mark) (option_map import_seen o)
import-any test None = refl
import-any test (Some i) = refl

-- the next one of those that pass
pub next-passing : (p : List ℕ → Bool) (xs : List (List ℕ)) (i : ℕ) (x : List ℕ) → x ≡ get_or xs i x → i < length xs
    → filter p (drop i xs) ≡ cond (p x) (x ∷ filter p (drop (i + 1) xs)) (filter p (drop (i + 1) xs))
next-passing p xs i x is below =
    ap (filter p) (drop-cons xs i x below)
    ∙ (ap (λ (y : List ℕ). filter p (y ∷ drop (suc i) xs)) (sym is)
    ∙ ap (λ (n : ℕ). filter p (x ∷ drop n xs)) (sym (add-one i)))
