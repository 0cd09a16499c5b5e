-- The rows that pass a test stand in the records that are needed.
use Rattle.std.proofs.Common.{◌≡◌, ◌↔◌, ℕ, ◌⊎◌, inl, inr, Bool, true, false, cond, ◌&&◌, ◌||◌, ◌==◌, if◌then◌else◌, List, [], ◌∷◌, length, map, filter, Option, Some, None, Contains, refl, sym, ap, ◌∙◌, subst}
use Rattle.std.specs.List.{flat_map, list_any}
use Rattle.std.specs.Str.{bytes_eq}
use Rattle.std.specs.Map.{lookup}
use Rattle.ix_types.specs.Codes.{has_any}
use Rattle.ix_types.specs.declared.code.TheConstants.Roles.{DECLARATION, DEFINITION, CALLED_BY}
use Rattle.ix_types.specs.declared.row.OccRow.{OccRow}
use Rattle.ix_record.specs.declared.value.RecordValue.{RecordValue}
use Rattle.ix_unit.specs.declared.value.RecordDep.{RecordDep}
use Rattle.ix_model.specs.Answer.{is_with, definitions}
use Rattle.ix_model.specs.Rows.{rows_of_record, rows}
use Rattle.ix_model.specs.Units.{Units}
use Rattle.ix_answers.specs.Answers.{is_related, is_called, is_declared_in}
use Rattle.ix_answers.specs.Lookups.{providers, related, in_path, paths}
use Rattle.ix_answers.specs.Meanings.{IsRecord, IsProvider, IsRelated, ListsUnder}
use Rattle.ix_answers.specs.Rising.{AreLoaded}
use Rattle.ix_answers.proofs.Members.{Has, has, contains, flat_map-in, flat_map-out, filter-in, filter-out, both-true, same, equal}
use Rattle.ix_lookups.specs.Found.{found_in}
use Rattle.ix_lookups.specs.Loaded.{Loaded, body_named, loaded_names}
use Rattle.ix_needs.specs.Chosen.{rows_at, loaded_rows, rows_under, with_role, with_relation, defining_rows}
use Rattle.ix_needs.specs.Premises.{Holds}
use Rattle.ix_needs.proofs.Sets.{AreAlike, empty_together}
use Rattle.ix_needs.proofs.Rows.{IsRowOf, row-out, row-in, listed_value, lists_path, row-path, row-provided, row-related}

-- of the law of look-ups
abbrev pub ProvidersAre : Type 0
ProvidersAre = (units : Units) (usr name : List ℕ) → Contains (providers usr units) name ↔ IsProvider units usr name

abbrev pub RelatedAre : Type 0
RelatedAre = (units : Units) (usr name : List ℕ) → Contains (related usr units) name ↔ IsRelated units usr name

abbrev pub InPathAre : Type 0
InPathAre = (units : Units) (path name : List ℕ) → Contains (in_path path units) name ↔ ListsUnder units path name

abbrev pub PathsAre : Type 0
PathsAre = (units : Units) (name path : List ℕ) → Contains (paths name units) path ↔ ListsUnder units path name

-- ---- loaded bodies

body-in : (name : List ℕ) (es : List (List ℕ × RecordValue)) → Has (map (λ (entry : List ℕ × RecordValue). entry.0) es) name → (value : RecordValue) × (lookup (bytes_eq name) es ≡ Some value)
body-in name [] h = absurd h
body-in name (e ∷ es) h =
    (elim (bytes_eq name e.0) as (λ b. bytes_eq name e.0 ≡ b → (value : RecordValue) × (cond b (Some e.1) (lookup (bytes_eq name) es) ≡ Some value)) [
      | true ↦ λ t. (e.1, refl)
      | false ↦ λ f. further f (λ k. body-in name es k) h
    ]) refl
  where
    further : bytes_eq name e.0 ≡ false → (Has (map (λ (entry : List ℕ × RecordValue). entry.0) es) name → (value : RecordValue) × (lookup (bytes_eq name) es ≡ Some value))
        → (e.0 ≡ name) ⊎ Has (map (λ (entry : List ℕ × RecordValue). entry.0) es) name → (value : RecordValue) × (lookup (bytes_eq name) es ≡ Some value)
    further f rest (inl p) = let t : bytes_eq name e.0 ≡ true = equal name e.0 (sym p) in absurd (cc)
    further f rest (inr k) = rest k

pub loaded-body : (bodies : Loaded) (name : List ℕ) → Contains (loaded_names bodies) name → (value : RecordValue) × (body_named name bodies ≡ Some value)
loaded-body bodies name c = body-in name bodies.entries (has (loaded_names bodies) name c)

-- ---- the rows of a loaded record

record IsLoadedRow (test : OccRow → Bool) (ps : List (List ℕ)) (o : Option RecordValue) (row : OccRow) : Type 0 where
  value : RecordValue
  is_loaded : o ≡ Some value
  path : List ℕ
  has_path : Has ps path
  is_row : Has (rows_of_record path value) row
  passes : test row ≡ true

at-out : (test : OccRow → Bool) (ps : List (List ℕ)) (o : Option RecordValue) (row : OccRow) → Has (rows_at test ps o) row → IsLoadedRow test ps o row
at-out test ps None row h = absurd h
at-out test ps (Some value) row h =
    let p = flat_map-out (λ path. filter test (rows_of_record path value)) ps row h in
    let f = filter-out test (rows_of_record p.0 value) row p.2 in
    record { value = value; is_loaded = refl; path = p.0; has_path = p.1; is_row = f.0; passes = f.1 }

at-in : (test : OccRow → Bool) (ps : List (List ℕ)) (value : RecordValue) (row : OccRow) (path : List ℕ) → Has ps path → Has (rows_of_record path value) row → test row ≡ true → Has (rows_at test ps (Some value)) row
at-in test ps value row path h k t = flat_map-in (λ path. filter test (rows_of_record path value)) ps path row h (filter-in test (rows_of_record path value) row k t)

-- ---- the rows of all units that pass a test, from the bodies of records

module _ (units : Units) (bodies : Loaded) (holds : Holds units bodies) where
  module _ (test : OccRow → Bool) (paths_of : List ℕ → List (List ℕ)) (names : List (List ℕ)) where
    abbrev chosen : List OccRow
    chosen = flat_map (λ name. rows_at test (paths_of name) (body_named name bodies)) names

    chosen-out : ((name path : List ℕ) → Has names name → Has (paths_of name) path → ListsUnder units path name) → (row : OccRow) → Has chosen row → Has (filter test (rows units)) row
    chosen-out listed row h =
        let n = flat_map-out (λ name. rows_at test (paths_of name) (body_named name bodies)) names row h in
        let r = at-out test (paths_of n.0) (body_named n.0 bodies) row n.2 in
        let l = listed_value units holds.valued r.path n.0 (listed n.0 r.path n.1 r.has_path) in
        let body : body_named l.0.name bodies ≡ Some r.value = ap (λ (name : List ℕ). body_named name bodies) l.4 ∙ r.is_loaded in
        let is : l.1 ≡ r.value = holds.bodies_are l.0 l.1 r.value l.2 body in
        let moved : Has (rows_of_record l.0.path l.1) row = subst (λ (path : List ℕ). Has (rows_of_record path l.1) row) (sym l.3) (subst (λ (v : RecordValue). Has (rows_of_record r.path v) row) (sym is) r.is_row) in
        filter-in test (rows units) row (row-in units row l.0 l.1 l.2 moved) r.passes

    chosen-in : AreLoaded (loaded_names bodies) names
        → ((dep : RecordDep) (value : RecordValue) (row : OccRow) → IsRecord units dep value → Has (rows_of_record dep.path value) row → test row ≡ true → Has names dep.name × Has (paths_of dep.name) dep.path)
        → (row : OccRow) → Has (filter test (rows units)) row → Has chosen row
    chosen-in loaded needed row h =
        let f = filter-out test (rows units) row h in
        let r = row-out units row f.0 in
        let n = needed r.dep r.value row r.of_units r.is_row f.1 in
        let b = loaded-body bodies r.dep.name (loaded r.dep.name (contains names r.dep.name n.0)) in
        let is : r.value ≡ b.0 = holds.bodies_are r.dep r.value b.0 r.of_units b.1 in
        let moved : Has (rows_of_record r.dep.path b.0) row = subst (λ (v : RecordValue). Has (rows_of_record r.dep.path v) row) is r.is_row in
        flat_map-in (λ name. rows_at test (paths_of name) (body_named name bodies)) names r.dep.name row n.0
        (subst (λ (o : Option RecordValue). Has (rows_at test (paths_of r.dep.name) o) row) (sym b.1) (at-in test (paths_of r.dep.name) b.0 row r.dep.path n.1 moved f.1))

  -- ---- by the records of a look-up

  module _ (paths_are : PathsAre) where
    all_paths : (names : List (List ℕ)) (name path : List ℕ) → Has names name → Has (paths name units) path → ListsUnder units path name
    all_paths names name path h k = (paths_are units name path).0 (contains (paths name units) path k)

    listed_at : (dep : RecordDep) (value : RecordValue) → IsRecord units dep value → Has (paths dep.name units) dep.path
    listed_at dep value i = has (paths dep.name units) dep.path ((paths_are units dep.name dep.path).1 (lists_path units dep value i))

    -- rows of a USR
    module _ (providers_are : ProvidersAre) (usr : List ℕ) (loaded : AreLoaded (loaded_names bodies) (providers usr units)) where
      pub of_usr : (test : OccRow → Bool) → ((row : OccRow) → test row ≡ true → row.usr ≡ usr) → AreAlike (loaded_rows test (providers usr units) (found_in units) bodies) (filter test (rows units))
      of_usr test names = record {
        there = λ row h. chosen-out test (λ name. paths name units) (providers usr units) (λ name path k l. all_paths (providers usr units) name path k l) row h;
        back = λ row h. chosen-in test (λ name. paths name units) (providers usr units) loaded
            (λ dep value row i k t. (has (providers usr units) dep.name ((providers_are units usr dep.name).1 (row-provided units dep value row usr i k (names row t))), listed_at dep value i)) row h;
      }

      pub roles_alike : (mask : ℕ) → AreAlike (with_role usr mask (found_in units) bodies) (filter (is_with usr mask) (rows units))
      roles_alike mask = of_usr (is_with usr mask) (λ row t. same row.usr usr (both-true (bytes_eq row.usr usr) (has_any row.roles mask) t).0)

      pub calls_alike : AreAlike (loaded_rows (is_called usr) (providers usr units) (found_in units) bodies) (filter (is_called usr) (rows units))
      calls_alike = of_usr (is_called usr) (λ row t. same row.usr usr (both-true (bytes_eq row.usr usr) (list_any (λ relation. has_any relation.roles CALLED_BY) row.relations) t).0)

      either_alike : (a b : Bool) (xs ys zs ws : List OccRow) → a ≡ b → AreAlike xs ys → AreAlike zs ws → AreAlike (if a then xs else zs) (if b then ys else ws)
      either_alike true true xs ys zs ws e p q = p
      either_alike false false xs ys zs ws e p q = q
      either_alike true false xs ys zs ws e p q = absurd (cc)
      either_alike false true xs ys zs ws e p q = absurd (cc)

      pub definitions_alike : AreAlike (defining_rows usr (found_in units) bodies) (definitions usr (rows units))
      definitions_alike =
          either_alike (length (with_role usr DEFINITION (found_in units) bodies) == 0) (length (filter (is_with usr DEFINITION) (rows units)) == 0)
          (with_role usr DECLARATION (found_in units) bodies) (filter (is_with usr DECLARATION) (rows units)) (with_role usr DEFINITION (found_in units) bodies) (filter (is_with usr DEFINITION) (rows units))
          (empty_together (with_role usr DEFINITION (found_in units) bodies) (filter (is_with usr DEFINITION) (rows units)) (roles_alike DEFINITION)) (roles_alike DECLARATION) (roles_alike DEFINITION)

    -- rows with a relation to a USR
    pub relations_alike : RelatedAre → (usr : List ℕ) (mask : ℕ) → AreLoaded (loaded_names bodies) (related usr units) → AreAlike (with_relation usr mask (found_in units) bodies) (filter (is_related usr mask) (rows units))
    relations_alike related_are usr mask loaded = record {
      there = λ row h. chosen-out (is_related usr mask) (λ name. paths name units) (related usr units) (λ name path k l. all_paths (related usr units) name path k l) row h;
      back = λ row h. chosen-in (is_related usr mask) (λ name. paths name units) (related usr units) loaded
          (λ dep value row i k t. (has (related usr units) dep.name ((related_are units usr dep.name).1 (row-related units dep value row usr mask i k t)), listed_at dep value i)) row h;
    }

  -- rows of a path
  pub symbols_alike : InPathAre → (path : List ℕ) → AreLoaded (loaded_names bodies) (in_path path units) → AreAlike (rows_under (is_declared_in path) path (in_path path units) bodies) (filter (is_declared_in path) (rows units))
  symbols_alike in_path_are path loaded = record {
    there = λ row h. chosen-out (is_declared_in path) (λ name. path ∷ []) (in_path path units) (λ name other k l. under name other k l) row h;
    back = λ row h. chosen-in (is_declared_in path) (λ name. path ∷ []) (in_path path units) loaded (λ dep value row i k t. needed dep value row i k t) row h;
  }
    where
      under : (name other : List ℕ) → Has (in_path path units) name → Has (path ∷ []) other → ListsUnder units other name
      under name other k (inl e) = subst (λ (p : List ℕ). ListsUnder units p name) e ((in_path_are units path name).0 (contains (in_path path units) name k))
      under name other k (inr l) = absurd l

      needed : (dep : RecordDep) (value : RecordValue) (row : OccRow) → IsRecord units dep value → Has (rows_of_record dep.path value) row → is_declared_in path row ≡ true → Has (in_path path units) dep.name × Has (path ∷ []) dep.path
      needed dep value row i k t =
          let at : row.path ≡ path = same row.path path (both-true (bytes_eq row.path path) (has_any row.roles DECLARATION || has_any row.roles DEFINITION) t).0 in
          let is : dep.path ≡ path = sym (row-path dep.path value row k) ∙ at in
          let l : ListsUnder units path dep.name = subst (λ (p : List ℕ). ListsUnder units p dep.name) is (lists_path units dep value i) in
          (has (in_path path units) dep.name ((in_path_are units path dep.name).1 l), inl (sym is))
