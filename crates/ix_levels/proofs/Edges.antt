-- The edges of a level stand in the records that it needs.
use Rattle.std.proofs.Common.{◌≡◌, ◌↔◌, ℕ, true, ◌&&◌, List, filter, Option, Some, None, Contains, refl, sym, ap, ◌∙◌, subst}
use Rattle.std.specs.List.{flat_map}
use Rattle.std.specs.Str.{bytes_eq}
use Rattle.ix_types.specs.Codes.{has_any}
use Rattle.ix_types.specs.declared.code.TheConstants.Roles.{CALLED_BY, BASE_OF}
use Rattle.ix_types.specs.declared.row.EdgeRow.{EdgeRow}
use Rattle.ix_types.specs.declared.row.OccRow.{OccRow}
use Rattle.ix_types.specs.declared.row.RelRow.{RelRow}
use Rattle.ix_record.specs.declared.value.RecordValue.{RecordValue}
use Rattle.ix_unit.specs.declared.value.RecordDep.{RecordDep}
use Rattle.ix_model.specs.Rows.{rows_of_record, rows}
use Rattle.ix_model.specs.Units.{Units}
use Rattle.ix_answers.specs.declared.walks.Walk.{Walk}
use Rattle.ix_answers.specs.declared.walks.Walk.TheVariants.{Incoming, Outgoing, Supertypes, Subtypes}
use Rattle.ix_answers.specs.Answers.{is_related}
use Rattle.ix_answers.specs.Lookups.{is_among, providers, related, paths}
use Rattle.ix_answers.specs.Meanings.{IsRecord, ListsUnder}
use Rattle.ix_answers.specs.Needs.{needs_of}
use Rattle.ix_answers.specs.Rising.{AreLoaded}
use Rattle.ix_answers.specs.Walks.{edge, edges_of_row, edges_from}
use Rattle.ix_answers.proofs.Members.{Has, has, contains, map-out, flat_map-in, flat_map-out, filter-in, filter-out, any-in, true-both, equal, among-out}
use Rattle.ix_lookups.specs.Found.{found_in}
use Rattle.ix_lookups.specs.Loaded.{Loaded, body_named, loaded_names}
use Rattle.ix_needs.specs.Premises.{Holds}
use Rattle.ix_needs.proofs.Rows.{row-out, row-in, listed_value, lists_path, row-provided, row-related}
use Rattle.ix_needs.proofs.Sets.{TextSets, OneTextSet, set-in}
use Rattle.ix_needs.proofs.Sufficing.{ProvidersAre, RelatedAre, PathsAre, loaded-body}
use Rattle.ix_levels.specs.Levels.{named_for, edges_at, level_edges}
use Rattle.ix_levels.proofs.Named.{names-those}

-- an edge by a row that begins in a level
record IsEdgeFrom (walk : Walk) (depth : ℕ) (level : List (List ℕ)) (all : List OccRow) (e : EdgeRow) : Type 0 where
  row : OccRow
  of_all : Has all row
  by_row : Has (edges_of_row walk depth row) e
  begins : is_among level e.from ≡ true

module _ (walk : Walk) (depth : ℕ) (level : List (List ℕ)) (e : EdgeRow) where
  from-out : (all : List OccRow) → Has (edges_from walk depth level all) e → IsEdgeFrom walk depth level all e
  from-out all h =
      let f = filter-out (λ (x : EdgeRow). is_among level x.from) (flat_map (edges_of_row walk depth) all) e h in
      let r = flat_map-out (edges_of_row walk depth) all e f.0 in
      record { row = r.0; of_all = r.1; by_row = r.2; begins = f.1 }

  from-in : (all : List OccRow) → IsEdgeFrom walk depth level all e → Has (edges_from walk depth level all) e
  from-in all i =
      filter-in (λ (x : EdgeRow). is_among level x.from) (flat_map (edges_of_row walk depth) all) e (flat_map-in (edges_of_row walk depth) all i.row e i.of_all i.by_row) i.begins

  -- the same by the rows of a loaded record
  record IsEdgeAt (ps : List (List ℕ)) (o : Option RecordValue) : Type 0 where
    value : RecordValue
    is_loaded : o ≡ Some value
    path : List ℕ
    has_path : Has ps path
    is_edge : IsEdgeFrom walk depth level (rows_of_record path value) e

  at-out : (ps : List (List ℕ)) (o : Option RecordValue) → Has (edges_at walk depth level ps o) e → IsEdgeAt ps o
  at-out ps None h = absurd h
  at-out ps (Some value) h =
      let p = flat_map-out (λ path. edges_from walk depth level (rows_of_record path value)) ps e h in
      record { value = value; is_loaded = refl; path = p.0; has_path = p.1; is_edge = from-out (rows_of_record p.0 value) p.2 }

  at-in : (ps : List (List ℕ)) (value : RecordValue) (path : List ℕ) → Has ps path → IsEdgeFrom walk depth level (rows_of_record path value) e → Has (edges_at walk depth level ps (Some value)) e
  at-in ps value path h i = flat_map-in (λ path. edges_from walk depth level (rows_of_record path value)) ps path e h (from-in (rows_of_record path value) i)

module _ (text_sets : TextSets) (one_text_set : OneTextSet) (providers_are : ProvidersAre) (related_are : RelatedAre) (paths_are : PathsAre) (units : Units) where
  -- the record of a row is named for the USR at which an edge by the row begins
  by_symbol : (dep : RecordDep) (value : RecordValue) (row : OccRow) (e : EdgeRow) → IsRecord units dep value → Has (rows_of_record dep.path value) row → row.usr ≡ e.from → Has (providers e.from units) dep.name
  by_symbol dep value row e i h p = has (providers e.from units) dep.name ((providers_are units e.from dep.name).1 (row-provided units dep value row e.from i h p))

  by_relation : (dep : RecordDep) (value : RecordValue) (row : OccRow) (e : EdgeRow) (mask : ℕ) (relation : RelRow) → IsRecord units dep value → Has (rows_of_record dep.path value) row
      → Has row.relations relation → has_any relation.roles mask ≡ true → relation.usr ≡ e.from → Has (related e.from units) dep.name
  by_relation dep value row e mask relation i h r t p =
      let is : (bytes_eq relation.usr e.from && has_any relation.roles mask) ≡ true = true-both (bytes_eq relation.usr e.from) (has_any relation.roles mask) (equal relation.usr e.from p) t in
      let any : is_related e.from mask row ≡ true = any-in (λ (x : RelRow). bytes_eq x.usr e.from && has_any x.roles mask) row.relations relation r is in
      has (related e.from units) dep.name ((related_are units e.from dep.name).1 (row-related units dep value row e.from mask i h any))

  module _ (dep : RecordDep) (value : RecordValue) (i : IsRecord units dep value) (row : OccRow) (h : Has (rows_of_record dep.path value) row) (depth : ℕ) (e : EdgeRow) where
    named : (walk : Walk) → Has (edges_of_row walk depth row) e → Has (named_for walk (found_in units) e.from) dep.name
    named Incoming k =
        let m = map-out (edge Incoming depth row) (filter (λ (r : RelRow). has_any r.roles CALLED_BY) row.relations) e k in
        by_symbol dep value row e i h (ap (λ (x : EdgeRow). x.from) m.2)
    named Outgoing k =
        let m = map-out (edge Outgoing depth row) (filter (λ (r : RelRow). has_any r.roles CALLED_BY) row.relations) e k in
        let f = filter-out (λ (r : RelRow). has_any r.roles CALLED_BY) row.relations m.0 m.1 in
        by_relation dep value row e CALLED_BY m.0 i h f.0 f.1 (ap (λ (x : EdgeRow). x.from) m.2)
    named Supertypes k =
        let m = map-out (edge Supertypes depth row) (filter (λ (r : RelRow). has_any r.roles BASE_OF) row.relations) e k in
        let f = filter-out (λ (r : RelRow). has_any r.roles BASE_OF) row.relations m.0 m.1 in
        by_relation dep value row e BASE_OF m.0 i h f.0 f.1 (ap (λ (x : EdgeRow). x.from) m.2)
    named Subtypes k =
        let m = map-out (edge Subtypes depth row) (filter (λ (r : RelRow). has_any r.roles BASE_OF) row.relations) e k in
        by_symbol dep value row e i h (ap (λ (x : EdgeRow). x.from) m.2)

  module _ (bodies : Loaded) (holds : Holds units bodies) (walk : Walk) (depth : ℕ) (level : List (List ℕ)) (e : EdgeRow) where
    abbrev at_name : List ℕ → List EdgeRow
    at_name name = edges_at walk depth level (paths name units) (body_named name bodies)

    pub edges-out : (names : List (List ℕ)) → Has (level_edges walk depth level names (found_in units) bodies) e → Has (edges_from walk depth level (rows units)) e
    edges-out names h =
        let n = flat_map-out at_name names e h in
        let r = at-out walk depth level e (paths n.0 units) (body_named n.0 bodies) n.2 in
        let under : ListsUnder units r.path n.0 = (paths_are units n.0 r.path).0 (contains (paths n.0 units) r.path r.has_path) in
        let l = listed_value units holds.valued r.path n.0 under in
        let body : body_named l.0.name bodies ≡ Some r.value = ap (λ (name : List ℕ). body_named name bodies) l.4 ∙ r.is_loaded in
        let is : l.1 ≡ r.value = holds.bodies_are l.0 l.1 r.value l.2 body in
        let moved : Has (rows_of_record l.0.path l.1) r.is_edge.row =
        subst (λ (path : List ℕ). Has (rows_of_record path l.1) r.is_edge.row) (sym l.3) (subst (λ (v : RecordValue). Has (rows_of_record r.path v) r.is_edge.row) (sym is) r.is_edge.of_all) in
        from-in walk depth level e (rows units) (record { row = r.is_edge.row; of_all = row-in units r.is_edge.row l.0 l.1 l.2 moved; by_row = r.is_edge.by_row; begins = r.is_edge.begins })

    -- in a list of names that has those of each USR of the level
    edges-within : (names : List (List ℕ)) → AreLoaded (loaded_names bodies) names → ((usr name : List ℕ) → Has level usr → Has (named_for walk (found_in units) usr) name → Has names name)
        → Has (edges_from walk depth level (rows units)) e → Has (level_edges walk depth level names (found_in units) bodies) e
    edges-within names loaded all h =
        let f = from-out walk depth level e (rows units) h in
        let r = row-out units f.row f.of_all in
        let n : Has names r.dep.name = all e.from r.dep.name (among-out level e.from f.begins) (named r.dep r.value r.of_units f.row r.is_row depth e walk f.by_row) in
        let b = loaded-body bodies r.dep.name (loaded r.dep.name (contains names r.dep.name n)) in
        let is : r.value ≡ b.0 = holds.bodies_are r.dep r.value b.0 r.of_units b.1 in
        let moved : Has (rows_of_record r.dep.path b.0) f.row = subst (λ (v : RecordValue). Has (rows_of_record r.dep.path v) f.row) is r.is_row in
        let path : Has (paths r.dep.name units) r.dep.path = has (paths r.dep.name units) r.dep.path ((paths_are units r.dep.name r.dep.path).1 (lists_path units r.dep r.value r.of_units)) in
        let at : Has (edges_at walk depth level (paths r.dep.name units) (Some b.0)) e =
        at-in walk depth level e (paths r.dep.name units) b.0 r.dep.path path (record { row = f.row; of_all = moved; by_row = f.by_row; begins = f.begins }) in
        flat_map-in at_name names r.dep.name e n (subst (λ (o : Option RecordValue). Has (edges_at walk depth level (paths r.dep.name units) o) e) (sym b.1) at)

    in_needs : (usr name : List ℕ) → Has level usr → Has (named_for walk (found_in units) usr) name → Has (needs_of walk level units) name
    in_needs usr name h k =
        subst (λ (names : List (List ℕ)). Has names name) (names-those text_sets one_text_set walk level units)
        (set-in text_sets (flat_map (named_for walk (found_in units)) level) name (flat_map-in (named_for walk (found_in units)) level usr name h k))

    pub edges-those : AreLoaded (loaded_names bodies) (needs_of walk level units)
        → Contains (level_edges walk depth level (needs_of walk level units) (found_in units) bodies) e ↔ Contains (edges_from walk depth level (rows units)) e
    edges-those loaded = (
      λ c. contains (edges_from walk depth level (rows units)) e (edges-out (needs_of walk level units) (has (level_edges walk depth level (needs_of walk level units) (found_in units) bodies) e c)),
      λ c. contains (level_edges walk depth level (needs_of walk level units) (found_in units) bodies) e
          (edges-within (needs_of walk level units) loaded in_needs (has (edges_from walk depth level (rows units)) e c)),
    )
