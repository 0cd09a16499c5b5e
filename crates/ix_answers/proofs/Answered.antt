-- What each answer contains.
use Rattle.std.proofs.Common.{◌≡◌, ◌↔◌, ℕ, ◌⊎◌, inl, inr, Bool, true, ◌&&◌, ◌||◌, List, map, filter, Contains, IsTrue, refl, sym, ◌∙◌, subst}
use Rattle.std.specs.List.{flat_map, list_any}
use Rattle.std.specs.Int.{bit_at}
use Rattle.std.specs.Str.{bytes_eq}
use Rattle.ix_types.specs.Codes.{has_any, ShareBit}
use Rattle.ix_types.specs.declared.code.TheConstants.Roles.{DECLARATION, DEFINITION, REFERENCE, OVERRIDE_OF, CALLED_BY}
use Rattle.ix_types.specs.Row.{occurrence_cmp, edge_cmp}
use Rattle.ix_types.specs.declared.row.RelRow.{RelRow}
use Rattle.ix_types.specs.declared.row.OccRow.{OccRow}
use Rattle.ix_types.specs.declared.row.Row.{Row}
use Rattle.ix_types.specs.declared.row.Row.TheVariants.{Occ, Path, Unit as UnitRow, Edge}
use Rattle.ix_unit.specs.declared.value.Include.{Include}
use Rattle.ix_model.specs.declared.publication.StoredUnit.{StoredUnit}
use Rattle.ix_model.specs.Answer.{is_with, definitions, IsAmongDefinitions}
use Rattle.ix_model.specs.Rows.{rows}
use Rattle.ix_model.specs.SortedSet.{sorted_set, IsSortedSetOf}
use Rattle.ix_model.specs.Units.{Units}
use Rattle.ix_model.proofs.Door.{is_sorted_set}
use Rattle.ix_answers.specs.declared.facts.HeldSymbol.{HeldSymbol}
use Rattle.ix_answers.specs.declared.walks.Walk.{Walk}
use Rattle.ix_answers.specs.Facts.{held, held_symbol, includes}
use Rattle.ix_answers.specs.Lookups.{named, coded, listing}
use Rattle.ix_answers.specs.Pattern.{folded, matches}
use Rattle.ix_answers.specs.Walks.{edges_to, walked}
use Rattle.ix_answers.specs.Answers.{rows_that, is_related, is_called, is_declared_in, definitions_of_each, matched, mains, included, includers}
use Rattle.ix_answers.specs.Paths.{IsReached}
use Rattle.ix_answers.specs.Meanings.{IsIncluded, IsMain, IsListing, IsReference, IsOccurrence, IsRelation, IsCall, IsOverride, IsDeclaredIn, IsDefinedByName, IsDefinedByCodegen, IsDefinedByPattern, HasText, IsRowOf, IsPathOf, IsUnitOf, IsEdgeOf}
use Rattle.ix_answers.proofs.Members.{Has, has, contains, map-in, map-out, flat_map-in, flat_map-out, filter-in, filter-out, any-in, any-out, both-true, true-both, either-true, true-left, true-right, same, equal}
use Rattle.ix_answers.proofs.Orders.{edge_cmp_total, edge_cmp-IsAntisymmetric}
use Rattle.ix_answers.proofs.Selected.{has_bit, field-in, field-out, held-in, held-out, named-those, coded-those, listing-those, mains-those}
use Rattle.ix_answers.proofs.Texts.{has_text-in, has_text-out}
use Rattle.ix_answers.proofs.Steps.{edges_are_those}

-- the rows of a list of one kind
module _ {X : Type 0} (made : X → Row) (xs : List X) (r : Row) where
  pub made-out : Contains (map made xs) r → (x : X) × (r ≡ made x) × Contains xs x
  made-out c = let m = map-out made xs r (has (map made xs) r c) in (m.0, sym m.2, contains xs m.0 m.1)

  pub made-in : (x : X) → r ≡ made x → Contains xs x → Contains (map made xs) r
  made-in x e c = contains (map made xs) r (map-in made xs x r (has xs x c) (sym e))

-- of the laws below this crate: sets of rows rise, a common bit is set, definitions
abbrev pub RowSets : Type 0
RowSets = (rows : List OccRow) → IsSortedSetOf occurrence_cmp rows (sorted_set occurrence_cmp rows)

abbrev pub Shares : Type 0
Shares = (roles mask : ℕ) → IsTrue (has_any roles mask) ↔ ShareBit roles mask

abbrev pub Defines : Type 0
Defines = (usr : List ℕ) (all : List OccRow) (row : OccRow) → Contains (definitions usr all) row ↔ IsAmongDefinitions usr all row

module _ (sets : RowSets) where
  occurrence-out : (chosen : List OccRow) (r : Row) → Contains (map Occ (sorted_set occurrence_cmp chosen)) r → (row : OccRow) × (r ≡ Occ row) × Has chosen row
  occurrence-out chosen r c = let m = made-out Occ (sorted_set occurrence_cmp chosen) r c in (m.0, m.1, has chosen m.0 (((sets chosen).same m.0).0 m.2))

  occurrence-in : (chosen : List OccRow) (r : Row) (row : OccRow) → r ≡ Occ row → Has chosen row → Contains (map Occ (sorted_set occurrence_cmp chosen)) r
  occurrence-in chosen r row e h = made-in Occ (sorted_set occurrence_cmp chosen) r row e (((sets chosen).same row).1 (contains chosen row h))

  that-out : (test : OccRow → Bool) (units : Units) (r : Row) → Contains (rows_that test units) r → (row : OccRow) × (r ≡ Occ row) × Contains (rows units) row × (test row ≡ true)
  that-out test units r c =
      let o = occurrence-out (filter test (rows units)) r c in
      let f = filter-out test (rows units) o.0 o.2 in
      (o.0, o.1, contains (rows units) o.0 f.0, f.1)

  that-in : (test : OccRow → Bool) (units : Units) (r : Row) (row : OccRow) → r ≡ Occ row → Contains (rows units) row → test row ≡ true → Contains (rows_that test units) r
  that-in test units r row e c t = occurrence-in (filter test (rows units)) r row e (filter-in test (rows units) row (has (rows units) row c) t)

  pub defined-those : Defines → (usr : List ℕ) (units : Units) (r : Row) → Contains (map Occ (sorted_set occurrence_cmp (definitions usr (rows units)))) r ↔ IsRowOf (IsAmongDefinitions usr (rows units)) r
  defined-those defines usr units r = (
    λ c. let o = occurrence-out (definitions usr (rows units)) r c in (o.0, o.1, (defines usr (rows units) o.0).0 (contains (definitions usr (rows units)) o.0 o.2)),
    λ s. occurrence-in (definitions usr (rows units)) r s.0 s.1 (has (definitions usr (rows units)) s.0 ((defines usr (rows units) s.0).1 s.2)),
  )

  pub refs-those : (usr : List ℕ) (units : Units) (r : Row) → Contains (rows_that (is_with usr REFERENCE) units) r ↔ IsRowOf (IsReference usr (rows units)) r
  refs-those usr units r = (
    λ c.
        let t = that-out (is_with usr REFERENCE) units r c in
        let b = both-true (bytes_eq t.0.usr usr) (has_any t.0.roles REFERENCE) t.3 in
        (t.0, t.1, record { of_all = t.2; of_usr = same t.0.usr usr b.0; refers = (has_bit t.0.roles 2).0 b.1 }),
    λ s. that-in (is_with usr REFERENCE) units r s.0 s.1 s.2.of_all (true-both (bytes_eq s.0.usr usr) (has_any s.0.roles REFERENCE) (equal s.0.usr usr s.2.of_usr) ((has_bit s.0.roles 2).1 s.2.refers)),
  )

  pub occ-those : Shares → (usr : List ℕ) (roles : ℕ) (units : Units) (r : Row) → Contains (rows_that (is_with usr roles) units) r ↔ IsRowOf (IsOccurrence usr roles (rows units)) r
  occ-those shares usr roles units r = (
    λ c.
        let t = that-out (is_with usr roles) units r c in
        let b = both-true (bytes_eq t.0.usr usr) (has_any t.0.roles roles) t.3 in
        (t.0, t.1, record { of_all = t.2; of_usr = same t.0.usr usr b.0; has_role = (shares t.0.roles roles).0 b.1 }),
    λ s. that-in (is_with usr roles) units r s.0 s.1 s.2.of_all (true-both (bytes_eq s.0.usr usr) (has_any s.0.roles roles) (equal s.0.usr usr s.2.of_usr) ((shares s.0.roles roles).1 s.2.has_role)),
  )

  -- a relation to the USR with a role
  related-test : (usr : List ℕ) (mask : ℕ) (row : OccRow) (relation : RelRow) → Contains row.relations relation → relation.usr ≡ usr → has_any relation.roles mask ≡ true → is_related usr mask row ≡ true
  related-test usr mask row relation c e t =
      any-in (λ relation. bytes_eq relation.usr usr && has_any relation.roles mask) row.relations relation (has row.relations relation c)
      (true-both (bytes_eq relation.usr usr) (has_any relation.roles mask) (equal relation.usr usr e) t)

  pub rel-those : Shares → (usr : List ℕ) (roles : ℕ) (units : Units) (r : Row) → Contains (rows_that (is_related usr roles) units) r ↔ IsRowOf (IsRelation usr roles (rows units)) r
  rel-those shares usr roles units r = (
    λ c.
        let t = that-out (is_related usr roles) units r c in
        let a = any-out (λ relation. bytes_eq relation.usr usr && has_any relation.roles roles) t.0.relations t.3 in
        let b = both-true (bytes_eq a.0.usr usr) (has_any a.0.roles roles) a.2 in
        (t.0, t.1, record { of_all = t.2; relation = a.0; has_relation = contains t.0.relations a.0 a.1; to_usr = same a.0.usr usr b.0; has_role = (shares a.0.roles roles).0 b.1 }),
    λ s. that-in (is_related usr roles) units r s.0 s.1 s.2.of_all (related-test usr roles s.0 s.2.relation s.2.has_relation s.2.to_usr ((shares s.2.relation.roles roles).1 s.2.has_role)),
  )

  pub overrides-those : (usr : List ℕ) (units : Units) (r : Row) → Contains (rows_that (is_related usr OVERRIDE_OF) units) r ↔ IsRowOf (IsOverride usr (rows units)) r
  overrides-those usr units r = (
    λ c.
        let t = that-out (is_related usr OVERRIDE_OF) units r c in
        let a = any-out (λ relation. bytes_eq relation.usr usr && has_any relation.roles OVERRIDE_OF) t.0.relations t.3 in
        let b = both-true (bytes_eq a.0.usr usr) (has_any a.0.roles OVERRIDE_OF) a.2 in
        (t.0, t.1, record { of_all = t.2; relation = a.0; has_relation = contains t.0.relations a.0 a.1; to_usr = same a.0.usr usr b.0; overrides = (has_bit a.0.roles 11).0 b.1 }),
    λ s. that-in (is_related usr OVERRIDE_OF) units r s.0 s.1 s.2.of_all (related-test usr OVERRIDE_OF s.0 s.2.relation s.2.has_relation s.2.to_usr ((has_bit s.2.relation.roles 11).1 s.2.overrides)),
  )

  pub callers-those : (usr : List ℕ) (units : Units) (r : Row) → Contains (rows_that (is_called usr) units) r ↔ IsRowOf (IsCall usr (rows units)) r
  callers-those usr units r = (
    λ c.
        let t = that-out (is_called usr) units r c in
        let b = both-true (bytes_eq t.0.usr usr) (list_any (λ relation. has_any relation.roles CALLED_BY) t.0.relations) t.3 in
        let a = any-out (λ relation. has_any relation.roles CALLED_BY) t.0.relations b.1 in
        (t.0, t.1, record { of_all = t.2; of_usr = same t.0.usr usr b.0; relation = a.0; has_relation = contains t.0.relations a.0 a.1; is_called = (has_bit a.0.roles 13).0 a.2 }),
    λ s. that-in (is_called usr) units r s.0 s.1 s.2.of_all
        (true-both (bytes_eq s.0.usr usr) (list_any (λ relation. has_any relation.roles CALLED_BY) s.0.relations) (equal s.0.usr usr s.2.of_usr)
        (any-in (λ relation. has_any relation.roles CALLED_BY) s.0.relations s.2.relation (has s.0.relations s.2.relation s.2.has_relation) ((has_bit s.2.relation.roles 13).1 s.2.is_called))),
  )

  pub symbols-those : (path : List ℕ) (units : Units) (r : Row) → Contains (rows_that (is_declared_in path) units) r ↔ IsRowOf (IsDeclaredIn path (rows units)) r
  symbols-those path units r = (
    λ c.
        let t = that-out (is_declared_in path) units r c in
        let b = both-true (bytes_eq t.0.path path) (has_any t.0.roles DECLARATION || has_any t.0.roles DEFINITION) t.3 in
        (t.0, t.1, record { of_all = t.2; of_path = same t.0.path path b.0; declares = bits t.0 (either-true (has_any t.0.roles DECLARATION) (has_any t.0.roles DEFINITION) b.1) }),
    λ s. that-in (is_declared_in path) units r s.0 s.1 s.2.of_all
        (true-both (bytes_eq s.0.path path) (has_any s.0.roles DECLARATION || has_any s.0.roles DEFINITION) (equal s.0.path path s.2.of_path) (test s.0 s.2.declares)),
  )
    where
      bits : (row : OccRow) → (has_any row.roles DECLARATION ≡ true) ⊎ (has_any row.roles DEFINITION ≡ true) → (bit_at row.roles 0 ≡ 1) ⊎ (bit_at row.roles 1 ≡ 1)
      bits row (inl e) = inl ((has_bit row.roles 0).0 e)
      bits row (inr e) = inr ((has_bit row.roles 1).0 e)

      test : (row : OccRow) → (bit_at row.roles 0 ≡ 1) ⊎ (bit_at row.roles 1 ≡ 1) → (has_any row.roles DECLARATION || has_any row.roles DEFINITION) ≡ true
      test row (inl e) = true-left (has_any row.roles DECLARATION) (has_any row.roles DEFINITION) ((has_bit row.roles 0).1 e)
      test row (inr e) = true-right (has_any row.roles DECLARATION) (has_any row.roles DEFINITION) ((has_bit row.roles 1).1 e)

  -- the definitions of some USRs
  module _ (defines : Defines) (usrs : List (List ℕ)) (units : Units) (r : Row) where
    each-out : Contains (definitions_of_each usrs units) r → (row : OccRow) × (r ≡ Occ row) × ((usr : List ℕ) × Contains usrs usr × IsAmongDefinitions usr (rows units) row)
    each-out c =
        let o = occurrence-out (flat_map (λ usr. definitions usr (rows units)) usrs) r c in
        let f = flat_map-out (λ usr. definitions usr (rows units)) usrs o.0 o.2 in
        (o.0, o.1, (f.0, contains usrs f.0 f.1, (defines f.0 (rows units) o.0).0 (contains (definitions f.0 (rows units)) o.0 f.2)))

    each-in : (row : OccRow) (usr : List ℕ) → r ≡ Occ row → Contains usrs usr → IsAmongDefinitions usr (rows units) row → Contains (definitions_of_each usrs units) r
    each-in row usr e c d =
        occurrence-in (flat_map (λ usr. definitions usr (rows units)) usrs) r row e
        (flat_map-in (λ usr. definitions usr (rows units)) usrs usr row (has usrs usr c) (has (definitions usr (rows units)) row ((defines usr (rows units) row).1 d)))

  pub name-those : Defines → (name : List ℕ) (units : Units) (r : Row) → Contains (definitions_of_each (named name units) units) r ↔ IsRowOf (IsDefinedByName units name) r
  name-those defines name units r = (
    λ c. let o = each-out defines (named name units) units r c in (o.0, o.1, record { usr = o.2.0; has_usr = (named-those units name o.2.0).0 o.2.1; defines = o.2.2 }),
    λ s. each-in defines (named name units) units r s.0 s.2.usr s.1 ((named-those units name s.2.usr).1 s.2.has_usr) s.2.defines,
  )

  pub codegen-those : Defines → (codegen : List ℕ) (units : Units) (r : Row) → Contains (definitions_of_each (coded codegen units) units) r ↔ IsRowOf (IsDefinedByCodegen units codegen) r
  codegen-those defines codegen units r = (
    λ c. let o = each-out defines (coded codegen units) units r c in (o.0, o.1, record { usr = o.2.0; has_usr = (coded-those units codegen o.2.0).0 o.2.1; defines = o.2.2 }),
    λ s. each-in defines (coded codegen units) units r s.0 s.2.usr s.1 ((coded-those units codegen s.2.usr).1 s.2.has_usr) s.2.defines,
  )

  pub pattern-those : Defines → (text : List ℕ) (start end fold : Bool) (units : Units) (r : Row) → Contains (definitions_of_each (matched text start end fold units) units) r ↔ IsRowOf (IsDefinedByPattern units text start end fold) r
  pattern-those defines text start end fold units r = (
    λ c.
        let o = each-out defines (matched text start end fold units) units r c in
        let f = field-out (λ (s : HeldSymbol). s.usr) (λ (s : HeldSymbol). matches text start end fold s.name) (held units) o.2.0 o.2.1 in
        let h = held-out units f.0 f.1 in (
          o.0,
          o.1,
          record {
            symbol = h.symbol;
            is_symbol = record { holder = f.0.holder; holds = h.holds };
            has_text = subst (λ (n : List ℕ). HasText (folded fold text) start end (folded fold n)) (sym h.of_name) (has_text-out start end (folded fold text) (folded fold f.0.name) f.2);
            defines = subst (λ (u : List ℕ). IsAmongDefinitions u (rows units) o.0) (sym (h.of_usr ∙ f.3)) o.2.2;
          },
        ),
    λ s. each-in defines (matched text start end fold units) units r s.0 s.2.symbol.usr s.1
        (field-in (λ (s : HeldSymbol). s.usr) (λ (s : HeldSymbol). matches text start end fold s.name) (held units) s.2.symbol.usr (held_symbol s.2.is_symbol.holder s.2.symbol)
        (held-in units s.2.is_symbol.holder s.2.symbol s.2.is_symbol.holds) (has_text-in start end (folded fold text) (folded fold s.2.symbol.name) s.2.has_text) refl) s.2.defines,
  )

-- ---- paths, names and edges

pub mains-rows : (path : List ℕ) (units : Units) (r : Row) → Contains (map Path (mains path units)) r ↔ IsPathOf (IsMain units path) r
mains-rows path units r = (
  λ c. let m = made-out Path (mains path units) r c in (m.0, m.1, (mains-those units path m.0).0 m.2),
  λ s. made-in Path (mains path units) r s.0 s.1 ((mains-those units path s.0).1 s.2),
)

pub units-rows : (path : List ℕ) (units : Units) (r : Row) → Contains (map UnitRow (listing path units)) r ↔ IsUnitOf (IsListing units path) r
units-rows path units r = (
  λ c. let m = made-out UnitRow (listing path units) r c in (m.0, m.1, (listing-those units path m.0).0 m.2),
  λ s. made-in UnitRow (listing path units) r s.0 s.1 ((listing-those units path s.0).1 s.2),
)

include-out : (units : Units) (include : Include) → Has (includes units) include → IsIncluded units include.from include.to
include-out units include h =
    let u = flat_map-out (λ (entry : List ℕ × StoredUnit). entry.1.unit.includes) units include h in
    record { entry = u.0; of_units = contains units u.0 u.1; include = include; has_include = contains u.0.1.unit.includes include u.2; is_from = refl; is_to = refl }

include-in : (units : Units) (from to : List ℕ) (i : IsIncluded units from to) → Has (includes units) i.include
include-in units from to i = flat_map-in (λ (entry : List ℕ × StoredUnit). entry.1.unit.includes) units i.entry i.include (has units i.entry i.of_units) (has i.entry.1.unit.includes i.include i.has_include)

as_included : (units : Units) (from to other_from other_to : List ℕ) → from ≡ other_from → to ≡ other_to → IsIncluded units from to → IsIncluded units other_from other_to
as_included units from to other_from other_to f t i = record { entry = i.entry; of_units = i.of_units; include = i.include; has_include = i.has_include; is_from = i.is_from ∙ f; is_to = i.is_to ∙ t }

pub included-rows : (path : List ℕ) (units : Units) (r : Row) → Contains (map Path (included path units)) r ↔ IsPathOf (IsIncluded units path) r
included-rows path units r = (
  λ c.
      let m = made-out Path (included path units) r c in
      let f = field-out (λ (i : Include). i.to) (λ (i : Include). bytes_eq i.from path) (includes units) m.0 m.2 in
      (m.0, m.1, as_included units f.0.from f.0.to path m.0 (same f.0.from path f.2) f.3 (include-out units f.0 f.1)),
  λ s. made-in Path (included path units) r s.0 s.1 (field-in (λ (i : Include). i.to) (λ (i : Include). bytes_eq i.from path) (includes units) s.0 s.2.include (include-in units path s.0 s.2) (equal s.2.include.from path s.2.is_from) s.2.is_to),
)

pub includers-rows : (path : List ℕ) (units : Units) (r : Row) → Contains (map Path (includers path units)) r ↔ IsPathOf (λ from. IsIncluded units from path) r
includers-rows path units r = (
  λ c.
      let m = made-out Path (includers path units) r c in
      let f = field-out (λ (i : Include). i.from) (λ (i : Include). bytes_eq i.to path) (includes units) m.0 m.2 in
      (m.0, m.1, as_included units f.0.from f.0.to m.0 path f.3 (same f.0.to path f.2) (include-out units f.0 f.1)),
  λ s. made-in Path (includers path units) r s.0 s.1 (field-in (λ (i : Include). i.from) (λ (i : Include). bytes_eq i.to path) (includes units) s.0 s.2.include (include-in units s.0 path s.2) (equal s.2.include.to path s.2.is_to) s.2.is_from),
)

pub walked-rows : (walk : Walk) (usr : List ℕ) (depth : ℕ) (units : Units) (r : Row) → Contains (walked walk usr depth units) r ↔ IsEdgeOf (IsReached walk (rows units) usr depth) r
walked-rows walk usr depth units r = (
  λ c.
      let m = made-out Edge (sorted_set edge_cmp (edges_to walk (rows units) usr depth)) r c in
      (m.0, m.1, (edges_are_those walk (rows units) usr depth m.0).0 (((is_sorted_set edge_cmp edge_cmp_total edge_cmp-IsAntisymmetric (edges_to walk (rows units) usr depth)).same m.0).0 m.2)),
  λ s.
      made-in Edge (sorted_set edge_cmp (edges_to walk (rows units) usr depth)) r s.0 s.1
      (((is_sorted_set edge_cmp edge_cmp_total edge_cmp-IsAntisymmetric (edges_to walk (rows units) usr depth)).same s.0).1 ((edges_are_those walk (rows units) usr depth s.0).1 s.2)),
)
