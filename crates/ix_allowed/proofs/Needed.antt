-- What an import and an ask load is needed by the units that they are for.
use Rattle.std.proofs.Common.{◌≡◌, ◌↔◌, ◌⊎◌, inl, inr, ℕ, zero, suc, Bool, true, false, not, cond, List, [], ◌∷◌, map, filter, Some, Contains, slice_get, refl, sym, ap, ◌∙◌}
use Rattle.std.specs.List.{flat_map, list_any, find}
use Rattle.std.specs.Str.{bytes_eq}
use Rattle.ix_types.specs.Row.{text_cmp}
use Rattle.ix_types.specs.declared.row.Query.{Query}
use Rattle.ix_types.specs.declared.row.Query.TheVariants as ask
use Rattle.ix_record.specs.declared.value.RecordValue.{RecordValue}
use Rattle.ix_unit.specs.declared.value.RecordDep.{RecordDep}
use Rattle.ix_model.specs.declared.publication.StoredUnit.{StoredUnit}
use Rattle.ix_model.specs.SortedSet.{IsSortedSetOf, sorted_set}
use Rattle.ix_model.specs.Units.{Units, needs}
use Rattle.ix_answers.specs.declared.walks.Walk.{Walk}
use Rattle.ix_answers.specs.declared.walks.Walk.TheVariants as walks
use Rattle.ix_answers.specs.Lookups.{is_among}
use Rattle.ix_answers.specs.Needs.{need_of, next_need}
use Rattle.ix_answers.specs.Meanings.{IsRecord, IsProvider, IsRelated, ListsUnder}
use Rattle.ix_answers.specs.NeedsMeaning.{IsNeededByName, IsNeededByCodegen, IsNeededByPattern, IsNeededByWalk, MayHaveEdges}
use Rattle.ix_answers.proofs.Members.{Has, has, contains, append-cases, map-out, any-in, equal}
use Rattle.ix_machine.specs.Needs.{units_need}
use Rattle.ix_lanes.specs.Calls.{fresh_in}

-- ---- places, filters, first ones

pub has_at : {X : Type 0} (xs : List X) (i : ℕ) (x : X) → slice_get xs i ≡ Some x → Has xs x
has_at [] i x e = absurd (cc)
has_at (y ∷ ys) zero x e = let same : y ≡ x = cc in inl same
has_at (y ∷ ys) (suc i) x e = inr (has_at ys i x e)

passes : {X : Type 0} (p : X → Bool) (y : X) (ys : List X) (x : X) → p y ≡ true → (Has (filter p ys) x → Has ys x × (p x ≡ true)) → (y ≡ x) ⊎ Has (filter p ys) x → Has (y ∷ ys) x × (p x ≡ true)
passes p y ys x is rest (inl same) = (inl same, ap p (sym same) ∙ is)
passes p y ys x is rest (inr k) = let r = rest k in (inr r.0, r.1)

filtered : {X : Type 0} (p : X → Bool) (xs : List X) (x : X) → Has (filter p xs) x → Has xs x × (p x ≡ true)
filtered p [] x h = absurd h
filtered p (y ∷ ys) x h =
    (elim (p y) as (λ b. p y ≡ b → Has (cond b (y ∷ filter p ys) (filter p ys)) x → Has (y ∷ ys) x × (p x ≡ true)) [
      | true ↦ λ is k. passes p y ys x is (λ q. filtered p ys x q) k
      | false ↦ λ is k. let r = filtered p ys x k in (inr r.0, r.1)
    ]) refl h

found : {X : Type 0} (p : X → Bool) (xs : List X) (x : X) → find p xs ≡ Some x → Has xs x
found p [] x e = absurd (cc)
found p (y ∷ ys) x e =
    (elim (p y) as (λ b. cond b (Some y) (find p ys) ≡ Some x → Has (y ∷ ys) x) [
      | true ↦ λ k. let same : y ≡ x = cc in inl same
      | false ↦ λ k. inr (found p ys x k)
    ]) e

not_true : (b : Bool) → not b ≡ true → b ≡ false
not_true true e = absurd (cc)
not_true false e = refl

-- ---- units that need a record

abbrev lists : List ℕ → List ℕ × StoredUnit → Bool
lists name entry = list_any (λ dep. bytes_eq dep.name name) entry.1.unit.records

-- a unit lists a record of the name
needs_it : (units : Units) (entry : List ℕ × StoredUnit) (dep : RecordDep) (name : List ℕ) → Has units entry → Has entry.1.unit.records dep → dep.name ≡ name → units_need name units ≡ true
needs_it units entry dep name of_units of_records is =
    any-in (lists name) units entry of_units (any-in (λ (d : RecordDep). bytes_eq d.name name) entry.1.unit.records dep of_records (equal dep.name name is))

abbrev names_in : List ℕ × StoredUnit → List (List ℕ)
names_in entry = map (λ (dep : RecordDep). dep.name) entry.1.unit.records

module _ (sets : (texts : List (List ℕ)) → IsSortedSetOf text_cmp texts (sorted_set text_cmp texts)) where
  among_names : (entry : List ℕ × StoredUnit) (units : Units) (name : List ℕ) → (Has (flat_map names_in units) name → (e : List ℕ × StoredUnit) × Has units e × Has (names_in e) name)
      → Has (names_in entry) name ⊎ Has (flat_map names_in units) name → (e : List ℕ × StoredUnit) × Has (entry ∷ units) e × Has (names_in e) name
  among_names entry units name rest (inl h) = (entry, inl refl, h)
  among_names entry units name rest (inr h) = let r = rest h in (r.0, inr r.1, r.2)

  of_unit : (units : Units) (name : List ℕ) → Has (flat_map names_in units) name → (e : List ℕ × StoredUnit) × Has units e × Has (names_in e) name
  of_unit [] name h = absurd h
  of_unit (entry ∷ units) name h = among_names entry units name (λ k. of_unit units name k) (append-cases (names_in entry) (flat_map names_in units) name h)

  pub among_needs : (units : Units) (name : List ℕ) → Has (needs units) name → units_need name units ≡ true
  among_needs units name h =
      let all : List (List ℕ) = flat_map names_in units in
      let e = of_unit units name (has all name (((sets all).same name).0 (contains (needs units) name h))) in
      let d = map-out (λ (dep : RecordDep). dep.name) e.0.1.unit.records name e.2 in
      needs_it units e.0 d.0 name e.1 d.1 d.2

  -- what an import loads is needed by the later units, and not by the earlier ones
  pub fresh_needed : (before after : Units) (place : ℕ) (name : List ℕ) → slice_get (fresh_in before after) place ≡ Some name → (units_need name after ≡ true) × (units_need name before ≡ false)
  fresh_needed before after place name e =
      let f = filtered (λ (n : List ℕ). not (units_need n before)) (needs after) name (has_at (fresh_in before after) place name e) in
      (among_needs after name f.0, not_true (units_need name before) f.1)

-- ---- what a query needs

of_record : (units : Units) (dep : RecordDep) (value : RecordValue) (name : List ℕ) → IsRecord units dep value → dep.name ≡ name → units_need name units ≡ true
of_record units dep value name r is = needs_it units r.entry dep name (has units r.entry r.of_units) (has_at r.entry.1.unit.records r.place dep r.lists) is

module _ (units : Units) (name : List ℕ) where
  by_provider : (usr : List ℕ) → IsProvider units usr name → units_need name units ≡ true
  by_provider usr p = of_record units p.holds.dep p.holds.value name p.holds.of_units p.holds.has_name

  by_related : (usr : List ℕ) → IsRelated units usr name → units_need name units ≡ true
  by_related usr p = of_record units p.relates.dep p.relates.value name p.relates.of_units p.relates.has_name

  by_edges : (walk : Walk) (usr : List ℕ) → MayHaveEdges walk units usr name → units_need name units ≡ true
  by_edges walks.Incoming usr m = by_provider usr m
  by_edges walks.Outgoing usr m = by_related usr m
  by_edges walks.Supertypes usr m = by_related usr m
  by_edges walks.Subtypes usr m = by_provider usr m

-- what each query needs, by the laws of its answers
pub record NeedLaws : Type 0 where
  pub defined : (usr name : List ℕ) (units : Units) → Contains (need_of (ask.Def usr) units) name ↔ IsProvider units usr name
  pub refs : (usr name : List ℕ) (units : Units) → Contains (need_of (ask.Refs usr) units) name ↔ IsProvider units usr name
  pub occ : (usr : List ℕ) (roles : ℕ) (name : List ℕ) (units : Units) → Contains (need_of (ask.Occ usr roles) units) name ↔ IsProvider units usr name
  pub rel : (usr : List ℕ) (roles : ℕ) (name : List ℕ) (units : Units) → Contains (need_of (ask.Rel usr roles) units) name ↔ IsRelated units usr name
  pub callers : (usr name : List ℕ) (units : Units) → Contains (need_of (ask.Callers usr) units) name ↔ IsProvider units usr name
  pub overrides : (usr name : List ℕ) (units : Units) → Contains (need_of (ask.Overrides usr) units) name ↔ IsRelated units usr name
  pub symbols : (path name : List ℕ) (units : Units) → Contains (need_of (ask.Symbols path) units) name ↔ ListsUnder units path name
  pub by_name : (of name : List ℕ) (units : Units) → Contains (need_of (ask.Name of) units) name ↔ IsNeededByName units of name
  pub codegen : (codegen name : List ℕ) (units : Units) → Contains (need_of (ask.Codegen codegen) units) name ↔ IsNeededByCodegen units codegen name
  pub pattern : (text : List ℕ) (start end fold : Bool) (name : List ℕ) (units : Units) → Contains (need_of (ask.Pattern text start end fold) units) name ↔ IsNeededByPattern units text start end fold name
  pub incoming : (usr : List ℕ) (depth : ℕ) (name : List ℕ) (units : Units) → Contains (need_of (ask.Incoming usr depth) units) name ↔ IsNeededByWalk walks.Incoming units usr depth name
  pub outgoing : (usr : List ℕ) (depth : ℕ) (name : List ℕ) (units : Units) → Contains (need_of (ask.Outgoing usr depth) units) name ↔ IsNeededByWalk walks.Outgoing units usr depth name
  pub supertypes : (usr : List ℕ) (depth : ℕ) (name : List ℕ) (units : Units) → Contains (need_of (ask.Supertypes usr depth) units) name ↔ IsNeededByWalk walks.Supertypes units usr depth name
  pub subtypes : (usr : List ℕ) (depth : ℕ) (name : List ℕ) (units : Units) → Contains (need_of (ask.Subtypes usr depth) units) name ↔ IsNeededByWalk walks.Subtypes units usr depth name

module _ (laws : NeedLaws) (units : Units) (name : List ℕ) where
  pub of_query : (query : Query) → Contains (need_of query units) name → units_need name units ≡ true
  of_query (ask.Def usr) c = by_provider units name usr ((laws.defined usr name units).0 c)
  of_query (ask.Refs usr) c = by_provider units name usr ((laws.refs usr name units).0 c)
  of_query (ask.Occ usr roles) c = by_provider units name usr ((laws.occ usr roles name units).0 c)
  of_query (ask.Rel usr roles) c = by_related units name usr ((laws.rel usr roles name units).0 c)
  of_query (ask.Callers usr) c = by_provider units name usr ((laws.callers usr name units).0 c)
  of_query (ask.Overrides usr) c = by_related units name usr ((laws.overrides usr name units).0 c)
  of_query (ask.Name of) c = let n = (laws.by_name of name units).0 c in by_provider units name n.usr n.provides
  of_query (ask.Pattern text start end fold) c = let n = (laws.pattern text start end fold name units).0 c in by_provider units name n.symbol.usr n.provides
  of_query (ask.Symbols path) c =
      let l = (laws.symbols path name units).0 c in
      needs_it units l.entry l.dep name (has units l.entry l.of_units) (has l.entry.1.unit.records l.dep l.lists) l.has_name
  of_query (ask.Mains path) c = absurd (has [] name c)
  of_query (ask.Units path) c = absurd (has [] name c)
  of_query (ask.Includes path) c = absurd (has [] name c)
  of_query (ask.Includers path) c = absurd (has [] name c)
  of_query (ask.Incoming usr depth) c = let n = (laws.incoming usr depth name units).0 c in by_edges units name walks.Incoming n.usr n.may_have
  of_query (ask.Outgoing usr depth) c = let n = (laws.outgoing usr depth name units).0 c in by_edges units name walks.Outgoing n.usr n.may_have
  of_query (ask.Supertypes usr depth) c = let n = (laws.supertypes usr depth name units).0 c in by_edges units name walks.Supertypes n.usr n.may_have
  of_query (ask.Subtypes usr depth) c = let n = (laws.subtypes usr depth name units).0 c in by_edges units name walks.Subtypes n.usr n.may_have
  of_query (ask.Codegen codegen) c = let n = (laws.codegen codegen name units).0 c in by_provider units name n.usr n.provides

  -- what an ask loads is needed by its units
  pub asked_needed : (query : Query) (loaded : List (List ℕ)) → next_need query units loaded ≡ Some name → units_need name units ≡ true
  asked_needed query loaded e = of_query query (contains (need_of query units) name (found (λ (n : List ℕ). not (is_among loaded n)) (need_of query units) name e))
