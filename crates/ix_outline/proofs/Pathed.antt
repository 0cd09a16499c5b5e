-- A record is listed exactly where it has a path.
use Rattle.std.proofs.Common.{◌≡◌, ℕ, ◌==◌, ◌⊎◌, inl, inr, Bool, true, false, not, List, [], ◌∷◌, length, map, filter, Contains, refl, sym, ap, ◌∙◌, arith}
use Rattle.std.specs.List.{flat_map, list_any}
use Rattle.std.specs.Str.{bytes_eq}
use Rattle.ix_types.specs.Row.{text_cmp}
use Rattle.ix_unit.specs.declared.value.RecordDep.{RecordDep}
use Rattle.ix_unit.specs.declared.value.UnitValue.{UnitValue}
use Rattle.ix_model.specs.SortedSet.{sorted_set}
use Rattle.ix_outline.specs.Facts.{Fact, pathing}
use Rattle.ix_outline.specs.Finding.{values_under}
use Rattle.ix_outline.specs.Known.{Lists}
use Rattle.ix_outline.specs.Moving.{Named, record_names, lists_name}
use Rattle.ix_outline.proofs.Members.{Has, has, contains, map-in, map-out, flat_map-in, flat_map-out}
use Rattle.ix_outline.proofs.Finding.{SetLaws, under-in, under-out}
use Rattle.ix_outline.proofs.Joined.{lists-has, has-lists, has-or-not, any-in, any-out}

some_test : (xs : List (List ℕ)) (x : List ℕ) → Has xs x → not (length xs == 0) ≡ true
some_test [] x h = absurd h
some_test (y ∷ ys) x h = grind arith

none_test : (xs : List (List ℕ)) → ((x : List ℕ) → Has xs x → ⊥) → not (length xs == 0) ≡ false
none_test [] none = refl
none_test (y ∷ ys) none = absurd (none y (inl refl))

false_test : (b : Bool) → (b ≡ true → ⊥) → b ≡ false
false_test true f = absurd (f refl)
false_test false f = refl

abbrev path_facts : RecordDep → Fact
path_facts dep = (dep.name, dep.path)

path-there : (units : Named UnitValue) (name : List ℕ) → Lists units name → (path : List ℕ) × Has (flat_map pathing units) (name, path)
path-there units name l = (
  l.dep.path,
  flat_map-in pathing units l.entry (name, l.dep.path) (has units l.entry l.of_units)
      (map-in path_facts l.entry.1.records l.dep (name, l.dep.path) (has l.entry.1.records l.dep l.lists) (λ i. (l.has_name i, l.dep.path))),
)

name-there : (units : Named UnitValue) (name path : List ℕ) → Has (flat_map pathing units) (name, path) → Lists units name
name-there units name path h =
    let r = flat_map-out pathing units (name, path) h in
    let m = map-out path_facts r.0.1.records (name, path) r.2 in
    record { entry = r.0; of_units = contains units r.0 r.1; dep = m.0; lists = contains r.0.1.records m.0 m.1; has_name = ap (λ (f : Fact). f.0) m.2 }

module _ (laws : SetLaws) (units : Named UnitValue) (name : List ℕ) where
  abbrev given : List (List ℕ)
  given = map (λ (fact : Fact). fact.1) (filter (λ (fact : Fact). bytes_eq fact.0 name) (flat_map pathing units))

  value-in : (path : List ℕ) → Has (flat_map pathing units) (name, path) → Has (values_under name (flat_map pathing units)) path
  value-in path h = has (sorted_set text_cmp given) path (((laws.sets given).same path).1 (contains given path (under-in name (flat_map pathing units) path h)))

  value-out : (path : List ℕ) → Has (values_under name (flat_map pathing units)) path → Has (flat_map pathing units) (name, path)
  value-out path h = under-out name (flat_map pathing units) path (has given path (((laws.sets given).same path).0 (contains (sorted_set text_cmp given) path h)))

  pub listed-by-path : not (length (values_under name (flat_map pathing units)) == 0) ≡ lists_name units name
  listed-by-path = cases (has-or-not (record_names units) name)
    where
      cases : Has (record_names units) name ⊎ (Has (record_names units) name → ⊥) → not (length (values_under name (flat_map pathing units)) == 0) ≡ lists_name units name
      cases (inl h) =
          let p = path-there units name (has-lists units name h) in
          some_test (values_under name (flat_map pathing units)) p.0 (value-in p.0 p.1) ∙ sym (any-in (record_names units) name h)
      cases (inr missing) =
          none_test (values_under name (flat_map pathing units)) (λ path h. missing (lists-has units name (name-there units name path (value-out path h))))
          ∙ sym (false_test (lists_name units name) (λ e. missing (any-out (record_names units) name e)))
