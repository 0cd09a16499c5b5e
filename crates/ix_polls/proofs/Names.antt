-- The new names of an import: those that the units at its mark need, and the units before don't.
use Rattle.std.proofs.Common.{◌≡◌, ◌↔◌, ℕ, zero, suc, ◌<◌, Bool, true, false, not, cond, ◌||◌, List, [], ◌∷◌, length, map, filter, Contains, slice_index_or, refl, sym, ap, subst, ◌∙◌, arith}
use Rattle.std.specs.List.{flat_map, list_any}
use Rattle.std.specs.List.Sorted.{IsStrictlySortedBy}
use Rattle.std.specs.Str.{bytes_eq}
use Rattle.std.proofs.lemmas.List.Folds.{list_any-append}
use Rattle.std.proofs.lemmas.List.Kept.{IsStrictlySortedBy-filter}
use Rattle.std.proofs.lemmas.Slice.Eq.{bytes_eq-Decides}
use Rattle.ix_types.specs.Row.{text_cmp}
use Rattle.ix_unit.specs.declared.value.RecordDep.{RecordDep}
use Rattle.ix_unit.specs.declared.value.UnitValue.{UnitValue}
use Rattle.ix_model.specs.declared.publication.StoredUnit.{StoredUnit}
use Rattle.ix_model.specs.Units.{Units, needs}
use Rattle.ix_machine.specs.Needs.{has_name, units_need}
use Rattle.ix_outline.specs.Known.{Lists, bare}
use Rattle.ix_lanes.specs.Calls.{fresh_in}
use Rattle.ix_polls.specs.Given.{Sets}

no_way : false ≡ true → ⊥
no_way e = cc

later_one : {X : Type 0} (y : X) (ys : List X) (x : X) → Contains ys x → Contains (y ∷ ys) x
later_one y ys x c = (suc c.0, omega (arith, c.1), c.2)

or_right : (a : Bool) {b : Bool} → b ≡ true → (a || b) ≡ true
or_right true e = refl
or_right false e = e

same_bool : (a b : Bool) → (a ≡ true → b ≡ true) → (b ≡ true → a ≡ true) → a ≡ b
same_bool true b f g = sym (f refl)
same_bool false true f g = g refl
same_bool false false f g = refl

-- ---- tests and members

has_there : (name : List ℕ) (names : List (List ℕ)) → has_name name names ≡ true → Contains names name
has_there name [] e = absurd (no_way e)
has_there name (x ∷ xs) e = go (bytes_eq x name) refl e (has_there name xs)
  where
    go : (b : Bool) → bytes_eq x name ≡ b → (b || has_name name xs) ≡ true → (has_name name xs ≡ true → Contains xs name) → Contains (x ∷ xs) name
    go true f e rest = (zero, omega arith, (bytes_eq-Decides x name).0 f)
    go false f e rest = later_one x xs name (rest e)

there_at : (name : List ℕ) (xs : List (List ℕ)) (k : ℕ) → k < length xs → slice_index_or xs k name ≡ name → has_name name xs ≡ true
there_at name [] k below is = absurd (omega arith)
there_at name (x ∷ xs) zero below is = ap (λ z. z || has_name name xs) ((bytes_eq-Decides x name).1 is)
there_at name (x ∷ xs) (suc k) below is = or_right (bytes_eq x name) (there_at name xs k (omega arith) is)

there_has : (name : List ℕ) (names : List (List ℕ)) → Contains names name → has_name name names ≡ true
there_has name names c = there_at name names c.0 c.1 c.2

module _ (p : List ℕ → Bool) (x : List ℕ) where
  into : (xs : List (List ℕ)) (k : ℕ) → k < length xs → slice_index_or xs k x ≡ x → p x ≡ true → Contains (filter p xs) x
  into [] k below is keep = absurd (omega arith)
  into (y ∷ ys) zero below is keep = subst (λ b. Contains (cond b (y ∷ filter p ys) (filter p ys)) x) (sym (ap p is ∙ keep)) (zero, omega arith, is)
  into (y ∷ ys) (suc k) below is keep =
      let h = into ys k (omega arith) is keep in
      elim (p y) as (λ b. Contains (cond b (y ∷ filter p ys) (filter p ys)) x) [
        | true ↦ later_one y (filter p ys) x h
        | false ↦ h
      ]

  out : (xs : List (List ℕ)) (k : ℕ) → k < length (filter p xs) → slice_index_or (filter p xs) k x ≡ x → Contains xs x × (p x ≡ true)
  out [] k below is = absurd (omega arith)
  out (y ∷ ys) k below is =
      (elim (p y) as (λ b. p y ≡ b → k < length (cond b (y ∷ filter p ys) (filter p ys)) → slice_index_or (cond b (y ∷ filter p ys) (filter p ys)) k x ≡ x → Contains (y ∷ ys) x × (p x ≡ true)) [
        | true ↦ λ e below is. here (out ys) e k below is
        | false ↦ λ e below is. let h = out ys k below is in (later_one y ys x h.0, h.1)
      ]) refl below is
    where
      here : ((k : ℕ) → k < length (filter p ys) → slice_index_or (filter p ys) k x ≡ x → Contains ys x × (p x ≡ true)) → p y ≡ true
          → (k : ℕ) → k < length (y ∷ filter p ys) → slice_index_or (y ∷ filter p ys) k x ≡ x → Contains (y ∷ ys) x × (p x ≡ true)
      here rest e zero below is = ((zero, omega arith, is), subst (λ (z : List ℕ). p z ≡ true) is e)
      here rest e (suc k) below is = let h = rest k (omega arith) is in (later_one y ys x h.0, h.1)

-- ---- what units need

abbrev names_of : UnitValue → List (List ℕ)
names_of unit = map (λ (dep : RecordDep). dep.name) unit.records

abbrev all_names : Units → List (List ℕ)
all_names units = flat_map (λ (entry : List ℕ × StoredUnit). map (λ (dep : RecordDep). dep.name) entry.1.unit.records) units

deps_as : (name : List ℕ) (deps : List RecordDep) → has_name name (map (λ (dep : RecordDep). dep.name) deps) ≡ list_any (λ (dep : RecordDep). bytes_eq dep.name name) deps
deps_as name [] = refl
deps_as name (d ∷ ds) = ap (λ b. bytes_eq d.name name || b) (deps_as name ds)

units_as : (name : List ℕ) (units : Units) → has_name name (all_names units) ≡ units_need name units
units_as name [] = refl
units_as name (e ∷ es) =
    list_any-append (λ other. bytes_eq other name) (names_of e.1.unit) (all_names es)
    ∙ (λ i. (deps_as name e.1.unit.records i || units_as name es i))

module _ (sets : Sets) where
  pub needed_as : (name : List ℕ) (units : Units) → has_name name (needs units) ≡ units_need name units
  needed_as name units =
      same_bool (has_name name (needs units)) (has_name name (all_names units))
      (λ e. there_has name (all_names units) (((sets (all_names units)).same name).0 (has_there name (needs units) e)))
      (λ e. there_has name (needs units) (((sets (all_names units)).same name).1 (has_there name (all_names units) e)))
      ∙ units_as name units

  pub fresh_as : (before after : Units) → filter (λ name. not (has_name name (needs before))) (needs after) ≡ fresh_in before after
  fresh_as before after = λ i. filter (λ name. not (needed_as name before i)) (needs after)

  pub fresh_rises : (before after : Units) → IsStrictlySortedBy text_cmp (fresh_in before after)
  fresh_rises before after = IsStrictlySortedBy-filter text_cmp (λ name. not (units_need name before)) (needs after) (sets (all_names after)).rises

  is_not : (b : Bool) → not b ≡ true → b ≡ false
  is_not true e = absurd (no_way e)
  is_not false e = refl

  -- a new name is needed later, and not before
  pub fresh_out : (before after : Units) (name : List ℕ) → Contains (fresh_in before after) name → (units_need name after ≡ true) × (units_need name before ≡ false)
  fresh_out before after name c =
      let h = out (λ name. not (units_need name before)) name (needs after) c.0 c.1 c.2 in
      (sym (needed_as name after) ∙ there_has name (needs after) h.0, is_not (units_need name before) h.1)

  pub fresh_in_there : (before after : Units) (name : List ℕ) → units_need name after ≡ true → units_need name before ≡ false → Contains (fresh_in before after) name
  fresh_in_there before after name needed new =
      let there = has_there name (needs after) (needed_as name after ∙ needed) in
      into (λ name. not (units_need name before)) name (needs after) there.0 there.1 there.2 (ap not new)

-- ---- what units list

dep_out : (name : List ℕ) (deps : List RecordDep) → list_any (λ (dep : RecordDep). bytes_eq dep.name name) deps ≡ true → (dep : RecordDep) × Contains deps dep × (dep.name ≡ name)
dep_out name [] e = absurd (no_way e)
dep_out name (d ∷ ds) e = go (bytes_eq d.name name) refl e (dep_out name ds)
  where
    go : (b : Bool) → bytes_eq d.name name ≡ b → (b || list_any (λ (dep : RecordDep). bytes_eq dep.name name) ds) ≡ true
        → (list_any (λ (dep : RecordDep). bytes_eq dep.name name) ds ≡ true → (dep : RecordDep) × Contains ds dep × (dep.name ≡ name)) → (dep : RecordDep) × Contains (d ∷ ds) dep × (dep.name ≡ name)
    go true f e rest = (d, (zero, omega arith, refl), (bytes_eq-Decides d.name name).0 f)
    go false f e rest = let r = rest e in (r.0, later_one d ds r.0 r.1, r.2)

dep_at : (name : List ℕ) (deps : List RecordDep) (dep : RecordDep) (k : ℕ) → k < length deps → slice_index_or deps k dep ≡ dep → dep.name ≡ name → list_any (λ (other : RecordDep). bytes_eq other.name name) deps ≡ true
dep_at name [] dep k below is named = absurd (omega arith)
dep_at name (d ∷ ds) dep zero below is named =
    ap (λ b. b || list_any (λ (other : RecordDep). bytes_eq other.name name) ds) ((bytes_eq-Decides d.name name).1 (ap (λ (o : RecordDep). o.name) is ∙ named))
dep_at name (d ∷ ds) dep (suc k) below is named = or_right (bytes_eq d.name name) (dep_at name ds dep k (omega arith) is named)

listed_later : (e : List ℕ × StoredUnit) (es : Units) (name : List ℕ) → Lists (map bare es) name → Lists (map bare (e ∷ es)) name
listed_later e es name l = record { entry = l.entry; of_units = later_one (bare e) (map bare es) l.entry l.of_units; dep = l.dep; lists = l.lists; has_name = l.has_name }

pub needed_listed : (name : List ℕ) (units : Units) → units_need name units ≡ true → Lists (map bare units) name
needed_listed name [] e = absurd (no_way e)
needed_listed name (u ∷ us) e = go (list_any (λ (dep : RecordDep). bytes_eq dep.name name) u.1.unit.records) refl e (needed_listed name us)
  where
    go : (b : Bool) → list_any (λ (dep : RecordDep). bytes_eq dep.name name) u.1.unit.records ≡ b → (b || units_need name us) ≡ true → (units_need name us ≡ true → Lists (map bare us) name) → Lists (map bare (u ∷ us)) name
    go true f e rest =
        let d = dep_out name u.1.unit.records f in
        record { entry = bare u; of_units = (zero, omega arith, refl); dep = d.0; lists = d.1; has_name = d.2 }
    go false f e rest = listed_later u us name (rest e)

listed_at : (name : List ℕ) (units : Units) (entry : List ℕ × UnitValue) (k : ℕ) → k < length (map bare units) → slice_index_or (map bare units) k entry ≡ entry
    → list_any (λ (dep : RecordDep). bytes_eq dep.name name) entry.1.records ≡ true → units_need name units ≡ true
listed_at name [] entry k below is some = absurd (omega arith)
listed_at name (u ∷ us) entry zero below is some =
    ap (λ b. b || units_need name us) (ap (λ (e : List ℕ × UnitValue). list_any (λ (dep : RecordDep). bytes_eq dep.name name) e.1.records) is ∙ some)
listed_at name (u ∷ us) entry (suc k) below is some =
    or_right (list_any (λ (dep : RecordDep). bytes_eq dep.name name) u.1.unit.records) (listed_at name us entry k (omega arith) is some)

pub listed_needed : (name : List ℕ) (units : Units) → Lists (map bare units) name → units_need name units ≡ true
listed_needed name units l =
    listed_at name units l.entry l.of_units.0 l.of_units.1 l.of_units.2 (dep_at name l.entry.1.records l.dep l.lists.0 l.lists.1 l.lists.2 l.has_name)

-- the new names are those that only the later units list
pub fresh_lists : Sets → (before after : Units) (name : List ℕ) → Contains (fresh_in before after) name ↔ (Lists (map bare after) name × (Lists (map bare before) name → ⊥))
fresh_lists sets before after name = (
  λ c. let h = fresh_out sets before after name c in (needed_listed name after h.0, λ l. no_way (sym h.1 ∙ listed_needed name before l)),
  λ l. fresh_in_there sets before after name (listed_needed name after l.0) (unneeded (units_need name before) refl l.1),
)
  where
    unneeded : (b : Bool) → units_need name before ≡ b → (Lists (map bare before) name → ⊥) → units_need name before ≡ false
    unneeded true e none = absurd (none (needed_listed name before e))
    unneeded false e none = e
