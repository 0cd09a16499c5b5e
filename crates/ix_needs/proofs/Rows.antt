-- Where the rows of units come from.
use Rattle.std.proofs.Common.{◌≡◌, ◌≤◌, ◌↔◌, ℕ, zero, suc, ◌⊎◌, inl, inr, Bool, true, false, ◌&&◌, List, [], ◌∷◌, ◌++◌, length, map, filter, Option, Some, None, Contains, refl, sym, ap, ◌∙◌, subst, arith}
use Rattle.std.specs.List.{flat_map, filter_map, slice_get, list_any}
use Rattle.std.specs.Option.{option_map}
use Rattle.std.specs.Str.{bytes_eq}
use Rattle.ix_types.specs.Codes.{has_any}
use Rattle.ix_types.specs.declared.row.OccRow.{OccRow}
use Rattle.ix_types.specs.declared.row.RelRow.{RelRow}
use Rattle.ix_record.specs.declared.value.Symbol.{Symbol}
use Rattle.ix_record.specs.declared.value.Relation.{Relation}
use Rattle.ix_record.specs.declared.value.Occurrence.{Occurrence}
use Rattle.ix_record.specs.declared.value.RecordValue.{RecordValue}
use Rattle.ix_unit.specs.declared.value.RecordDep.{RecordDep}
use Rattle.ix_model.specs.declared.publication.StoredUnit.{StoredUnit}
use Rattle.ix_model.specs.Units.{Units}
use Rattle.ix_model.specs.Rows.{relation_row, row_with, occurrence_row, rows_of_record, rows_of_records, rows_of_unit, rows}
use Rattle.ix_answers.specs.Answers.{is_related}
use Rattle.ix_answers.specs.Meanings.{IsRecord, IsProvider, IsRelated, ListsUnder}
use Rattle.ix_answers.proofs.Members.{Has, has, contains, append-left, append-right, append-cases, flat_map-in, flat_map-out, filter_map-out, any-out, both-true, same}
use Rattle.ix_needs.specs.Premises.{AreValued}

pub some-out : {X Y : Type 0} (f : X → Y) (o : Option X) (y : Y) → option_map f o ≡ Some y → (x : X) × (o ≡ Some x) × (f x ≡ y)
some-out f None y e = absurd (cc)
some-out f (Some x) y e = (x, refl, cc)

pub at-has : {X : Type 0} (xs : List X) (k : ℕ) (x : X) → slice_get xs k ≡ Some x → Has xs x
at-has [] k x e = absurd (cc)
at-has (y ∷ ys) zero x e = inl (cc)
at-has (y ∷ ys) (suc k) x e = inr (at-has ys k x e)

-- ---- a record's rows at its place

record RowAt (deps : List RecordDep) (values : List RecordValue) (row : OccRow) : Type 0 where
  place : ℕ
  dep : RecordDep
  value : RecordValue
  lists : slice_get deps place ≡ Some dep
  has_value : slice_get values place ≡ Some value
  is_row : Has (rows_of_record dep.path value) row

row_at-cases : (dep : RecordDep) (deps : List RecordDep) (value : RecordValue) (values : List RecordValue) (row : OccRow)
    → (Has (rows_of_records deps values) row → RowAt deps values row)
    → Has (rows_of_record dep.path value) row ⊎ Has (rows_of_records deps values) row → RowAt (dep ∷ deps) (value ∷ values) row
row_at-cases dep deps value values row f (inl h) = record { place = zero; dep = dep; value = value; lists = refl; has_value = refl; is_row = h }
row_at-cases dep deps value values row f (inr h) =
    let r = f h in record { place = suc r.place; dep = r.dep; value = r.value; lists = r.lists; has_value = r.has_value; is_row = r.is_row }

row_at-out : (deps : List RecordDep) (values : List RecordValue) (row : OccRow) → Has (rows_of_records deps values) row → RowAt deps values row
row_at-out [] values row h = absurd h
row_at-out (dep ∷ deps) [] row h = absurd h
row_at-out (dep ∷ deps) (value ∷ values) row h =
    row_at-cases dep deps value values row (λ k. row_at-out deps values row k) (append-cases (rows_of_record dep.path value) (rows_of_records deps values) row h)

row_at-in : (deps : List RecordDep) (values : List RecordValue) (row : OccRow) (k : ℕ) (dep : RecordDep) (value : RecordValue)
    → slice_get deps k ≡ Some dep → slice_get values k ≡ Some value → Has (rows_of_record dep.path value) row → Has (rows_of_records deps values) row
row_at-in [] values row k dep value e f h = absurd (cc)
row_at-in (d ∷ ds) [] row k dep value e f h = absurd (cc)
row_at-in (d ∷ ds) (v ∷ vs) row zero dep value e f h =
    let p : dep ≡ d = cc in
    let q : value ≡ v = cc in
    append-left (rows_of_record d.path v) (rows_of_records ds vs) row
    (subst (λ (w : RecordValue). Has (rows_of_record d.path w) row) q (subst (λ (x : RecordDep). Has (rows_of_record x.path value) row) p h))
row_at-in (d ∷ ds) (v ∷ vs) row (suc k) dep value e f h = append-right (rows_of_record d.path v) (rows_of_records ds vs) row (row_at-in ds vs row k dep value e f h)

-- ---- of units

-- a row of a record that a unit lists
pub record IsRowOf (units : Units) (row : OccRow) : Type 0 where
  pub dep : RecordDep
  pub value : RecordValue
  pub of_units : IsRecord units dep value
  pub is_row : Has (rows_of_record dep.path value) row

pub row-out : (units : Units) (row : OccRow) → Has (rows units) row → IsRowOf units row
row-out units row h =
    let u = flat_map-out (λ (entry : List ℕ × StoredUnit). rows_of_unit entry.1) units row h in
    let r = row_at-out u.0.1.unit.records u.0.1.values row u.2 in
    record { dep = r.dep; value = r.value; of_units = record { entry = u.0; of_units = contains units u.0 u.1; place = r.place; lists = r.lists; has_value = r.has_value }; is_row = r.is_row }

pub row-in : (units : Units) (row : OccRow) (dep : RecordDep) (value : RecordValue) → IsRecord units dep value → Has (rows_of_record dep.path value) row → Has (rows units) row
row-in units row dep value i h =
    flat_map-in (λ (entry : List ℕ × StoredUnit). rows_of_unit entry.1) units i.entry row (has units i.entry i.of_units)
    (row_at-in i.entry.1.unit.records i.entry.1.values row i.place dep value i.lists i.has_value h)

-- a record that is listed has a value
pair_at : {X Y : Type 0} (xs : List X) (ys : List Y) (x : X) → length xs ≤ length ys → Has xs x → (k : ℕ) × (y : Y) × (slice_get xs k ≡ Some x) × (slice_get ys k ≡ Some y)
pair_at [] ys x e h = absurd h
pair_at (z ∷ zs) [] x e h = absurd (omega (arith, e))
pair_at (z ∷ zs) (y ∷ ys) x e (inl p) = (zero, y, ap Some p, refl)
pair_at (z ∷ zs) (y ∷ ys) x e (inr h) =
    let fewer : length zs ≤ length ys = omega (arith, e) in
    let r = pair_at zs ys x fewer h in
    (suc r.0, r.1, r.2, r.3)

pub listed_value : (units : Units) → AreValued units → (path name : List ℕ) → ListsUnder units path name
    → (dep : RecordDep) × (value : RecordValue) × IsRecord units dep value × (dep.path ≡ path) × (dep.name ≡ name)
listed_value units valued path name l =
    let r = pair_at l.entry.1.unit.records l.entry.1.values l.dep (valued l.entry l.of_units) (has l.entry.1.unit.records l.dep l.lists) in
    (l.dep, r.1, record { entry = l.entry; of_units = l.of_units; place = r.0; lists = r.2; has_value = r.3 }, l.of_path, l.has_name)

pub lists_path : (units : Units) (dep : RecordDep) (value : RecordValue) → IsRecord units dep value → ListsUnder units dep.path dep.name
lists_path units dep value i = record {
  entry = i.entry;
  of_units = i.of_units;
  dep = dep;
  lists = contains i.entry.1.unit.records dep (at-has i.entry.1.unit.records i.place dep i.lists);
  of_path = refl;
  has_name = refl;
}

-- ---- what a row says

-- the occurrence and the symbol of a row
record IsOccurrenceAt (path : List ℕ) (value : RecordValue) (row : OccRow) : Type 0 where
  occurrence : Occurrence
  occurs : Has value.occurrences occurrence
  symbol : Symbol
  has_symbol : slice_get value.symbols occurrence.symbol ≡ Some symbol
  is_row : row_with path value.symbols occurrence symbol ≡ row

occurrence-out : (path : List ℕ) (value : RecordValue) (row : OccRow) → Has (rows_of_record path value) row → IsOccurrenceAt path value row
occurrence-out path value row h =
    let o = filter_map-out (occurrence_row path value.symbols) value.occurrences row h in
    let s = some-out (row_with path value.symbols o.0) (slice_get value.symbols o.0.symbol) row o.2 in
    record { occurrence = o.0; occurs = o.1; symbol = s.0; has_symbol = s.1; is_row = s.2 }

-- the path of a row is that of its record
pub row-path : (path : List ℕ) (value : RecordValue) (row : OccRow) → Has (rows_of_record path value) row → row.path ≡ path
row-path path value row h = let o = occurrence-out path value row h in sym (ap (λ (r : OccRow). r.path) o.is_row)

-- the record of a row holds a symbol of its USR
pub row-provided : (units : Units) (dep : RecordDep) (value : RecordValue) (row : OccRow) (usr : List ℕ) → IsRecord units dep value → Has (rows_of_record dep.path value) row → row.usr ≡ usr → IsProvider units usr dep.name
row-provided units dep value row usr i h e =
    let o = occurrence-out dep.path value row h in
    record {
      symbol = o.symbol;
      holds = record { dep = dep; value = value; of_units = i; has_name = refl; holds = contains value.symbols o.symbol (at-has value.symbols o.occurrence.symbol o.symbol o.has_symbol) };
      of_usr = ap (λ (r : OccRow). r.usr) o.is_row ∙ e;
    }

-- the record of a row has the relations of it
pub row-related : (units : Units) (dep : RecordDep) (value : RecordValue) (row : OccRow) (usr : List ℕ) (mask : ℕ) → IsRecord units dep value → Has (rows_of_record dep.path value) row → is_related usr mask row ≡ true → IsRelated units usr dep.name
row-related units dep value row usr mask i h t =
    let o = occurrence-out dep.path value row h in
    let a = any-out (λ relation. bytes_eq relation.usr usr && has_any relation.roles mask) row.relations t in
    let b = both-true (bytes_eq a.0.usr usr) (has_any a.0.roles mask) a.2 in
    let listed : Has (filter_map (relation_row value.symbols) o.occurrence.relations) a.0 = subst (λ (r : OccRow). Has r.relations a.0) (sym o.is_row) a.1 in
    let l = filter_map-out (relation_row value.symbols) o.occurrence.relations a.0 listed in
    let s = some-out (λ (s : Symbol). let made : RelRow = record { usr = s.usr; roles = l.0.roles } in made) (slice_get value.symbols l.0.symbol) a.0 l.2 in
    record {
      symbol = s.0;
      relates = record {
        dep = dep;
        value = value;
        of_units = i;
        has_name = refl;
        occurrence = o.occurrence;
        occurs = contains value.occurrences o.occurrence o.occurs;
        relation = l.0;
        relates = contains o.occurrence.relations l.0 l.1;
        leads = s.1;
      };
      of_usr = ap (λ (r : RelRow). r.usr) s.2 ∙ same a.0.usr usr b.0;
    }
