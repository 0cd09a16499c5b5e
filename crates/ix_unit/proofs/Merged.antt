-- Dependencies in one list, and those of each kind.
use Rattle.std.proofs.Common.{◌≡◌, ℕ, ◌+◌, List, [], ◌∷◌, ◌++◌, length, map, Option, Some, None, refl, sym, ap, ◌∙◌, append_assoc, arith}
use Rattle.std.specs.declared.cmp.Ordering.{Ordering}
use Rattle.std.specs.declared.cmp.Ordering.TheVariants.{Less, Equal, Greater}
use Rattle.std.specs.Cmp.{IsTotalOrder}
use Rattle.std.specs.List.{AllByRecursion, filter_map, flat_map, cons_option}
use Rattle.std.specs.List.Sorted.{IsStrictlySortedBy}
use Rattle.std.specs.Ordering.{nat_cmp, bool_cmp, on, then_cmp, ordering_then, ordering_reverse}
use Rattle.std.proofs.lemmas.Cmp.{nat_cmp_total, nat_list_cmp_total, on_total, then_total}
use Rattle.std.specs.Cmp.{bool_cmp_total}
use Rattle.std.proofs.lemmas.List.{append-nil}
use Rattle.std.proofs.lemmas.List.Elements.{filter_map-append}
use Rattle.std.specs.Prelude.{Bool, false}
use Rattle.ix_types.specs.Row.{text_cmp}
use Rattle.ix_unit.specs.declared.dependency.Dependency.{Dependency}
use Rattle.ix_unit.specs.declared.dependency.Dependency.TheVariants.{Unit, Record, File}
use Rattle.ix_unit.specs.declared.value.RecordDep.{RecordDep}
use Rattle.ix_unit.specs.declared.value.FileDep.{FileDep}
use Rattle.ix_unit.specs.ByKind.{as_unit, as_record, as_file}
use Rattle.ix_unit.specs.Order.{record_dep_cmp, file_dep_cmp, dependency_cmp}

-- ---- one item more

pub gives_one : {X Y : Type 0} (h : X → Option Y) (xs : List X) (x : X) (y : Y) → h x ≡ Some y → filter_map h (xs ++ x ∷ []) ≡ filter_map h xs ++ y ∷ []
gives_one {X} {Y} h xs x y e =
    let none : List Y = [] in
    filter_map-append h xs (x ∷ []) ∙ ap (λ (o : Option Y). filter_map h xs ++ cons_option o none) e

pub gives_none : {X Y : Type 0} (h : X → Option Y) (xs : List X) (x : X) → h x ≡ None → filter_map h (xs ++ x ∷ []) ≡ filter_map h xs
gives_none {X} {Y} h xs x e =
    let none : List Y = [] in
    filter_map-append h xs (x ∷ []) ∙ ap (λ (o : Option Y). filter_map h xs ++ cons_option o none) e ∙ append-nil (filter_map h xs)

-- ---- the order

same_order : {X : Type 0} (R S : X → X → Ordering) → ((x y : X) → R x y ≡ S x y) → IsTotalOrder S → IsTotalOrder R
same_order R S e s = record {
  antisymm = λ x y. e x y ∙ s.antisymm x y ∙ ap ordering_reverse (sym (e y x));
  trans = λ x y z p q. e x z ∙ s.trans x y z (sym (e x y) ∙ p) (sym (e y z) ∙ q);
  congr = λ x y z p. e x z ∙ s.congr x y z (sym (e x y) ∙ p) ∙ sym (e y z);
}

abbrev kind_of : Dependency → ℕ
kind_of (Unit a) = 1
kind_of (Record a) = 2
kind_of (File a) = 3

abbrev path_of : Dependency → List ℕ
path_of (Unit a) = a
path_of (Record a) = a.path
path_of (File a) = a.path

abbrev system_of : Dependency → Bool
system_of (Unit a) = false
system_of (Record a) = a.system
system_of (File a) = a.system

abbrev name_of : Dependency → List ℕ
name_of (Unit a) = []
name_of (Record a) = a.name
name_of (File a) = []

-- by kind, path, system and name
abbrev key_cmp : Dependency → Dependency → Ordering
key_cmp = then_cmp (on kind_of nat_cmp) (then_cmp (on path_of text_cmp) (then_cmp (on system_of bool_cmp) (on name_of text_cmp)))

key_order : IsTotalOrder key_cmp
key_order = then_total (on_total kind_of nat_cmp_total) (then_total (on_total path_of nat_list_cmp_total) (then_total (on_total system_of bool_cmp_total) (on_total name_of nat_list_cmp_total)))

then_equal : (o : Ordering) → ordering_then o Equal ≡ o
then_equal Less = refl
then_equal Equal = refl
then_equal Greater = refl

by_key : (x y : Dependency) → dependency_cmp x y ≡ key_cmp x y
by_key (Unit a) (Unit b) = sym (then_equal (text_cmp a b))
by_key (Unit a) (Record b) = refl
by_key (Unit a) (File b) = refl
by_key (Record a) (Unit b) = refl
by_key (Record a) (Record b) = refl
by_key (Record a) (File b) = refl
by_key (File a) (Unit b) = refl
by_key (File a) (Record b) = refl
by_key (File a) (File b) = ap (λ (o : Ordering). ordering_then (text_cmp a.path b.path) o) (sym (then_equal (bool_cmp a.system b.system)))

pub dependency_order : IsTotalOrder dependency_cmp
dependency_order = same_order dependency_cmp key_cmp by_key key_order

-- ---- one list of all

abbrev pub merged : List (List ℕ) → List RecordDep → List FileDep → List Dependency
merged us rs fs = map (λ u. Unit u) us ++ map (λ r. Record r) rs ++ map (λ f. File f) fs

abbrev IsAbove : Dependency → Dependency → Type 0
IsAbove x y = dependency_cmp x y ≡ Less

no_units_behind_record : (r : RecordDep) (ds : List Dependency) → AllByRecursion (IsAbove (Record r)) ds → filter_map as_unit ds ≡ []
no_units_behind_record r [] above = refl
no_units_behind_record r (Unit u ∷ ds) above = absurd cc
no_units_behind_record r (Record s ∷ ds) above = no_units_behind_record r ds above.1
no_units_behind_record r (File f ∷ ds) above = no_units_behind_record r ds above.1

no_units_behind_file : (f : FileDep) (ds : List Dependency) → AllByRecursion (IsAbove (File f)) ds → filter_map as_unit ds ≡ []
no_units_behind_file f [] above = refl
no_units_behind_file f (Unit u ∷ ds) above = absurd cc
no_units_behind_file f (Record s ∷ ds) above = absurd cc
no_units_behind_file f (File g ∷ ds) above = no_units_behind_file f ds above.1

no_records_behind_file : (f : FileDep) (ds : List Dependency) → AllByRecursion (IsAbove (File f)) ds → filter_map as_record ds ≡ []
no_records_behind_file f [] above = refl
no_records_behind_file f (Unit u ∷ ds) above = absurd cc
no_records_behind_file f (Record s ∷ ds) above = absurd cc
no_records_behind_file f (File g ∷ ds) above = no_records_behind_file f ds above.1

-- a rising list is that of its kinds
pub is_merged : (ds : List Dependency) → IsStrictlySortedBy dependency_cmp ds → ds ≡ merged (filter_map as_unit ds) (filter_map as_record ds) (filter_map as_file ds)
unfolding IsStrictlySortedBy
is_merged [] rising = refl
is_merged (Unit u ∷ ds) rising = ap (λ (xs : List Dependency). Unit u ∷ xs) (is_merged ds rising.1)
is_merged (Record r ∷ ds) rising =
    let e = no_units_behind_record r ds rising.0 in
    let h : ds ≡ merged [] (filter_map as_record ds) (filter_map as_file ds) = is_merged ds rising.1 ∙ ap (λ (us : List (List ℕ)). merged us (filter_map as_record ds) (filter_map as_file ds)) e in
    ap (λ (xs : List Dependency). Record r ∷ xs) h ∙ ap (λ (us : List (List ℕ)). merged us (r ∷ filter_map as_record ds) (filter_map as_file ds)) (sym e)
is_merged (File f ∷ ds) rising =
    let e = no_units_behind_file f ds rising.0 in
    let d = no_records_behind_file f ds rising.0 in
    let h : ds ≡ merged [] [] (filter_map as_file ds) = is_merged ds rising.1 ∙ ap (λ (us : List (List ℕ)). merged us (filter_map as_record ds) (filter_map as_file ds)) e ∙ ap (λ (rs : List RecordDep). merged [] rs (filter_map as_file ds)) d in
    ap (λ (xs : List Dependency). File f ∷ xs) h ∙ ap (λ (rs : List RecordDep). merged [] rs (f ∷ filter_map as_file ds)) (sym d) ∙ ap (λ (us : List (List ℕ)). merged us (filter_map as_record ds) (f ∷ filter_map as_file ds)) (sym e)

-- ---- the kinds of a merged list

pub units_of_merged : (us : List (List ℕ)) (rs : List RecordDep) (fs : List FileDep) → filter_map as_unit (merged us rs fs) ≡ us
units_of_merged [] [] [] = refl
units_of_merged [] [] (f ∷ fs) = units_of_merged [] [] fs
units_of_merged [] (r ∷ rs) fs = units_of_merged [] rs fs
units_of_merged (u ∷ us) rs fs = ap (λ (xs : List (List ℕ)). u ∷ xs) (units_of_merged us rs fs)

pub records_of_merged : (us : List (List ℕ)) (rs : List RecordDep) (fs : List FileDep) → filter_map as_record (merged us rs fs) ≡ rs
records_of_merged [] [] [] = refl
records_of_merged [] [] (f ∷ fs) = records_of_merged [] [] fs
records_of_merged [] (r ∷ rs) fs = ap (λ (xs : List RecordDep). r ∷ xs) (records_of_merged [] rs fs)
records_of_merged (u ∷ us) rs fs = records_of_merged us rs fs

pub files_of_merged : (us : List (List ℕ)) (rs : List RecordDep) (fs : List FileDep) → filter_map as_file (merged us rs fs) ≡ fs
files_of_merged [] [] [] = refl
files_of_merged [] [] (f ∷ fs) = ap (λ (xs : List FileDep). f ∷ xs) (files_of_merged [] [] fs)
files_of_merged [] (r ∷ rs) fs = files_of_merged [] rs fs
files_of_merged (u ∷ us) rs fs = files_of_merged us rs fs

pub length-merged : (us : List (List ℕ)) (rs : List RecordDep) (fs : List FileDep) → length (merged us rs fs) ≡ length us + length rs + length fs
length-merged [] [] [] = refl
length-merged [] [] (f ∷ fs) = omega (arith, length-merged [] [] fs)
length-merged [] (r ∷ rs) fs = omega (arith, length-merged [] rs fs)
length-merged (u ∷ us) rs fs = omega (arith, length-merged us rs fs)

-- ---- a rule for each kind

abbrev pub Each : (List ℕ → Type 0) → (RecordDep → Type 0) → (FileDep → Type 0) → Dependency → Type 0
Each P Q R (Unit u) = P u
Each P Q R (Record r) = Q r
Each P Q R (File f) = R f

pub each_of_merged : (P : List ℕ → Type 0) (Q : RecordDep → Type 0) (R : FileDep → Type 0) (us : List (List ℕ)) (rs : List RecordDep) (fs : List FileDep) → AllByRecursion P us → AllByRecursion Q rs → AllByRecursion R fs → AllByRecursion (Each P Q R) (merged us rs fs)
each_of_merged P Q R [] [] [] p q r = tt
each_of_merged P Q R [] [] (f ∷ fs) p q r = (r.0, each_of_merged P Q R [] [] fs p q r.1)
each_of_merged P Q R [] (x ∷ xs) fs p q r = (q.0, each_of_merged P Q R [] xs fs p q.1 r)
each_of_merged P Q R (u ∷ us) rs fs p q r = (p.0, each_of_merged P Q R us rs fs p.1 q r)

pub units_each : (P : List ℕ → Type 0) (Q : RecordDep → Type 0) (R : FileDep → Type 0) (ds : List Dependency) → AllByRecursion (Each P Q R) ds → AllByRecursion P (filter_map as_unit ds)
units_each P Q R [] all = tt
units_each P Q R (Unit u ∷ ds) all = (all.0, units_each P Q R ds all.1)
units_each P Q R (Record r ∷ ds) all = units_each P Q R ds all.1
units_each P Q R (File f ∷ ds) all = units_each P Q R ds all.1

pub records_each : (P : List ℕ → Type 0) (Q : RecordDep → Type 0) (R : FileDep → Type 0) (ds : List Dependency) → AllByRecursion (Each P Q R) ds → AllByRecursion Q (filter_map as_record ds)
records_each P Q R [] all = tt
records_each P Q R (Unit u ∷ ds) all = records_each P Q R ds all.1
records_each P Q R (Record r ∷ ds) all = (all.0, records_each P Q R ds all.1)
records_each P Q R (File f ∷ ds) all = records_each P Q R ds all.1

pub files_each : (P : List ℕ → Type 0) (Q : RecordDep → Type 0) (R : FileDep → Type 0) (ds : List Dependency) → AllByRecursion (Each P Q R) ds → AllByRecursion R (filter_map as_file ds)
files_each P Q R [] all = tt
files_each P Q R (Unit u ∷ ds) all = files_each P Q R ds all.1
files_each P Q R (Record r ∷ ds) all = files_each P Q R ds all.1
files_each P Q R (File f ∷ ds) all = (all.0, files_each P Q R ds all.1)

-- ---- rising lists

abbrev IsBelowText : List ℕ → List ℕ → Type 0
IsBelowText a b = text_cmp a b ≡ Less

units_above : (u : List ℕ) (ds : List Dependency) → AllByRecursion (IsAbove (Unit u)) ds → AllByRecursion (IsBelowText u) (filter_map as_unit ds)
units_above u [] above = tt
units_above u (Unit v ∷ ds) above = (above.0, units_above u ds above.1)
units_above u (Record r ∷ ds) above = units_above u ds above.1
units_above u (File f ∷ ds) above = units_above u ds above.1

records_above : (r : RecordDep) (ds : List Dependency) → AllByRecursion (IsAbove (Record r)) ds → AllByRecursion (λ s. record_dep_cmp r s ≡ Less) (filter_map as_record ds)
records_above r [] above = tt
records_above r (Unit v ∷ ds) above = records_above r ds above.1
records_above r (Record s ∷ ds) above = (above.0, records_above r ds above.1)
records_above r (File f ∷ ds) above = records_above r ds above.1

files_above : (f : FileDep) (ds : List Dependency) → AllByRecursion (IsAbove (File f)) ds → AllByRecursion (λ g. file_dep_cmp f g ≡ Less) (filter_map as_file ds)
files_above f [] above = tt
files_above f (Unit v ∷ ds) above = files_above f ds above.1
files_above f (Record s ∷ ds) above = files_above f ds above.1
files_above f (File g ∷ ds) above = (above.0, files_above f ds above.1)

pub units_rise : (ds : List Dependency) → IsStrictlySortedBy dependency_cmp ds → IsStrictlySortedBy text_cmp (filter_map as_unit ds)
unfolding IsStrictlySortedBy
units_rise [] rising = tt
units_rise (Unit u ∷ ds) rising = (units_above u ds rising.0, units_rise ds rising.1)
units_rise (Record r ∷ ds) rising = units_rise ds rising.1
units_rise (File f ∷ ds) rising = units_rise ds rising.1

pub records_rise : (ds : List Dependency) → IsStrictlySortedBy dependency_cmp ds → IsStrictlySortedBy record_dep_cmp (filter_map as_record ds)
unfolding IsStrictlySortedBy
records_rise [] rising = tt
records_rise (Unit u ∷ ds) rising = records_rise ds rising.1
records_rise (Record r ∷ ds) rising = (records_above r ds rising.0, records_rise ds rising.1)
records_rise (File f ∷ ds) rising = records_rise ds rising.1

pub files_rise : (ds : List Dependency) → IsStrictlySortedBy dependency_cmp ds → IsStrictlySortedBy file_dep_cmp (filter_map as_file ds)
unfolding IsStrictlySortedBy
files_rise [] rising = tt
files_rise (Unit u ∷ ds) rising = files_rise ds rising.1
files_rise (Record r ∷ ds) rising = files_rise ds rising.1
files_rise (File f ∷ ds) rising = (files_above f ds rising.0, files_rise ds rising.1)

merged_above_file : (f : FileDep) (fs : List FileDep) → AllByRecursion (λ g. file_dep_cmp f g ≡ Less) fs → AllByRecursion (IsAbove (File f)) (map (λ g. File g) fs)
merged_above_file f [] above = tt
merged_above_file f (g ∷ gs) above = (above.0, merged_above_file f gs above.1)

merged_above_record : (r : RecordDep) (rs : List RecordDep) (fs : List FileDep) → AllByRecursion (λ s. record_dep_cmp r s ≡ Less) rs → AllByRecursion (IsAbove (Record r)) (merged [] rs fs)
merged_above_record r [] [] above = tt
merged_above_record r [] (f ∷ fs) above = (refl, merged_above_record r [] fs above)
merged_above_record r (s ∷ rs) fs above = (above.0, merged_above_record r rs fs above.1)

merged_above_unit : (u : List ℕ) (us : List (List ℕ)) (rs : List RecordDep) (fs : List FileDep) → AllByRecursion (IsBelowText u) us → AllByRecursion (IsAbove (Unit u)) (merged us rs fs)
merged_above_unit u [] [] [] above = tt
merged_above_unit u [] [] (f ∷ fs) above = (refl, merged_above_unit u [] [] fs above)
merged_above_unit u [] (r ∷ rs) fs above = (refl, merged_above_unit u [] rs fs above)
merged_above_unit u (v ∷ us) rs fs above = (above.0, merged_above_unit u us rs fs above.1)

pub merged_rises : (us : List (List ℕ)) (rs : List RecordDep) (fs : List FileDep) → IsStrictlySortedBy text_cmp us → IsStrictlySortedBy record_dep_cmp rs → IsStrictlySortedBy file_dep_cmp fs → IsStrictlySortedBy dependency_cmp (merged us rs fs)
unfolding IsStrictlySortedBy
merged_rises [] [] [] p q r = tt
merged_rises [] [] (f ∷ fs) p q r = (merged_above_file f fs r.0, merged_rises [] [] fs p q r.1)
merged_rises [] (x ∷ xs) fs p q r = (merged_above_record x xs fs q.0, merged_rises [] xs fs p q.1 r)
merged_rises (u ∷ us) rs fs p q r = (merged_above_unit u us rs fs p.0, merged_rises us rs fs p.1 q r)

-- ---- spellings of a merged list

pub flat_map-merged : (spell : Dependency → List ℕ) (us : List (List ℕ)) (rs : List RecordDep) (fs : List FileDep)
    → flat_map spell (merged us rs fs) ≡ flat_map (λ u. spell (Unit u)) us ++ flat_map (λ r. spell (Record r)) rs ++ flat_map (λ f. spell (File f)) fs
flat_map-merged spell [] [] [] = refl
flat_map-merged spell [] [] (f ∷ fs) = ap (λ (bs : List ℕ). spell (File f) ++ bs) (flat_map-merged spell [] [] fs)
flat_map-merged spell [] (r ∷ rs) fs =
    ap (λ (bs : List ℕ). spell (Record r) ++ bs) (flat_map-merged spell [] rs fs) ∙ sym (append_assoc (spell (Record r)) (flat_map (λ x. spell (Record x)) rs) (flat_map (λ f. spell (File f)) fs))
flat_map-merged spell (u ∷ us) rs fs =
    let regrouped : spell (Unit u) ++ (flat_map (λ x. spell (Unit x)) us ++ flat_map (λ r. spell (Record r)) rs ++ flat_map (λ f. spell (File f)) fs)
    ≡ (spell (Unit u) ++ flat_map (λ x. spell (Unit x)) us) ++ flat_map (λ r. spell (Record r)) rs ++ flat_map (λ f. spell (File f)) fs = simp append_assoc in
    ap (λ (bs : List ℕ). spell (Unit u) ++ bs) (flat_map-merged spell us rs fs) ∙ regrouped
