-- What is spelled is read, and what is read was spelled: dependencies, includes, and the fields of a unit.
use Rattle.std.proofs.Common.{◌≡◌, ℕ, ◌^◌, ◌<◌, ◌+◌, ◌==◌, Bool, List, ◌++◌, length, Ok, refl, sym, ap, subst, ◌∙◌, append_assoc, arith}
use Rattle.std.specs.declared.cmp.Ordering.{Ordering}
use Rattle.std.specs.Cmp.{IsTotalOrder}
use Rattle.std.specs.List.{AllByRecursion, flat_map, filter_map}
use Rattle.std.proofs.lemmas.Bool.{eqb-true}
use Rattle.std.proofs.lemmas.Cmp.{nat_cmp_total, nat_list_cmp_total, on_total, then_total}
use Rattle.std.proofs.lemmas.List.Elements.{All-from_recursion, recursion_from_All}
use Rattle.ix_types.specs.Text.{IsText, IsTextOrEmpty}
use Rattle.ix_wire.specs.Input.{Input, Passes}
use Rattle.ix_wire.specs.Read.{◌>>=◌}
use Rattle.ix_wire.specs.Spelling.{IsBytes, u32_bytes, text_bytes}
use Rattle.ix_wire.proofs.Door.{of_test, IsItems, items_reader, IsReader, step, done_is, passes_join, passes_split}
use Rattle.ix_unit.specs.declared.dependency.Dependency.{Dependency}
use Rattle.ix_unit.specs.declared.dependency.Dependency.TheVariants.{Unit, Record, File}
use Rattle.ix_unit.specs.declared.fault.UnitError.TheVariants.{OutOfOrder}
use Rattle.ix_unit.specs.declared.value.RecordDep.{RecordDep}
use Rattle.ix_unit.specs.declared.value.FileDep.{FileDep}
use Rattle.ix_unit.specs.declared.value.Include.{Include}
use Rattle.ix_unit.specs.declared.value.UnitValue.{UnitValue}
use Rattle.ix_unit.specs.ByKind.{as_unit, as_record, as_file}
use Rattle.ix_unit.specs.Order.{dependency_cmp, include_cmp}
use Rattle.ix_unit.specs.Value.{IsValidRecordDep, IsValidFileDep, IsValidInclude, IsValidUnit, dependency_count}
use Rattle.ix_unit.specs.Spelling.{magic_bytes, flag_bytes, unit_dep_bytes, record_dep_bytes, file_dep_bytes, include_bytes, unit_bytes}
use Rattle.ix_unit.specs.Reading.{Read, number_at, path_at, any_text_at, magic_at, flag_at, line_at, name_at, record_dep_at, file_dep_at, dependency_of, dependency_at, dependencies_at, include_at, includes_at, unit_fields_at}
use Rattle.ix_unit.proofs.Merged.{Each, merged, dependency_order, is_merged, units_of_merged, records_of_merged, files_of_merged, length-merged, each_of_merged, units_each, records_each, files_each, units_rise, records_rise, files_rise, merged_rises, flat_map-merged}
use Rattle.ix_unit.proofs.Readers.{number_reader, path_reader, any_text_reader, magic_reader, flag_reader, line_reader, name_reader}

include_order : IsTotalOrder include_cmp
include_order = then_total (on_total (λ (i : Include). i.from) nat_list_cmp_total) (then_total (on_total (λ (i : Include). i.line) nat_cmp_total) (on_total (λ (i : Include). i.to) nat_list_cmp_total))

-- ---- a record

abbrev record_dep_fields : RecordDep → List ℕ
record_dep_fields d = text_bytes d.path ++ flag_bytes d.system ++ text_bytes d.name

record_dep_read : (from to : Input) (d : RecordDep) → IsValidRecordDep d → Passes from (record_dep_fields d) to → record_dep_at from ≡ Ok (d, to)
unfolding record_dep_at
record_dep_read from to d valid passes =
    let b = passes_split from to (text_bytes d.path ++ flag_bytes d.system) (text_bytes d.name) passes in
    let a = passes_split from b.0 (text_bytes d.path) (flag_bytes d.system) b.1 in
    rw (path_reader.is_read from a.0 d.path valid.path_text a.1, flag_reader.is_read a.0 b.0 d.system tt a.2, name_reader.is_read b.0 to d.name valid.file_name b.2) refl

record_dep_was_spelled : (from to : Input) (d : RecordDep) → IsBytes from.rest → record_dep_at from ≡ Ok (d, to) → IsValidRecordDep d × Passes from (record_dep_fields d) to
unfolding record_dep_at
record_dep_was_spelled from to d bytes e =
    let a = step path_at text_bytes _ path_reader _ from (d, to) bytes e in
    let b = step flag_at flag_bytes _ flag_reader _ a.0.1 (d, to) a.1.bytes a.1.goes_on in
    let c = step name_at text_bytes _ name_reader _ b.0.1 (d, to) b.1.bytes b.1.goes_on in
    let made : RecordDep = record { path = a.0.0; system = b.0.0; name = c.0.0 } in
    let ab = passes_join from a.0.1 b.0.1 _ _ a.1.passes b.1.passes in
    let whole = passes_join from b.0.1 c.0.1 _ _ ab c.1.passes in
    let valid : IsValidRecordDep made = record { path_text = a.1.valid; file_name = c.1.valid } in
    subst (λ (x : RecordDep × Input). IsValidRecordDep x.0 × Passes from (record_dep_fields x.0) x.1) (done_is (made, c.0.1) (d, to) c.1.goes_on) (valid, whole)

record_dep_reader : IsReader record_dep_at record_dep_fields IsValidRecordDep
record_dep_reader = record { is_read = record_dep_read; was_spelled = record_dep_was_spelled }

-- ---- a file

abbrev file_dep_fields : FileDep → List ℕ
file_dep_fields d = text_bytes d.path ++ flag_bytes d.system

file_dep_read : (from to : Input) (d : FileDep) → IsValidFileDep d → Passes from (file_dep_fields d) to → file_dep_at from ≡ Ok (d, to)
unfolding file_dep_at
file_dep_read from to d valid passes =
    let a = passes_split from to (text_bytes d.path) (flag_bytes d.system) passes in
    rw (path_reader.is_read from a.0 d.path valid a.1, flag_reader.is_read a.0 to d.system tt a.2) refl

file_dep_was_spelled : (from to : Input) (d : FileDep) → IsBytes from.rest → file_dep_at from ≡ Ok (d, to) → IsValidFileDep d × Passes from (file_dep_fields d) to
unfolding file_dep_at
file_dep_was_spelled from to d bytes e =
    let a = step path_at text_bytes _ path_reader _ from (d, to) bytes e in
    let b = step flag_at flag_bytes _ flag_reader _ a.0.1 (d, to) a.1.bytes a.1.goes_on in
    let made : FileDep = record { path = a.0.0; system = b.0.0 } in
    let whole = passes_join from a.0.1 b.0.1 _ _ a.1.passes b.1.passes in
    subst (λ (x : FileDep × Input). IsValidFileDep x.0 × Passes from (file_dep_fields x.0) x.1) (done_is (made, b.0.1) (d, to) b.1.goes_on) (a.1.valid, whole)

file_dep_reader : IsReader file_dep_at file_dep_fields IsValidFileDep
file_dep_reader = record { is_read = file_dep_read; was_spelled = file_dep_was_spelled }

-- ---- a dependency of any kind

abbrev pub IsValidDependency : Dependency → Type 0
IsValidDependency = Each IsText IsValidRecordDep IsValidFileDep

abbrev fields_of : Dependency → List ℕ
fields_of (Unit u) = text_bytes u
fields_of (Record r) = record_dep_fields r
fields_of (File f) = file_dep_fields f

abbrev number_of : Dependency → ℕ
number_of (Unit u) = 1
number_of (Record r) = 2
number_of (File f) = 3

-- the number of the kind, and the fields
abbrev pub dependency_bytes : Dependency → List ℕ
dependency_bytes d = u32_bytes (number_of d) ++ fields_of d

number_fits : (d : Dependency) → number_of d < 2 ^ 32
number_fits (Unit u) = omega arith
number_fits (Record r) = omega arith
number_fits (File f) = omega arith

fields_read : (start : ℕ) (from to : Input) (d : Dependency) → IsValidDependency d → Passes from (fields_of d) to → dependency_of start (number_of d) from ≡ Ok (d, to)
unfolding dependency_of
fields_read start from to (Unit u) valid passes = rw (path_reader.is_read from to u valid passes) refl
fields_read start from to (Record r) valid passes = rw (record_dep_reader.is_read from to r valid passes) refl
fields_read start from to (File f) valid passes = rw (file_dep_reader.is_read from to f valid passes) refl

-- the kind, the rules and the fields of what was read
abbrev IsOfKind : ℕ → Input → Dependency × Input → Type 0
IsOfKind kind from y = (kind ≡ number_of y.0) × IsValidDependency y.0 × Passes from (fields_of y.0) y.1

one_field : {A : Type 0} (read : Input → Read A) (spelling : A → List ℕ) (P : A → Type 0) (made : A → Dependency) → IsReader read spelling P
    → (from : Input) (y : Dependency × Input) → IsBytes from.rest → (read from >>= λ x. Ok (made x.0, x.1)) ≡ Ok y → (x : A × Input) × P x.0 × Passes from (spelling x.0) x.1 × ((made x.0, x.1) ≡ y)
one_field read spelling P made reader from y bytes e =
    let s = step read spelling P reader (λ x. Ok (made x.0, x.1)) from y bytes e in
    (s.0, s.1.valid, s.1.passes, done_is (made s.0.0, s.0.1) y s.1.goes_on)

fields_were_spelled : (start kind : ℕ) (from : Input) (y : Dependency × Input) → IsBytes from.rest → dependency_of start kind from ≡ Ok y → IsOfKind kind from y
unfolding dependency_of
fields_were_spelled start kind from y bytes e =
    of_test (kind == 1) _ _ y e
    (λ k h. let s = one_field path_at text_bytes IsText (λ u. Unit u) path_reader from y bytes h in subst (λ (z : Dependency × Input). IsOfKind kind from z) s.3 (eqb-true kind 1 k, s.1, s.2))
    (λ f. of_test (kind == 2) _ _ y f
    (λ k h. let s = one_field record_dep_at record_dep_fields IsValidRecordDep (λ r. Record r) record_dep_reader from y bytes h in subst (λ (z : Dependency × Input). IsOfKind kind from z) s.3 (eqb-true kind 2 k, s.1, s.2))
    (λ g. of_test (kind == 3) _ _ y g
    (λ k h. let s = one_field file_dep_at file_dep_fields IsValidFileDep (λ d. File d) file_dep_reader from y bytes h in subst (λ (z : Dependency × Input). IsOfKind kind from z) s.3 (eqb-true kind 3 k, s.1, s.2))
    (λ h. absurd cc)))

dependency_read : (from to : Input) (d : Dependency) → IsValidDependency d → Passes from (dependency_bytes d) to → dependency_at from ≡ Ok (d, to)
unfolding dependency_at
dependency_read from to d valid passes =
    let a = passes_split from to (u32_bytes (number_of d)) (fields_of d) passes in
    rw (number_reader.is_read from a.0 (number_of d) (number_fits d) a.1, fields_read from.at a.0 to d valid a.2) refl

dependency_was_spelled : (from to : Input) (d : Dependency) → IsBytes from.rest → dependency_at from ≡ Ok (d, to) → IsValidDependency d × Passes from (dependency_bytes d) to
unfolding dependency_at
dependency_was_spelled from to d bytes e =
    let a = step number_at u32_bytes _ number_reader _ from (d, to) bytes e in
    let f = fields_were_spelled from.at a.0.0 a.0.1 (d, to) a.1.bytes a.1.goes_on in
    let kind : Passes from (u32_bytes (number_of d)) a.0.1 = rw (← f.0) a.1.passes in
    (f.1, passes_join from a.0.1 to _ _ kind f.2)

dependency_reader : IsReader dependency_at dependency_bytes IsValidDependency
dependency_reader = record { is_read = dependency_read; was_spelled = dependency_was_spelled }

dependencies_reader : (count : ℕ) → IsReader (dependencies_at count) (flat_map dependency_bytes) (IsItems IsValidDependency dependency_cmp count)
unfolding dependencies_at
dependencies_reader = items_reader OutOfOrder dependency_at dependency_bytes IsValidDependency dependency_cmp dependency_reader dependency_order

-- ---- includes

include_read : (from to : Input) (i : Include) → IsValidInclude i → Passes from (include_bytes i) to → include_at from ≡ Ok (i, to)
unfolding include_at include_bytes
include_read from to i valid passes =
    let b = passes_split from to (text_bytes i.from ++ u32_bytes i.line) (text_bytes i.to) passes in
    let a = passes_split from b.0 (text_bytes i.from) (u32_bytes i.line) b.1 in
    rw (path_reader.is_read from a.0 i.from valid.from_text a.1, line_reader.is_read a.0 b.0 i.line valid.line_counts a.2, path_reader.is_read b.0 to i.to valid.to_text b.2) refl

include_was_spelled : (from to : Input) (i : Include) → IsBytes from.rest → include_at from ≡ Ok (i, to) → IsValidInclude i × Passes from (include_bytes i) to
unfolding include_at include_bytes
include_was_spelled from to i bytes e =
    let a = step path_at text_bytes _ path_reader _ from (i, to) bytes e in
    let b = step line_at u32_bytes _ line_reader _ a.0.1 (i, to) a.1.bytes a.1.goes_on in
    let c = step path_at text_bytes _ path_reader _ b.0.1 (i, to) b.1.bytes b.1.goes_on in
    let made : Include = record { from = a.0.0; line = b.0.0; to = c.0.0 } in
    let ab = passes_join from a.0.1 b.0.1 _ _ a.1.passes b.1.passes in
    let whole = passes_join from b.0.1 c.0.1 _ _ ab c.1.passes in
    let valid : IsValidInclude made = record { from_text = a.1.valid; line_counts = b.1.valid; to_text = c.1.valid } in
    subst (λ (x : Include × Input). IsValidInclude x.0 × Passes from (include_bytes x.0) x.1) (done_is (made, c.0.1) (i, to) c.1.goes_on) (valid, whole)

include_reader : IsReader include_at include_bytes IsValidInclude
include_reader = record { is_read = include_read; was_spelled = include_was_spelled }

includes_reader : (count : ℕ) → IsReader (includes_at count) (flat_map include_bytes) (IsItems IsValidInclude include_cmp count)
unfolding includes_at
includes_reader = items_reader OutOfOrder include_at include_bytes IsValidInclude include_cmp include_reader include_order

-- ---- all fields

abbrev pub magic_number : ℕ
magic_number = 0x4958_5531

pub magic_is : u32_bytes magic_number ≡ magic_bytes
unfolding u32_bytes
magic_is = refl

magic_passes : (from to : Input) (n : ℕ) → n ≡ magic_number → Passes from (u32_bytes n) to → Passes from magic_bytes to
magic_passes from to n e passes = subst (λ (b : List ℕ). Passes from b to) (ap u32_bytes e ∙ magic_is) passes

-- the dependencies of a unit in one list
abbrev pub all_of : UnitValue → List Dependency
all_of v = merged v.units v.records v.files

kinds_spelled : (us : List (List ℕ)) (rs : List RecordDep) (fs : List FileDep) → flat_map dependency_bytes (merged us rs fs) ≡ flat_map unit_dep_bytes us ++ flat_map record_dep_bytes rs ++ flat_map file_dep_bytes fs
unfolding unit_dep_bytes record_dep_bytes file_dep_bytes
kinds_spelled us rs fs = flat_map-merged dependency_bytes us rs fs

-- before the dependencies
abbrev head_bytes : UnitValue → List ℕ
head_bytes v = magic_bytes ++ text_bytes v.output ++ text_bytes v.main_file ++ text_bytes v.module_name ++ flag_bytes v.system

-- with the dependencies in one list
abbrev listed_bytes : UnitValue → List ℕ
listed_bytes v = head_bytes v ++ u32_bytes (length (all_of v)) ++ flat_map dependency_bytes (all_of v) ++ u32_bytes (length v.includes) ++ flat_map include_bytes v.includes

regroup : (h n a b c m i : List ℕ) → h ++ n ++ (a ++ b ++ c) ++ m ++ i ≡ h ++ n ++ a ++ b ++ c ++ m ++ i
regroup h n a b c m i = simp append_assoc

listed_is : (v : UnitValue) → listed_bytes v ≡ unit_bytes v
unfolding unit_bytes
listed_is v =
    rw (length-merged v.units v.records v.files, kinds_spelled v.units v.records v.files)
    (regroup (head_bytes v) (u32_bytes (dependency_count v)) (flat_map unit_dep_bytes v.units) (flat_map record_dep_bytes v.records) (flat_map file_dep_bytes v.files) (u32_bytes (length v.includes)) (flat_map include_bytes v.includes))

all_valid : (v : UnitValue) → IsValidUnit v → AllByRecursion IsValidDependency (all_of v)
all_valid v valid =
    each_of_merged IsText IsValidRecordDep IsValidFileDep v.units v.records v.files
    (recursion_from_All IsText v.units valid.unit_texts) (recursion_from_All IsValidRecordDep v.records valid.valid_records) (recursion_from_All IsValidFileDep v.files valid.valid_files)

pub unit_read : (from to : Input) (v : UnitValue) → IsValidUnit v → Passes from (unit_bytes v) to → unit_fields_at from ≡ Ok (v, to)
unfolding unit_fields_at
unit_read from to v valid passes =
    let listed : Passes from (listed_bytes v) to = rw (listed_is v) passes in
    let output = text_bytes v.output in
    let main = text_bytes v.main_file in
    let named = text_bytes v.module_name in
    let system = flag_bytes v.system in
    let all = all_of v in
    let count = u32_bytes (length all) in
    let each = flat_map dependency_bytes all in
    let more = u32_bytes (length v.includes) in
    let i = passes_split from to (head_bytes v ++ count ++ each ++ more) (flat_map include_bytes v.includes) listed in
    let h = passes_split from i.0 (head_bytes v ++ count ++ each) more i.1 in
    let g = passes_split from h.0 (head_bytes v ++ count) each h.1 in
    let f = passes_split from g.0 (head_bytes v) count g.1 in
    let d = passes_split from f.0 (magic_bytes ++ output ++ main ++ named) system f.1 in
    let c = passes_split from d.0 (magic_bytes ++ output ++ main) named d.1 in
    let b = passes_split from c.0 (magic_bytes ++ output) main c.1 in
    let a = passes_split from b.0 magic_bytes output b.1 in
    let magic : Passes from (u32_bytes magic_number) a.0 = rw magic_is a.1 in
    let few : length all < 2 ^ 32 = rw (length-merged v.units v.records v.files) valid.few_dependencies in
    let items : IsItems IsValidDependency dependency_cmp (length all) all = record { counted = refl; valid = all_valid v valid; rising = merged_rises v.units v.records v.files valid.rising_units valid.rising_records valid.rising_files } in
    let includes : IsItems IsValidInclude include_cmp (length v.includes) v.includes = record { counted = refl; valid = recursion_from_All IsValidInclude v.includes valid.valid_includes; rising = valid.rising_includes } in
    rw (
      magic_reader.is_read from a.0 magic_number refl magic,
      path_reader.is_read a.0 b.0 v.output valid.output_text a.2,
      any_text_reader.is_read b.0 c.0 v.main_file valid.main_text b.2,
      any_text_reader.is_read c.0 d.0 v.module_name valid.module_text c.2,
      flag_reader.is_read d.0 f.0 v.system tt d.2,
      number_reader.is_read f.0 g.0 (length all) few f.2,
      (dependencies_reader (length all)).is_read g.0 h.0 all items g.2,
      number_reader.is_read h.0 i.0 (length v.includes) valid.few_includes h.2,
      (includes_reader (length v.includes)).is_read i.0 to v.includes includes i.2,
      units_of_merged v.units v.records v.files,
      records_of_merged v.units v.records v.files,
      files_of_merged v.units v.records v.files,
    ) refl

-- ---- what was read was spelled

-- the unit of these fields, with its dependencies in one list
abbrev unit_of : List ℕ → List ℕ → List ℕ → Bool → List Dependency → List Include → UnitValue
unit_of output main named system ds includes =
    record { output = output; main_file = main; module_name = named; system = system; units = filter_map as_unit ds; records = filter_map as_record ds; files = filter_map as_file ds; includes = includes }

-- what stands behind the first five fields
abbrev tail_at : List ℕ → List ℕ → List ℕ → Bool → Input → Read UnitValue
tail_at output main named system from =
    number_at from >>= λ g. (dependencies_at g.0 g.1 >>= λ h. (number_at h.1 >>= λ i. (includes_at i.0 i.1 >>= λ j. Ok (unit_of output main named system h.0 j.0, j.1))))

abbrev tail_bytes : List Dependency → List Include → List ℕ
tail_bytes ds includes = u32_bytes (length ds) ++ flat_map dependency_bytes ds ++ u32_bytes (length includes) ++ flat_map include_bytes includes

-- so many dependencies and includes
abbrev AreItems : List Dependency → List Include → Type 0
AreItems ds includes = (length ds < 2 ^ 32) × IsItems IsValidDependency dependency_cmp (length ds) ds × (length includes < 2 ^ 32) × IsItems IsValidInclude include_cmp (length includes) includes

recount : {X : Type 0} (P : X → Type 0) (cmp : X → X → Ordering) (n : ℕ) (xs : List X) → IsItems P cmp n xs → IsItems P cmp (length xs) xs
recount P cmp n xs items = record { counted = refl; valid = items.valid; rising = items.rising }

tail_was_spelled : (output main named : List ℕ) (system : Bool) (from : Input) (y : UnitValue × Input) → IsBytes from.rest → tail_at output main named system from ≡ Ok y
    → (x : List Dependency × List Include) × AreItems x.0 x.1 × Passes from (tail_bytes x.0 x.1) y.1 × (y.0 ≡ unit_of output main named system x.0 x.1)
tail_was_spelled output main named system from y bytes e =
    let g = step number_at u32_bytes _ number_reader _ from y bytes e in
    let h = step (dependencies_at g.0.0) (flat_map dependency_bytes) _ (dependencies_reader g.0.0) _ g.0.1 y g.1.bytes g.1.goes_on in
    let i = step number_at u32_bytes _ number_reader _ h.0.1 y h.1.bytes h.1.goes_on in
    let j = step (includes_at i.0.0) (flat_map include_bytes) _ (includes_reader i.0.0) _ i.0.1 y i.1.bytes i.1.goes_on in
    let made : UnitValue × Input = (unit_of output main named system h.0.0 j.0.0, j.0.1) in
    let same = done_is made y j.1.goes_on in
    let few : length h.0.0 < 2 ^ 32 = rw h.1.valid.counted g.1.valid in
    let few_more : length j.0.0 < 2 ^ 32 = rw j.1.valid.counted i.1.valid in
    let number : Passes from (u32_bytes (length h.0.0)) g.0.1 = rw h.1.valid.counted g.1.passes in
    let more : Passes h.0.1 (u32_bytes (length j.0.0)) i.0.1 = rw j.1.valid.counted i.1.passes in
    let first = passes_join from g.0.1 h.0.1 _ _ number h.1.passes in
    let second = passes_join from h.0.1 i.0.1 _ _ first more in
    let whole : Passes from (tail_bytes h.0.0 j.0.0) j.0.1 = passes_join from i.0.1 j.0.1 _ _ second j.1.passes in
    let items : AreItems h.0.0 j.0.0 = (few, recount IsValidDependency dependency_cmp g.0.0 h.0.0 h.1.valid, few_more, recount IsValidInclude include_cmp i.0.0 j.0.0 j.1.valid) in
    let passes : Passes from (tail_bytes h.0.0 j.0.0) y.1 = subst (λ (z : UnitValue × Input). Passes from (tail_bytes h.0.0 j.0.0) z.1) same whole in
    let made_is : y.0 ≡ unit_of output main named system h.0.0 j.0.0 = ap (λ (z : UnitValue × Input). z.0) (sym same) in
    ((h.0.0, j.0.0), items, passes, made_is)

unit_of_valid : (output main named : List ℕ) (system : Bool) (ds : List Dependency) (includes : List Include) → IsText output → IsTextOrEmpty main → IsTextOrEmpty named → AreItems ds includes → IsValidUnit (unit_of output main named system ds includes)
unit_of_valid output main named system ds includes is_output is_main is_named items =
    let all = items.1.valid in
    let rising = items.1.rising in
    let counted : length ds ≡ length (filter_map as_unit ds) + length (filter_map as_record ds) + length (filter_map as_file ds) =
    ap (λ (xs : List Dependency). length xs) (is_merged ds rising) ∙ length-merged (filter_map as_unit ds) (filter_map as_record ds) (filter_map as_file ds) in
    record {
      output_text = is_output;
      main_text = is_main;
      module_text = is_named;
      few_dependencies = rw (← counted) items.0;
      unit_texts = All-from_recursion IsText (filter_map as_unit ds) (units_each IsText IsValidRecordDep IsValidFileDep ds all);
      rising_units = units_rise ds rising;
      valid_records = All-from_recursion IsValidRecordDep (filter_map as_record ds) (records_each IsText IsValidRecordDep IsValidFileDep ds all);
      rising_records = records_rise ds rising;
      valid_files = All-from_recursion IsValidFileDep (filter_map as_file ds) (files_each IsText IsValidRecordDep IsValidFileDep ds all);
      rising_files = files_rise ds rising;
      few_includes = items.2;
      valid_includes = All-from_recursion IsValidInclude includes items.3.valid;
      rising_includes = items.3.rising;
    }

join_tail : (h n d m i : List ℕ) → h ++ (n ++ d ++ m ++ i) ≡ h ++ n ++ d ++ m ++ i
join_tail h n d m i = simp append_assoc

whole_bytes : (v : UnitValue) (ds : List Dependency) → ds ≡ all_of v → head_bytes v ++ tail_bytes ds v.includes ≡ unit_bytes v
whole_bytes v ds one_list =
    join_tail (head_bytes v) (u32_bytes (length ds)) (flat_map dependency_bytes ds) (u32_bytes (length v.includes)) (flat_map include_bytes v.includes)
    ∙ ap (λ (xs : List Dependency). head_bytes v ++ u32_bytes (length xs) ++ flat_map dependency_bytes xs ++ u32_bytes (length v.includes) ++ flat_map include_bytes v.includes) one_list
    ∙ listed_is v

-- a value is valid, and its bytes stand between the places
abbrev IsUnitThere : Input → Input → UnitValue → Type 0
IsUnitThere from to v = IsValidUnit v × Passes from (unit_bytes v) to

unit_there : (from mid to : Input) (output main named : List ℕ) (system : Bool) (ds : List Dependency) (includes : List Include) → IsText output → IsTextOrEmpty main → IsTextOrEmpty named → AreItems ds includes
    → Passes from (magic_bytes ++ text_bytes output ++ text_bytes main ++ text_bytes named ++ flag_bytes system) mid → Passes mid (tail_bytes ds includes) to → IsUnitThere from to (unit_of output main named system ds includes)
unit_there from mid to output main named system ds includes is_output is_main is_named items head tail =
    let made = unit_of output main named system ds includes in
    let one_list : ds ≡ all_of made = is_merged ds items.1.rising in
    let joined : Passes from (head_bytes made ++ tail_bytes ds includes) to = passes_join from mid to (head_bytes made) (tail_bytes ds includes) head tail in
    (unit_of_valid output main named system ds includes is_output is_main is_named items, subst (λ (bs : List ℕ). Passes from bs to) (whole_bytes made ds one_list) joined)

pub unit_was_spelled : (from to : Input) (v : UnitValue) → IsBytes from.rest → unit_fields_at from ≡ Ok (v, to) → IsUnitThere from to v
unfolding unit_fields_at
unit_was_spelled from to v bytes e =
    let a = step magic_at u32_bytes _ magic_reader _ from (v, to) bytes e in
    let b = step path_at text_bytes _ path_reader _ a.0.1 (v, to) a.1.bytes a.1.goes_on in
    let c = step any_text_at text_bytes _ any_text_reader _ b.0.1 (v, to) b.1.bytes b.1.goes_on in
    let d = step any_text_at text_bytes _ any_text_reader _ c.0.1 (v, to) c.1.bytes c.1.goes_on in
    let f = step flag_at flag_bytes _ flag_reader (λ s. tail_at b.0.0 c.0.0 d.0.0 s.0 s.1) d.0.1 (v, to) d.1.bytes d.1.goes_on in
    let magic = magic_passes from a.0.1 a.0.0 a.1.valid a.1.passes in
    let ab = passes_join from a.0.1 b.0.1 _ _ magic b.1.passes in
    let abc = passes_join from b.0.1 c.0.1 _ _ ab c.1.passes in
    let abcd = passes_join from c.0.1 d.0.1 _ _ abc d.1.passes in
    let head = passes_join from d.0.1 f.0.1 _ _ abcd f.1.passes in
    let rest = tail_was_spelled b.0.0 c.0.0 d.0.0 f.0.0 f.0.1 (v, to) f.1.bytes f.1.goes_on in
    let there = unit_there from f.0.1 to b.0.0 c.0.0 d.0.0 f.0.0 rest.0.0 rest.0.1 b.1.valid c.1.valid d.1.valid rest.1 head rest.2 in
    subst (λ (w : UnitValue). IsUnitThere from to w) (sym rest.3) there
