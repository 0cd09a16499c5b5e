-- A front of a unit file is read as all of it is, or it runs short.
use Rattle.std.proofs.Common.{◌≡◌, ◌==◌, ℕ, ◌+◌, ◌-◌, ◌<◌, List, ◌++◌, length, Ok, Err, Some, inl, inr, refl, sym, ap, ◌∙◌, arith}
use Rattle.std.proofs.lemmas.Bool.{lt-ltb}
use Rattle.std.proofs.lemmas.List.{length-append}
use Rattle.sha2.specs.Sha256.{sha256}
use Rattle.sha2.proofs.Facts256.{length-sha256}
use Rattle.ix_wire.specs.Fronts.{with_more, read_with_more, ReadsFronts, IsShortOrSame}
use Rattle.ix_wire.specs.Input.{Input, start}
use Rattle.ix_wire.proofs.Door.{front_then, front_test, number_field_front, text_field_front, any_text_field_front, tested_front, rising_front, done_is}
use Rattle.ix_unit.specs.declared.fault.UnitError.TheVariants.{Short, BadMagic, BadField, OutOfOrder}
use Rattle.ix_unit.specs.declared.value.UnitValue.{UnitValue}
use Rattle.ix_unit.specs.Fault.{unit_error}
use Rattle.ix_unit.specs.Laws.{ShortWhereCut}
use Rattle.ix_unit.specs.Order.{dependency_cmp, include_cmp}
use Rattle.ix_unit.specs.Reading.{Read, number_at, path_at, any_text_at, is_magic, magic_at, is_flag, flag_at, is_line, line_at, is_file_name, name_at, record_dep_at, file_dep_at, dependency_of, dependency_at, dependencies_at, include_at, includes_at, unit_fields_at, seal_fault, fault_of, unit_fault}
use Rattle.ix_unit.specs.Spelling.{unit_bytes}
use Rattle.ix_unit.proofs.Faults.{behind, fields_are_read}

-- ---- fields

number_front : ReadsFronts Short number_at
unfolding number_at
number_front = number_field_front unit_error Short (λ at. refl)

path_front : ReadsFronts Short path_at
unfolding path_at
path_front = text_field_front unit_error Short (λ at. refl)

any_text_front : ReadsFronts Short any_text_at
unfolding any_text_at
any_text_front = any_text_field_front unit_error Short (λ at. refl)

magic_front : ReadsFronts Short magic_at
unfolding magic_at
magic_front = tested_front Short number_at (λ _. BadMagic) is_magic number_front

flag_front : ReadsFronts Short flag_at
unfolding flag_at
flag_front more from = front_then Short more _ _ _ _ (tested_front Short number_at BadField is_flag number_front more from) (λ n to. inr refl)

line_front : ReadsFronts Short line_at
unfolding line_at
line_front = tested_front Short number_at BadField is_line number_front

name_front : ReadsFronts Short name_at
unfolding name_at
name_front = tested_front Short path_at BadField is_file_name path_front

-- ---- dependencies and includes

record_dep_front : ReadsFronts Short record_dep_at
unfolding record_dep_at
record_dep_front more from =
    front_then Short more (path_at from) (path_at (with_more more from)) _ _ (path_front more from)
    (λ path a. front_then Short more (flag_at a) (flag_at (with_more more a)) _ _ (flag_front more a)
    (λ system b. front_then Short more (name_at b) (name_at (with_more more b)) _ _ (name_front more b)
    (λ name c. inr refl)))

file_dep_front : ReadsFronts Short file_dep_at
unfolding file_dep_at
file_dep_front more from =
    front_then Short more (path_at from) (path_at (with_more more from)) _ _ (path_front more from)
    (λ path a. front_then Short more (flag_at a) (flag_at (with_more more a)) _ _ (flag_front more a)
    (λ system b. inr refl))

dependency_of_front : (start kind : ℕ) → ReadsFronts Short (dependency_of start kind)
unfolding dependency_of
dependency_of_front start kind more from =
    front_test Short more (kind == 1) _ _ _ _ (front_then Short more (path_at from) (path_at (with_more more from)) _ _ (path_front more from) (λ output a. inr refl))
    (front_test Short more (kind == 2) _ _ _ _ (front_then Short more (record_dep_at from) (record_dep_at (with_more more from)) _ _ (record_dep_front more from) (λ d a. inr refl))
    (front_test Short more (kind == 3) _ _ _ _ (front_then Short more (file_dep_at from) (file_dep_at (with_more more from)) _ _ (file_dep_front more from) (λ d a. inr refl)) (inr refl)))

dependency_front : ReadsFronts Short dependency_at
unfolding dependency_at
dependency_front more from =
    front_then Short more (number_at from) (number_at (with_more more from)) _ _ (number_front more from) (λ kind a. dependency_of_front from.at kind more a)

dependencies_front : (count : ℕ) → ReadsFronts Short (dependencies_at count)
unfolding dependencies_at
dependencies_front = rising_front Short OutOfOrder dependency_at dependency_cmp dependency_front

include_front : ReadsFronts Short include_at
unfolding include_at
include_front more start =
    front_then Short more (path_at start) (path_at (with_more more start)) _ _ (path_front more start)
    (λ from a. front_then Short more (line_at a) (line_at (with_more more a)) _ _ (line_front more a)
    (λ line b. front_then Short more (path_at b) (path_at (with_more more b)) _ _ (path_front more b)
    (λ to c. inr refl)))

includes_front : (count : ℕ) → ReadsFronts Short (includes_at count)
unfolding includes_at
includes_front = rising_front Short OutOfOrder include_at include_cmp include_front

-- ---- all fields

fields_front : ReadsFronts Short unit_fields_at
unfolding unit_fields_at
fields_front more from =
    front_then Short more (magic_at from) (magic_at (with_more more from)) _ _ (magic_front more from)
    (λ magic a. front_then Short more (path_at a) (path_at (with_more more a)) _ _ (path_front more a)
    (λ output b. front_then Short more (any_text_at b) (any_text_at (with_more more b)) _ _ (any_text_front more b)
    (λ main c. front_then Short more (any_text_at c) (any_text_at (with_more more c)) _ _ (any_text_front more c)
    (λ named d. front_then Short more (flag_at d) (flag_at (with_more more d)) _ _ (flag_front more d)
    (λ system f. front_then Short more (number_at f) (number_at (with_more more f)) _ _ (number_front more f)
    (λ count g. front_then Short more (dependencies_at count g) (dependencies_at count (with_more more g)) _ _ (dependencies_front count more g)
    (λ dependencies h. front_then Short more (number_at h) (number_at (with_more more h)) _ _ (number_front more h)
    (λ include_count i. front_then Short more (includes_at include_count i) (includes_at include_count (with_more more i)) _ _ (includes_front include_count more i)
    (λ includes j. inr refl)))))))))

-- ---- and the digest

-- where fewer bytes stand behind the fields than a digest has
seal_is_short : (bytes : List ℕ) (at : ℕ) → length bytes < at + 32 → seal_fault bytes at ≡ Some Short
unfolding seal_fault
seal_is_short bytes at few = rw (lt-ltb (length bytes - at) 32 (omega (arith, few))) refl

-- the fields of the front end where those of all of the bytes do
front_is_short : (front more : List ℕ) (read : Read UnitValue) (v : UnitValue) (to : Input) → length front < to.at + 32 → Ok (v, to) ≡ read_with_more more read → fault_of front read ≡ Some Short
front_is_short front more (Ok x) v to few e =
    let same : to.at ≡ x.1.at = ap (λ (y : UnitValue × Input). y.1.at) (done_is (v, to) (x.0, with_more more x.1) e) in
    seal_is_short front x.1.at (omega (arith, few, same))
front_is_short front more (Err e) v to few h = absurd cc

short_or_not : (front more : List ℕ) (v : UnitValue) (to : Input) → length front < to.at + 32 → unit_fields_at (start (front ++ more)) ≡ Ok (v, to) → IsShortOrSame Short more (unit_fields_at (start front)) (unit_fields_at (start (front ++ more))) → unit_fault front ≡ Some Short
unfolding unit_fault
short_or_not front more v to few read (inl ran_short) = ap (fault_of front) ran_short
short_or_not front more v to few read (inr same) = front_is_short front more (unit_fields_at (start front)) v to few (sym read ∙ same)

pub short_where_cut : ShortWhereCut
short_where_cut front more v some spelled =
    let body = unit_bytes v in
    let whole : length (front ++ more) ≡ length (body ++ sha256 body) = ap (λ (bytes : List ℕ). length bytes) spelled.fields in
    let few : length front < (behind v).at + 32 = omega (arith, some, whole, length-append front more, length-append body (sha256 body), length-sha256 body) in
    short_or_not front more v (behind v) few (fields_are_read (front ++ more) v spelled) (fields_front more (start front))
