-- A front of a record file is read as all of it is, or it runs short.
use Rattle.std.proofs.Common.{◌≡◌, ◌==◌, ℕ, ◌+◌, ◌<◌, List, [], ◌++◌, length, Ok, Err, Some, inl, inr, refl, sym, ap, ◌∙◌, arith}
use Rattle.std.proofs.lemmas.List.{length-append}
use Rattle.ix_wire.specs.Fronts.{with_more, read_with_more, ReadsFronts, IsShortOrSame}
use Rattle.ix_wire.specs.Input.{Input, start}
use Rattle.ix_wire.proofs.Door.{front_then, front_test, number_field_front, text_field_front, any_text_field_front, tested_front, rising_front, done_is}
use Rattle.ix_record.specs.declared.fault.RecordError.TheVariants.{Short, BadMagic, BadField, BadIndex, OutOfOrder, RolesMissing}
use Rattle.ix_types.specs.declared.format.Format.{Format}
use Rattle.ix_types.specs.declared.format.Format.TheVariants.{One, Two}
use Rattle.ix_record.specs.declared.value.TheConstants.{MAGIC_ONE, MAGIC_TWO}
use Rattle.ix_record.specs.declared.value.RecordValue.{RecordValue}
use Rattle.ix_record.specs.Fault.{record_error}
use Rattle.ix_record.specs.Laws.{ShortWhereCut}
use Rattle.ix_record.specs.Order.{symbol_cmp, relation_cmp, occurrence_cmp}
use Rattle.ix_record.specs.Reading.{Read, number_at, usr_at, name_at, codegen_at, format_at, is_kind, kind_at, is_lang, lang_at, are_props, props_at, is_coordinate, coordinate_at, is_index, index_at, are_roles, roles_at, are_relations, relation_roles_at, has_roles, symbol_at, symbols_at, relation_at, relations_at, occurrence_at, occurrences_at, fields_at, record_at, record_fault}
use Rattle.ix_record.proofs.Grammar.{spelled_is_read_up}

-- ---- fields

number_front : ReadsFronts Short number_at
unfolding number_at
number_front = number_field_front record_error Short (λ at. refl)

usr_front : ReadsFronts Short usr_at
unfolding usr_at
usr_front = text_field_front record_error Short (λ at. refl)

name_front : ReadsFronts Short name_at
unfolding name_at
name_front = any_text_field_front record_error Short (λ at. refl)

codegen_front : (format : Format) → ReadsFronts Short (codegen_at format)
unfolding codegen_at
codegen_front One more from = inr refl
codegen_front Two more from = any_text_field_front record_error Short (λ at. refl) more from

format_front : ReadsFronts Short format_at
unfolding format_at
format_front more from =
    front_then Short more (number_at from) (number_at (with_more more from)) _ _ (number_front more from)
    (λ n to. front_test Short more (n == MAGIC_ONE) (Ok (One, to)) (Ok (One, with_more more to)) _ _ (inr refl) (front_test Short more (n == MAGIC_TWO) (Ok (Two, to)) (Ok (Two, with_more more to)) (Err BadMagic) (Err BadMagic) (inr refl) (inr refl)))

kind_front : ReadsFronts Short kind_at
unfolding kind_at
kind_front = tested_front Short number_at BadField is_kind number_front

lang_front : ReadsFronts Short lang_at
unfolding lang_at
lang_front = tested_front Short number_at BadField is_lang number_front

props_front : ReadsFronts Short props_at
unfolding props_at
props_front = tested_front Short number_at BadField are_props number_front

coordinate_front : ReadsFronts Short coordinate_at
unfolding coordinate_at
coordinate_front = tested_front Short number_at BadField is_coordinate number_front

index_front : (symbols : ℕ) → ReadsFronts Short (index_at symbols)
unfolding index_at
index_front symbols = tested_front Short number_at BadIndex (is_index symbols) number_front

roles_front : ReadsFronts Short roles_at
unfolding roles_at
roles_front = tested_front Short number_at BadField are_roles number_front

relation_roles_front : ReadsFronts Short relation_roles_at
unfolding relation_roles_at
relation_roles_front = tested_front Short number_at BadField are_relations number_front

-- ---- symbols, relations, occurrences

symbol_front : (format : Format) → ReadsFronts Short (symbol_at format)
unfolding symbol_at
symbol_front format more from =
    front_then Short more (kind_at from) (kind_at (with_more more from)) _ _ (kind_front more from)
    (λ kind a. front_then Short more (lang_at a) (lang_at (with_more more a)) _ _ (lang_front more a)
    (λ lang b. front_then Short more (props_at b) (props_at (with_more more b)) _ _ (props_front more b)
    (λ props c. front_then Short more (usr_at c) (usr_at (with_more more c)) _ _ (usr_front more c)
    (λ usr d. front_then Short more (name_at d) (name_at (with_more more d)) _ _ (name_front more d)
    (λ name f. front_then Short more (codegen_at format f) (codegen_at format (with_more more f)) _ _ (codegen_front format more f)
    (λ codegen g. inr refl))))))

symbols_front : (format : Format) (count : ℕ) → ReadsFronts Short (symbols_at format count)
unfolding symbols_at
symbols_front format = rising_front Short OutOfOrder (symbol_at format) symbol_cmp (symbol_front format)

relation_front : (symbols : ℕ) → ReadsFronts Short (relation_at symbols)
unfolding relation_at
relation_front symbols more from =
    front_then Short more (relation_roles_at from) (relation_roles_at (with_more more from)) _ _ (relation_roles_front more from)
    (λ roles a. front_then Short more (index_at symbols a) (index_at symbols (with_more more a)) _ _ (index_front symbols more a)
    (λ symbol b. inr refl))

relations_front : (symbols count : ℕ) → ReadsFronts Short (relations_at symbols count)
unfolding relations_at
relations_front symbols = rising_front Short OutOfOrder (relation_at symbols) relation_cmp (relation_front symbols)

occurrence_front : (symbols : ℕ) → ReadsFronts Short (occurrence_at symbols)
unfolding occurrence_at
occurrence_front symbols more from =
    front_then Short more (coordinate_at from) (coordinate_at (with_more more from)) _ _ (coordinate_front more from)
    (λ line a. front_then Short more (coordinate_at a) (coordinate_at (with_more more a)) _ _ (coordinate_front more a)
    (λ column b. front_then Short more (index_at symbols b) (index_at symbols (with_more more b)) _ _ (index_front symbols more b)
    (λ symbol c. front_then Short more (roles_at c) (roles_at (with_more more c)) _ _ (roles_front more c)
    (λ roles d. front_then Short more (number_at d) (number_at (with_more more d)) _ _ (number_front more d)
    (λ count f. front_then Short more (relations_at symbols count f) (relations_at symbols count (with_more more f)) _ _ (relations_front symbols count more f)
    (λ relations g. front_test Short more (has_roles roles relations) _ _ (Err (RolesMissing c.at)) (Err (RolesMissing c.at)) (inr refl) (inr refl)))))))

occurrences_front : (symbols count : ℕ) → ReadsFronts Short (occurrences_at symbols count)
unfolding occurrences_at
occurrences_front symbols = rising_front Short OutOfOrder (occurrence_at symbols) occurrence_cmp (occurrence_front symbols)

-- ---- a whole record

fields_front : ReadsFronts Short fields_at
unfolding fields_at
fields_front more from =
    front_then Short more (format_at from) (format_at (with_more more from)) _ _ (format_front more from)
    (λ format a. front_then Short more (number_at a) (number_at (with_more more a)) _ _ (number_front more a)
    (λ symbol_count b. front_then Short more (symbols_at format symbol_count b) (symbols_at format symbol_count (with_more more b)) _ _ (symbols_front format symbol_count more b)
    (λ symbols c. front_then Short more (number_at c) (number_at (with_more more c)) _ _ (number_front more c)
    (λ count d. front_then Short more (occurrences_at symbol_count count d) (occurrences_at symbol_count count (with_more more d)) _ _ (occurrences_front symbol_count count more d)
    (λ occurrences f. inr refl)))))

-- what was read of all of the bytes leaves at least the bytes that are more
leaves_more : (more : List ℕ) (front : Read RecordValue) (v : RecordValue) (to : Input) → Ok (v, to) ≡ read_with_more more front → length more < 1 + length to.rest
leaves_more more (Ok x) v to e =
    let rest : to.rest ≡ x.1.rest ++ more = ap (λ (y : RecordValue × Input). y.1.rest) (done_is (v, to) (x.0, with_more more x.1) e) in
    rw rest (omega (arith, length-append x.1.rest more))
leaves_more more (Err e) v to h = absurd cc

short_fields : (bytes : List ℕ) → fields_at (start bytes) ≡ Err Short → record_fault bytes ≡ Some Short
unfolding record_at record_fault
short_fields bytes e = rw e refl

short_or_not : (front more : List ℕ) (v : RecordValue) (to : Input) → 0 < length more → fields_at (start (front ++ more)) ≡ Ok (v, to) → to.rest ≡ [] → IsShortOrSame Short more (fields_at (start front)) (fields_at (start (front ++ more))) → record_fault front ≡ Some Short
short_or_not front more v to some read ended (inl ran_short) = short_fields front ran_short
short_or_not front more v to some read ended (inr same) =
    let left = leaves_more more (fields_at (start front)) v to (sym read ∙ same) in
    let none : length to.rest ≡ 0 = rw ended refl in
    absurd (omega (arith, some, left, none))

pub short_where_cut : ShortWhereCut
short_where_cut front more v some spelled =
    let read = spelled_is_read_up (front ++ more) v spelled in
    short_or_not front more v read.0 some read.1 read.2 (fields_front more (start front))
