-- What is spelled is read, and what is read was spelled: symbols, relations, occurrences, and a whole record.
use Rattle.std.proofs.Common.{◌≡◌, ℕ, ◌^◌, ◌<◌, ◌+◌, ◌==◌, true, eqb, List, [], ◌∷◌, ◌++◌, length, Ok, refl, sym, ap, subst, ◌∙◌}
use Rattle.std.specs.Prelude.{bit_and}
use Rattle.std.specs.Cmp.{IsTotalOrder}
use Rattle.std.specs.List.{AllByRecursion, flat_map, list_all}
use Rattle.std.proofs.lemmas.Bool.{and_parts, and_from, eqb-true, eq-eqb}
use Rattle.std.proofs.lemmas.Cmp.{nat_cmp_total, nat_list_cmp_total, lists_total, on_total, then_total}
use Rattle.std.proofs.lemmas.List.{append-nil, nil_from_length}
use Rattle.std.proofs.lemmas.List.Elements.{All-from_recursion, recursion_from_All}
use Rattle.ix_wire.specs.Input.{Input, start, Passes}
use Rattle.ix_wire.specs.Spelling.{IsBytes, u32_bytes, text_bytes}
use Rattle.ix_wire.proofs.Door.{IsItems, items_reader, IsReader, step, test_ok, done, done_is, passes_join, passes_split}
use Rattle.ix_record.specs.declared.fault.RecordError.{RecordError}
use Rattle.ix_record.specs.declared.fault.RecordError.TheVariants.{OutOfOrder, Trailing}
use Rattle.ix_types.specs.declared.format.Format.{Format}
use Rattle.ix_record.specs.declared.value.Symbol.{Symbol}
use Rattle.ix_record.specs.declared.value.Relation.{Relation}
use Rattle.ix_record.specs.declared.value.Occurrence.{Occurrence}
use Rattle.ix_record.specs.declared.value.RecordValue.{RecordValue}
use Rattle.ix_record.specs.Order.{symbol_cmp, relation_cmp, occurrence_cmp}
use Rattle.ix_record.specs.Value.{IsValidSymbol, IsValidRelation, IsValidOccurrence, IsValidRecord, HasRolesOf}
use Rattle.ix_record.specs.Spelling.{magic_bytes, codegen_bytes, symbol_bytes, relation_bytes, occurrence_bytes, record_bytes, RecordSpelling}
use Rattle.ix_record.specs.Reading.{number_at, usr_at, name_at, codegen_at, format_at, kind_at, lang_at, props_at, coordinate_at, index_at, roles_at, relation_roles_at, has_roles, symbol_at, symbols_at, relation_at, relations_at, occurrence_at, occurrences_at, fields_at, record_at}
use Rattle.ix_record.proofs.Readers.{number_reader, usr_reader, name_reader, codegen_reader, format_reader, kind_reader, lang_reader, props_reader, coordinate_reader, index_reader, roles_reader, relation_roles_reader}

-- ---- the orders

symbol_order : IsTotalOrder symbol_cmp
symbol_order = on_total (λ (s : Symbol). s.usr) nat_list_cmp_total

relation_order : IsTotalOrder relation_cmp
relation_order = then_total (on_total (λ (r : Relation). r.symbol) nat_cmp_total) (on_total (λ (r : Relation). r.roles) nat_cmp_total)

occurrence_order : IsTotalOrder occurrence_cmp
occurrence_order =
    then_total (on_total (λ (o : Occurrence). o.line) nat_cmp_total)
    (then_total (on_total (λ (o : Occurrence). o.column) nat_cmp_total)
    (then_total (on_total (λ (o : Occurrence). o.symbol) nat_cmp_total)
    (then_total (on_total (λ (o : Occurrence). o.roles) nat_cmp_total)
    (on_total (λ (o : Occurrence). o.relations) (lists_total relation_order)))))

-- ---- a symbol

symbol_read : (format : Format) (from to : Input) (s : Symbol) → IsValidSymbol format s → Passes from (symbol_bytes format s) to → symbol_at format from ≡ Ok (s, to)
unfolding symbol_at symbol_bytes
symbol_read format from to s valid passes =
    let kind = u32_bytes s.kind in
    let lang = u32_bytes s.lang in
    let props = u32_bytes s.props in
    let usr = text_bytes s.usr in
    let name = text_bytes s.name in
    let f = passes_split from to (kind ++ lang ++ props ++ usr ++ name) (codegen_bytes format s.codegen) passes in
    let d = passes_split from f.0 (kind ++ lang ++ props ++ usr) name f.1 in
    let c = passes_split from d.0 (kind ++ lang ++ props) usr d.1 in
    let b = passes_split from c.0 (kind ++ lang) props c.1 in
    let a = passes_split from b.0 kind lang b.1 in
    rw (
      kind_reader.is_read from a.0 s.kind valid.known_kind a.1,
      lang_reader.is_read a.0 b.0 s.lang valid.known_lang a.2,
      props_reader.is_read b.0 c.0 s.props valid.known_props b.2,
      usr_reader.is_read c.0 d.0 s.usr valid.usr_text c.2,
      name_reader.is_read d.0 f.0 s.name valid.name_text d.2,
      (codegen_reader format).is_read f.0 to s.codegen valid.codegen_text f.2,
    ) refl

symbol_was_spelled : (format : Format) (from to : Input) (s : Symbol) → IsBytes from.rest → symbol_at format from ≡ Ok (s, to) → IsValidSymbol format s × Passes from (symbol_bytes format s) to
unfolding symbol_at symbol_bytes
symbol_was_spelled format from to s bytes e =
    let a = step kind_at u32_bytes _ kind_reader _ from (s, to) bytes e in
    let b = step lang_at u32_bytes _ lang_reader _ a.0.1 (s, to) a.1.bytes a.1.goes_on in
    let c = step props_at u32_bytes _ props_reader _ b.0.1 (s, to) b.1.bytes b.1.goes_on in
    let d = step usr_at text_bytes _ usr_reader _ c.0.1 (s, to) c.1.bytes c.1.goes_on in
    let f = step name_at text_bytes _ name_reader _ d.0.1 (s, to) d.1.bytes d.1.goes_on in
    let g = step (codegen_at format) (codegen_bytes format) _ (codegen_reader format) _ f.0.1 (s, to) f.1.bytes f.1.goes_on in
    let made : Symbol = record { kind = a.0.0; lang = b.0.0; props = c.0.0; usr = d.0.0; name = f.0.0; codegen = g.0.0 } in
    let ab = passes_join from a.0.1 b.0.1 _ _ a.1.passes b.1.passes in
    let abc = passes_join from b.0.1 c.0.1 _ _ ab c.1.passes in
    let abcd = passes_join from c.0.1 d.0.1 _ _ abc d.1.passes in
    let abcdf = passes_join from d.0.1 f.0.1 _ _ abcd f.1.passes in
    let whole = passes_join from f.0.1 g.0.1 _ _ abcdf g.1.passes in
    let valid : IsValidSymbol format made = record { known_kind = a.1.valid; known_lang = b.1.valid; known_props = c.1.valid; usr_text = d.1.valid; name_text = f.1.valid; codegen_text = g.1.valid } in
    subst (λ (x : Symbol × Input). IsValidSymbol format x.0 × Passes from (symbol_bytes format x.0) x.1) (done_is (made, g.0.1) (s, to) g.1.goes_on) (valid, whole)

symbol_reader : (format : Format) → IsReader (symbol_at format) (symbol_bytes format) (IsValidSymbol format)
symbol_reader format = record { is_read = symbol_read format; was_spelled = symbol_was_spelled format }

symbols_reader : (format : Format) (count : ℕ) → IsReader (symbols_at format count) (flat_map (symbol_bytes format)) (IsItems (IsValidSymbol format) symbol_cmp count)
unfolding symbols_at
symbols_reader format = items_reader OutOfOrder (symbol_at format) (symbol_bytes format) (IsValidSymbol format) symbol_cmp (symbol_reader format) symbol_order

-- ---- a relation

relation_read : (symbols : ℕ) → symbols < 2 ^ 32 → (from to : Input) (r : Relation) → IsValidRelation symbols r → Passes from (relation_bytes r) to → relation_at symbols from ≡ Ok (r, to)
unfolding relation_at relation_bytes
relation_read symbols few from to r valid passes =
    let a = passes_split from to (u32_bytes r.roles) (u32_bytes r.symbol) passes in
    rw (relation_roles_reader.is_read from a.0 r.roles (valid.some_role, valid.relations_alone) a.1, (index_reader symbols few).is_read a.0 to r.symbol valid.in_range a.2) refl

relation_was_spelled : (symbols : ℕ) → symbols < 2 ^ 32 → (from to : Input) (r : Relation) → IsBytes from.rest → relation_at symbols from ≡ Ok (r, to) → IsValidRelation symbols r × Passes from (relation_bytes r) to
unfolding relation_at relation_bytes
relation_was_spelled symbols few from to r bytes e =
    let a = step relation_roles_at u32_bytes _ relation_roles_reader _ from (r, to) bytes e in
    let b = step (index_at symbols) u32_bytes _ (index_reader symbols few) _ a.0.1 (r, to) a.1.bytes a.1.goes_on in
    let made : Relation = record { symbol = b.0.0; roles = a.0.0 } in
    let whole = passes_join from a.0.1 b.0.1 _ _ a.1.passes b.1.passes in
    let valid : IsValidRelation symbols made = record { in_range = b.1.valid; some_role = a.1.valid.0; relations_alone = a.1.valid.1 } in
    subst (λ (x : Relation × Input). IsValidRelation symbols x.0 × Passes from (relation_bytes x.0) x.1) (done_is (made, b.0.1) (r, to) b.1.goes_on) (valid, whole)

relation_reader : (symbols : ℕ) → symbols < 2 ^ 32 → IsReader (relation_at symbols) relation_bytes (IsValidRelation symbols)
relation_reader symbols few = record { is_read = relation_read symbols few; was_spelled = relation_was_spelled symbols few }

relations_reader : (symbols : ℕ) → symbols < 2 ^ 32 → (count : ℕ) → IsReader (relations_at symbols count) (flat_map relation_bytes) (IsItems (IsValidRelation symbols) relation_cmp count)
unfolding relations_at
relations_reader symbols few = items_reader OutOfOrder (relation_at symbols) relation_bytes (IsValidRelation symbols) relation_cmp (relation_reader symbols few) relation_order

-- ---- an occurrence

roles_of_each : (roles : ℕ) (rs : List Relation) → has_roles roles rs ≡ true → AllByRecursion (HasRolesOf roles) rs
unfolding has_roles
roles_of_each roles [] e = tt
roles_of_each roles (r ∷ rs) e =
    let p = and_parts (bit_and roles r.roles == r.roles) (list_all (λ x. bit_and roles x.roles == x.roles) rs) e in
    (eqb-true (bit_and roles r.roles) r.roles p.0, roles_of_each roles rs p.1)

has_roles_of_each : (roles : ℕ) (rs : List Relation) → AllByRecursion (HasRolesOf roles) rs → has_roles roles rs ≡ true
unfolding has_roles
has_roles_of_each roles [] all = refl
has_roles_of_each roles (r ∷ rs) all =
    and_from (bit_and roles r.roles == r.roles) (list_all (λ x. bit_and roles x.roles == x.roles) rs) (eq-eqb (bit_and roles r.roles) r.roles all.0) (has_roles_of_each roles rs all.1)

occurrence_read : (symbols : ℕ) → symbols < 2 ^ 32 → (from to : Input) (o : Occurrence) → IsValidOccurrence symbols o → Passes from (occurrence_bytes o) to → occurrence_at symbols from ≡ Ok (o, to)
unfolding occurrence_at occurrence_bytes
occurrence_read symbols few from to o valid passes =
    let line = u32_bytes o.line in
    let column = u32_bytes o.column in
    let symbol = u32_bytes o.symbol in
    let roles = u32_bytes o.roles in
    let count = u32_bytes (length o.relations) in
    let f = passes_split from to (line ++ column ++ symbol ++ roles ++ count) (flat_map relation_bytes o.relations) passes in
    let d = passes_split from f.0 (line ++ column ++ symbol ++ roles) count f.1 in
    let c = passes_split from d.0 (line ++ column ++ symbol) roles d.1 in
    let b = passes_split from c.0 (line ++ column) symbol c.1 in
    let a = passes_split from b.0 line column b.1 in
    let items : IsItems (IsValidRelation symbols) relation_cmp (length o.relations) o.relations = record { counted = refl; valid = recursion_from_All (IsValidRelation symbols) o.relations valid.valid_relations; rising = valid.rising_relations } in
    let held = has_roles_of_each o.roles o.relations (recursion_from_All (HasRolesOf o.roles) o.relations valid.has_their_roles) in
    rw (
      coordinate_reader.is_read from a.0 o.line valid.line_counts a.1,
      coordinate_reader.is_read a.0 b.0 o.column valid.column_counts a.2,
      (index_reader symbols few).is_read b.0 c.0 o.symbol valid.in_range b.2,
      roles_reader.is_read c.0 d.0 o.roles (valid.some_role, valid.known_roles) c.2,
      number_reader.is_read d.0 f.0 (length o.relations) valid.few_relations d.2,
      (relations_reader symbols few (length o.relations)).is_read f.0 to o.relations items f.2,
      held,
    ) refl

occurrence_was_spelled : (symbols : ℕ) → symbols < 2 ^ 32 → (from to : Input) (o : Occurrence) → IsBytes from.rest → occurrence_at symbols from ≡ Ok (o, to) → IsValidOccurrence symbols o × Passes from (occurrence_bytes o) to
unfolding occurrence_at occurrence_bytes
occurrence_was_spelled symbols few from to o bytes e =
    let a = step coordinate_at u32_bytes _ coordinate_reader _ from (o, to) bytes e in
    let b = step coordinate_at u32_bytes _ coordinate_reader _ a.0.1 (o, to) a.1.bytes a.1.goes_on in
    let c = step (index_at symbols) u32_bytes _ (index_reader symbols few) _ b.0.1 (o, to) b.1.bytes b.1.goes_on in
    let d = step roles_at u32_bytes _ roles_reader _ c.0.1 (o, to) c.1.bytes c.1.goes_on in
    let f = step number_at u32_bytes _ number_reader _ d.0.1 (o, to) d.1.bytes d.1.goes_on in
    let g = step (relations_at symbols f.0.0) (flat_map relation_bytes) _ (relations_reader symbols few f.0.0) _ f.0.1 (o, to) f.1.bytes f.1.goes_on in
    let made : Occurrence = record { line = a.0.0; column = b.0.0; symbol = c.0.0; roles = d.0.0; relations = g.0.0 } in
    let t = test_ok (has_roles d.0.0 g.0.0) _ (done RecordError (made, g.0.1)) (o, to) g.1.goes_on in
    let ab = passes_join from a.0.1 b.0.1 _ _ a.1.passes b.1.passes in
    let abc = passes_join from b.0.1 c.0.1 _ _ ab c.1.passes in
    let abcd = passes_join from c.0.1 d.0.1 _ _ abc d.1.passes in
    let abcdf = passes_join from d.0.1 f.0.1 _ _ abcd f.1.passes in
    let counted = passes_join from f.0.1 g.0.1 _ _ abcdf g.1.passes in
    let whole : Passes from (occurrence_bytes made) g.0.1 = rw g.1.valid.counted counted in
    let valid : IsValidOccurrence symbols made = record {
      line_counts = a.1.valid;
      column_counts = b.1.valid;
      in_range = c.1.valid;
      some_role = d.1.valid.0;
      known_roles = d.1.valid.1;
      few_relations = rw g.1.valid.counted f.1.valid;
      valid_relations = All-from_recursion (IsValidRelation symbols) g.0.0 g.1.valid.valid;
      rising_relations = g.1.valid.rising;
      has_their_roles = All-from_recursion (HasRolesOf d.0.0) g.0.0 (roles_of_each d.0.0 g.0.0 t.0);
    } in
    subst (λ (x : Occurrence × Input). IsValidOccurrence symbols x.0 × Passes from (occurrence_bytes x.0) x.1) (done_is (made, g.0.1) (o, to) t.1) (valid, whole)

occurrence_reader : (symbols : ℕ) → symbols < 2 ^ 32 → IsReader (occurrence_at symbols) occurrence_bytes (IsValidOccurrence symbols)
occurrence_reader symbols few = record { is_read = occurrence_read symbols few; was_spelled = occurrence_was_spelled symbols few }

occurrences_reader : (symbols : ℕ) → symbols < 2 ^ 32 → (count : ℕ) → IsReader (occurrences_at symbols count) (flat_map occurrence_bytes) (IsItems (IsValidOccurrence symbols) occurrence_cmp count)
unfolding occurrences_at
occurrences_reader symbols few = items_reader OutOfOrder (occurrence_at symbols) occurrence_bytes (IsValidOccurrence symbols) occurrence_cmp (occurrence_reader symbols few) occurrence_order

-- ---- a whole record

fields_read : (from to : Input) (v : RecordValue) → IsValidRecord v → Passes from (record_bytes v) to → fields_at from ≡ Ok (v, to)
unfolding fields_at record_bytes
fields_read from to v valid passes =
    let format = v.format in
    let symbol_count = u32_bytes (length v.symbols) in
    let symbols = flat_map (symbol_bytes format) v.symbols in
    let count = u32_bytes (length v.occurrences) in
    let d = passes_split from to (magic_bytes format ++ symbol_count ++ symbols ++ count) (flat_map occurrence_bytes v.occurrences) passes in
    let c = passes_split from d.0 (magic_bytes format ++ symbol_count ++ symbols) count d.1 in
    let b = passes_split from c.0 (magic_bytes format ++ symbol_count) symbols c.1 in
    let a = passes_split from b.0 (magic_bytes format) symbol_count b.1 in
    let few = valid.few_symbols in
    let symbol_items : IsItems (IsValidSymbol format) symbol_cmp (length v.symbols) v.symbols = record { counted = refl; valid = recursion_from_All (IsValidSymbol format) v.symbols valid.valid_symbols; rising = valid.rising_symbols } in
    let items : IsItems (IsValidOccurrence (length v.symbols)) occurrence_cmp (length v.occurrences) v.occurrences = record { counted = refl; valid = recursion_from_All (IsValidOccurrence (length v.symbols)) v.occurrences valid.valid_occurrences; rising = valid.rising_occurrences } in
    rw (
      format_reader.is_read from a.0 format tt a.1,
      number_reader.is_read a.0 b.0 (length v.symbols) few a.2,
      (symbols_reader format (length v.symbols)).is_read b.0 c.0 v.symbols symbol_items b.2,
      number_reader.is_read c.0 d.0 (length v.occurrences) valid.few_occurrences c.2,
      (occurrences_reader (length v.symbols) few (length v.occurrences)).is_read d.0 to v.occurrences items d.2,
    ) refl

fields_were_spelled : (from to : Input) (v : RecordValue) → IsBytes from.rest → fields_at from ≡ Ok (v, to) → IsValidRecord v × Passes from (record_bytes v) to
unfolding fields_at record_bytes
fields_were_spelled from to v bytes e =
    let a = step format_at magic_bytes _ format_reader _ from (v, to) bytes e in
    let b = step number_at u32_bytes _ number_reader _ a.0.1 (v, to) a.1.bytes a.1.goes_on in
    let c = step (symbols_at a.0.0 b.0.0) (flat_map (symbol_bytes a.0.0)) _ (symbols_reader a.0.0 b.0.0) _ b.0.1 (v, to) b.1.bytes b.1.goes_on in
    let d = step number_at u32_bytes _ number_reader _ c.0.1 (v, to) c.1.bytes c.1.goes_on in
    let f = step (occurrences_at b.0.0 d.0.0) (flat_map occurrence_bytes) _ (occurrences_reader b.0.0 b.1.valid d.0.0) _ d.0.1 (v, to) d.1.bytes d.1.goes_on in
    let made : RecordValue = record { format = a.0.0; symbols = c.0.0; occurrences = f.0.0 } in
    let ab = passes_join from a.0.1 b.0.1 _ _ a.1.passes b.1.passes in
    let abc = passes_join from b.0.1 c.0.1 _ _ ab c.1.passes in
    let abcd = passes_join from c.0.1 d.0.1 _ _ abc d.1.passes in
    let counted = passes_join from d.0.1 f.0.1 _ _ abcd f.1.passes in
    let whole : Passes from (record_bytes made) f.0.1 = rw (c.1.valid.counted, f.1.valid.counted) counted in
    let valid : IsValidRecord made = record {
      few_symbols = rw c.1.valid.counted b.1.valid;
      valid_symbols = All-from_recursion (IsValidSymbol a.0.0) c.0.0 c.1.valid.valid;
      rising_symbols = c.1.valid.rising;
      few_occurrences = rw f.1.valid.counted d.1.valid;
      valid_occurrences = rw c.1.valid.counted (All-from_recursion (IsValidOccurrence b.0.0) f.0.0 f.1.valid.valid);
      rising_occurrences = f.1.valid.rising;
    } in
    subst (λ (x : RecordValue × Input). IsValidRecord x.0 × Passes from (record_bytes x.0) x.1) (done_is (made, f.0.1) (v, to) f.1.goes_on) (valid, whole)

fields_reader : IsReader fields_at record_bytes IsValidRecord
fields_reader = record { is_read = fields_read; was_spelled = fields_were_spelled }

-- all of a spelling is read
pub spelled_is_read_up : (bytes : List ℕ) (v : RecordValue) → RecordSpelling bytes v → (to : Input) × (fields_at (start bytes) ≡ Ok (v, to)) × (to.rest ≡ [])
spelled_is_read_up bytes v spelled =
    let to : Input = record { at = 0 + length (record_bytes v); rest = [] } in
    let passes : Passes (start bytes) (record_bytes v) to = record { parts = spelled.fields ∙ sym (append-nil (record_bytes v)); moved = refl } in
    (to, fields_read (start bytes) to v spelled.valid passes, refl)

pub spelled_is_read : (bytes : List ℕ) (v : RecordValue) → RecordSpelling bytes v → (to : Input) × (record_at (start bytes) ≡ Ok (v, to))
unfolding record_at
spelled_is_read bytes v spelled =
    let up = spelled_is_read_up bytes v spelled in
    (up.0, rw (up.1, up.2) refl)

pub read_was_spelled : (bytes : List ℕ) (v : RecordValue) (to : Input) → IsBytes bytes → record_at (start bytes) ≡ Ok (v, to) → RecordSpelling bytes v
unfolding record_at
read_was_spelled bytes v to fits e =
    let a = step fields_at record_bytes _ fields_reader _ (start bytes) (v, to) fits e in
    let t = test_ok (eqb (length a.0.1.rest) 0) (Trailing a.0.1.at) (done RecordError a.0) (v, to) a.1.goes_on in
    let ended : a.0.1.rest ≡ [] = nil_from_length a.0.1.rest (eqb-true (length a.0.1.rest) 0 t.0) in
    let made : RecordSpelling bytes a.0.0 = record { valid = a.1.valid; fields = a.1.passes.parts ∙ ap (λ (rest : List ℕ). record_bytes a.0.0 ++ rest) ended ∙ append-nil (record_bytes a.0.0) } in
    subst (λ (x : RecordValue × Input). RecordSpelling bytes x.0) (done_is a.0 (v, to) t.1) made
