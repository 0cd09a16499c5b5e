-- A compile job's plan that was printed reads back as itself.
use Rattle.std.proofs.Common.{◌≡◌, ℕ, ◌≤◌, ◌||◌, Bool, true, false, List, [], ◌∷◌, ◌++◌, length, map, codes, Ok, Option, Some, refl, sym, ap, ◌∙◌, subst, arith, cond, bytes_eq, append_assoc}
use Rattle.std.proofs.lemmas.Slice.Eq.{bytes_eq-Decides}
use Rattle.std.specs.List.{AllByRecursion, IsDistinct}
use Rattle.std.specs.Cmp.Lexicographic.{nat_list_eq_equiv}
use Rattle.serde_json.specs.Data.{Data, number, unsigned, boolean, string}
use Rattle.serde_json.specs.Find.{get}
use Rattle.ix_types.specs.Codes.{kinds, langs, props, roles, swift_code}
use Rattle.ix_types.specs.Text.{IsText}
use Rattle.ix_types.specs.declared.format.Format.{Format}
use Rattle.ix_types.specs.declared.format.Format.TheVariants.{One, Two}
use Rattle.ix_plan.specs.declared.plan.FilePlan.{FilePlan}
use Rattle.ix_plan.specs.declared.plan.IncludePlan.{IncludePlan}
use Rattle.ix_plan.specs.declared.plan.RelationPlan.{RelationPlan}
use Rattle.ix_plan.specs.declared.plan.OccurrencePlan.{OccurrencePlan}
use Rattle.ix_plan.specs.declared.plan.SymbolPlan.{SymbolPlan}
use Rattle.ix_plan.specs.declared.plan.RecordPlan.{RecordPlan}
use Rattle.ix_plan.specs.declared.plan.UnitPlan.{UnitPlan}
use Rattle.ix_plan.specs.declared.refusal.What.{What}
use Rattle.ix_plan.specs.declared.refusal.What.TheVariants as what
use Rattle.ix_plan.specs.Read.{Read, ◌>>=◌}
use Rattle.ix_plan.specs.Json.{with_fields, field, field_or, list_of}
use Rattle.ix_plan.specs.Values.{text_of, text_or_empty_of, flag_of, count_of, max_coordinate, word_of, role_of, relation_of, prop_of, bits_of, some_bits_of, new_usr_of, known_usr_of}
use Rattle.ix_plan.specs.Plans.{file_of, include_of, relation_plan_of, occurrence_of, symbol_of, symbols_of, occurrences_of, record_of, unit_of, unknown_code, symbol_fields, codegen_of, is_usr_of}
use Rattle.ix_plan.specs.Keeps.{IsFilePlan, IsIncludePlan, IsRelationPlan, IsOccurrencePlan, IsSymbolPlan, HaveOwnUsrs, IsRecordPlan, IsUnitPlan, HasFewRelations, IsShortRecord, IsShortUnit, IsRecordOf, IsUnitOf}
use Rattle.ix_plan_text.specs.Printed.{number_data, list_data, word_data, words_data, file_data, include_data, relation_data, occurrence_data, symbol_data, record_data, unit_data}
use Rattle.ix_plan_text.proofs.Basics.{then_ok, field_ok, field_or_ok, text_back, text_or_empty_back, count_back, Reads, all_read, list_back}
use Rattle.ix_plan_text.proofs.Marks.{kind_back, lang_back, props_back, roles_back, relations_back}

file_from : (d : Data) (plan : FilePlan)
    → with_fields (codes "path" ∷ codes "system" ∷ []) d ≡ Ok tt
    → field (codes "path") text_of d ≡ Ok plan.path
    → field_or false (codes "system") flag_of d ≡ Ok plan.system
    → file_of d ≡ Ok plan
unfolding file_of
file_from d plan checked path system =
    then_ok (with_fields (codes "path" ∷ codes "system" ∷ []) d) _ tt plan checked
    (then_ok (field (codes "path") text_of d) _ plan.path plan path
    (then_ok (field_or false (codes "system") flag_of d) _ plan.system plan system
    refl))

pub file_back : (plan : FilePlan) → IsFilePlan plan → file_of (file_data plan) ≡ Ok plan
unfolding file_data
file_back plan is =
    let d : Data = file_data plan in
    file_from d plan refl
    (field_ok (codes "path") text_of d (string plan.path) plan.path refl (text_back plan.path is))
    (field_or_ok false (codes "system") flag_of d (boolean plan.system) plan.system refl refl)

include_from : (d : Data) (plan : IncludePlan)
    → with_fields (codes "from" ∷ codes "line" ∷ codes "to" ∷ []) d ≡ Ok tt
    → field (codes "from") text_of d ≡ Ok plan.from
    → field (codes "line") (count_of max_coordinate) d ≡ Ok plan.line
    → field (codes "to") text_of d ≡ Ok plan.to
    → include_of d ≡ Ok plan
unfolding include_of
include_from d plan checked from line to =
    then_ok (with_fields (codes "from" ∷ codes "line" ∷ codes "to" ∷ []) d) _ tt plan checked
    (then_ok (field (codes "from") text_of d) _ plan.from plan from
    (then_ok (field (codes "line") (count_of max_coordinate) d) _ plan.line plan line
    (then_ok (field (codes "to") text_of d) _ plan.to plan to
    refl)))

pub include_back : (plan : IncludePlan) → IsIncludePlan plan → include_of (include_data plan) ≡ Ok plan
unfolding include_data
include_back plan is =
    let d : Data = include_data plan in
    include_from d plan refl
    (field_ok (codes "from") text_of d (string plan.from) plan.from refl (text_back plan.from is.from))
    (field_ok (codes "line") (count_of max_coordinate) d (number_data plan.line) plan.line refl (count_back max_coordinate plan.line is.line.0 is.line.1))
    (field_ok (codes "to") text_of d (string plan.to) plan.to refl (text_back plan.to is.to))

-- the USR of a symbol of the record, and that of a symbol beside those before
known_back : (symbols : List SymbolPlan) (usr : List ℕ) → IsText usr → is_usr_of symbols usr ≡ true → known_usr_of (is_usr_of symbols) (string usr) ≡ Ok usr
known_back symbols usr text known = rw (text_back usr text, known) refl

new_back : (before : List SymbolPlan) (usr : List ℕ) → IsText usr → is_usr_of before usr ≡ false → new_usr_of (is_usr_of before) (string usr) ≡ Ok usr
new_back before usr text new = rw (text_back usr text, new) refl

or_cases : (a b : Bool) (P : Type 0) → (a || b) ≡ true → (a ≡ true → P) → (b ≡ true → P) → P
or_cases true b P h left right = left refl
or_cases false b P h left right = right h

-- a USR of one of some symbols is a text
text_of_known : (format : Format) (symbols : List SymbolPlan) (usr : List ℕ) → AllByRecursion (IsSymbolPlan format) symbols → is_usr_of symbols usr ≡ true → IsText usr
text_of_known format [] usr all known = cc
text_of_known format (symbol ∷ symbols) usr all known =
    or_cases (bytes_eq usr symbol.usr) (is_usr_of symbols usr) (IsText usr) known
    (λ same. subst IsText (sym ((bytes_eq-Decides usr symbol.usr).0 same)) all.0.usr)
    (λ later. text_of_known format symbols usr all.1 later)

relation_from : (known : List ℕ → Bool) (d : Data) (plan : RelationPlan)
    → with_fields (codes "usr" ∷ codes "roles" ∷ []) d ≡ Ok tt
    → field (codes "usr") (known_usr_of known) d ≡ Ok plan.usr
    → field (codes "roles") (some_bits_of relation_of) d ≡ Ok plan.roles
    → relation_plan_of known d ≡ Ok plan
unfolding relation_plan_of
relation_from known d plan checked usr marks =
    then_ok (with_fields (codes "usr" ∷ codes "roles" ∷ []) d) _ tt plan checked
    (then_ok (field (codes "usr") (known_usr_of known) d) _ plan.usr plan usr
    (then_ok (field (codes "roles") (some_bits_of relation_of) d) _ plan.roles plan marks
    refl))

relation_back : (format : Format) (symbols : List SymbolPlan) → AllByRecursion (IsSymbolPlan format) symbols → (plan : RelationPlan) → IsRelationPlan symbols plan
    → relation_plan_of (is_usr_of symbols) (relation_data plan) ≡ Ok plan
unfolding relation_data
relation_back format symbols all plan is =
    let d : Data = relation_data plan in
    let known : List ℕ → Bool = is_usr_of symbols in
    relation_from known d plan refl
    (field_ok (codes "usr") (known_usr_of known) d (string plan.usr) plan.usr refl (known_back symbols plan.usr (text_of_known format symbols plan.usr all is.usr) is.usr))
    (field_ok (codes "roles") (some_bits_of relation_of) d (words_data roles plan.roles) plan.roles refl (relations_back plan.roles is.roles))

abbrev IsOccurrence : List SymbolPlan → OccurrencePlan → Type 0
IsOccurrence symbols plan = IsOccurrencePlan symbols plan × HasFewRelations plan

occurrence_from : (known : List ℕ → Bool) (d : Data) (plan : OccurrencePlan)
    → with_fields (codes "usr" ∷ codes "line" ∷ codes "col" ∷ codes "roles" ∷ codes "relations" ∷ []) d ≡ Ok tt
    → field (codes "usr") (known_usr_of known) d ≡ Ok plan.usr
    → field (codes "line") (count_of max_coordinate) d ≡ Ok plan.line
    → field (codes "col") (count_of max_coordinate) d ≡ Ok plan.col
    → field (codes "roles") (some_bits_of role_of) d ≡ Ok plan.roles
    → field_or [] (codes "relations") (list_of what.Relations 256 (λ before. relation_plan_of known)) d ≡ Ok plan.relations
    → occurrence_of known d ≡ Ok plan
unfolding occurrence_of
occurrence_from known d plan checked usr line col marks relations =
    then_ok (with_fields (codes "usr" ∷ codes "line" ∷ codes "col" ∷ codes "roles" ∷ codes "relations" ∷ []) d) _ tt plan checked
    (then_ok (field (codes "usr") (known_usr_of known) d) _ plan.usr plan usr
    (then_ok (field (codes "line") (count_of max_coordinate) d) _ plan.line plan line
    (then_ok (field (codes "col") (count_of max_coordinate) d) _ plan.col plan col
    (then_ok (field (codes "roles") (some_bits_of role_of) d) _ plan.roles plan marks
    (then_ok (field_or [] (codes "relations") (list_of what.Relations 256 (λ before. relation_plan_of known)) d) _ plan.relations plan relations
    refl)))))

occurrence_back : (format : Format) (symbols : List SymbolPlan) → AllByRecursion (IsSymbolPlan format) symbols → (plan : OccurrencePlan) → IsOccurrence symbols plan
    → occurrence_of (is_usr_of symbols) (occurrence_data plan) ≡ Ok plan
unfolding occurrence_data
occurrence_back format symbols all plan is =
    let d : Data = occurrence_data plan in
    let known : List ℕ → Bool = is_usr_of symbols in
    occurrence_from known d plan refl
    (field_ok (codes "usr") (known_usr_of known) d (string plan.usr) plan.usr refl (known_back symbols plan.usr (text_of_known format symbols plan.usr all is.0.usr) is.0.usr))
    (field_ok (codes "line") (count_of max_coordinate) d (number_data plan.line) plan.line refl (count_back max_coordinate plan.line is.0.line.0 is.0.line.1))
    (field_ok (codes "col") (count_of max_coordinate) d (number_data plan.col) plan.col refl (count_back max_coordinate plan.col is.0.col.0 is.0.col.1))
    (field_ok (codes "roles") (some_bits_of role_of) d (words_data roles plan.roles) plan.roles refl (roles_back plan.roles is.0.roles))
    (field_or_ok [] (codes "relations") (list_of what.Relations 256 (λ before. relation_plan_of known)) d (list_data relation_data plan.relations) plan.relations refl
    (list_back what.Relations 256 (λ before. relation_plan_of known) relation_data plan.relations is.1
    (all_read (IsRelationPlan symbols) (relation_plan_of known) relation_data (relation_back format symbols all) [] plan.relations is.0.relations)))

codegen_back : (plan : SymbolPlan) (d : Data) → plan.codegen ≡ [] → codegen_of One d ≡ Ok plan.codegen
codegen_back plan d none = ap Ok (sym none)

symbol_from : (format : Format) (taken : List ℕ → Bool) (d : Data) (plan : SymbolPlan)
    → with_fields (symbol_fields format) d ≡ Ok tt
    → field (codes "usr") (new_usr_of taken) d ≡ Ok plan.usr
    → field_or [] (codes "name") text_or_empty_of d ≡ Ok plan.name
    → field_or unknown_code (codes "kind") (word_of kinds) d ≡ Ok plan.kind
    → field_or swift_code (codes "lang") (word_of langs) d ≡ Ok plan.lang
    → field_or 0 (codes "props") (bits_of prop_of) d ≡ Ok plan.props
    → codegen_of format d ≡ Ok plan.codegen
    → symbol_of format taken d ≡ Ok plan
unfolding symbol_of
symbol_from format taken d plan checked usr name kind lang marks codegen =
    then_ok (with_fields (symbol_fields format) d) _ tt plan checked
    (then_ok (field (codes "usr") (new_usr_of taken) d) _ plan.usr plan usr
    (then_ok (field_or [] (codes "name") text_or_empty_of d) _ plan.name plan name
    (then_ok (field_or unknown_code (codes "kind") (word_of kinds) d) _ plan.kind plan kind
    (then_ok (field_or swift_code (codes "lang") (word_of langs) d) _ plan.lang plan lang
    (then_ok (field_or 0 (codes "props") (bits_of prop_of) d) _ plan.props plan marks
    (then_ok (codegen_of format d) _ plan.codegen plan codegen
    refl))))))

-- a symbol beside those before it
symbol_back : (format : Format) (before : List SymbolPlan) (plan : SymbolPlan) → IsSymbolPlan format plan → is_usr_of before plan.usr ≡ false
    → symbol_of format (is_usr_of before) (symbol_data format plan) ≡ Ok plan
unfolding symbol_data
symbol_back One before plan is new =
    let d : Data = symbol_data One plan in
    let taken : List ℕ → Bool = is_usr_of before in
    symbol_from One taken d plan refl
    (field_ok (codes "usr") (new_usr_of taken) d (string plan.usr) plan.usr refl (new_back before plan.usr is.usr new))
    (field_or_ok [] (codes "name") text_or_empty_of d (string plan.name) plan.name refl (text_or_empty_back plan.name is.name))
    (field_or_ok unknown_code (codes "kind") (word_of kinds) d (word_data kinds plan.kind) plan.kind refl (kind_back plan.kind is.kind))
    (field_or_ok swift_code (codes "lang") (word_of langs) d (word_data langs plan.lang) plan.lang refl (lang_back plan.lang is.lang))
    (field_or_ok 0 (codes "props") (bits_of prop_of) d (words_data props plan.props) plan.props refl (props_back plan.props is.props))
    (codegen_back plan d is.codegen)
symbol_back Two before plan is new =
    let d : Data = symbol_data Two plan in
    let taken : List ℕ → Bool = is_usr_of before in
    symbol_from Two taken d plan refl
    (field_ok (codes "usr") (new_usr_of taken) d (string plan.usr) plan.usr refl (new_back before plan.usr is.usr new))
    (field_or_ok [] (codes "name") text_or_empty_of d (string plan.name) plan.name refl (text_or_empty_back plan.name is.name))
    (field_or_ok unknown_code (codes "kind") (word_of kinds) d (word_data kinds plan.kind) plan.kind refl (kind_back plan.kind is.kind))
    (field_or_ok swift_code (codes "lang") (word_of langs) d (word_data langs plan.lang) plan.lang refl (lang_back plan.lang is.lang))
    (field_or_ok 0 (codes "props") (bits_of prop_of) d (words_data props plan.props) plan.props refl (props_back plan.props is.props))
    (field_or_ok [] (codes "codegen") text_or_empty_of d (string plan.codegen) plan.codegen refl (text_or_empty_back plan.codegen is.codegen))

-- the USR of the first symbol behind others is none of theirs
not_among : (before : List SymbolPlan) (symbol : SymbolPlan) (rest : List SymbolPlan) → HaveOwnUsrs (before ++ symbol ∷ rest) → is_usr_of before symbol.usr ≡ false
unfolding IsDistinct
not_among [] symbol rest own = refl
not_among (first ∷ before) symbol rest own =
    let apart : bytes_eq symbol.usr first.usr ≡ false = nat_list_eq_equiv.symm symbol.usr first.usr ∙ differs first.usr before symbol rest own.0 in
    let later : is_usr_of before symbol.usr ≡ false = not_among before symbol rest own.1 in
    ap (λ b. b || is_usr_of before symbol.usr) apart ∙ later
  where
    differs : (usr : List ℕ) (before : List SymbolPlan) (symbol : SymbolPlan) (rest : List SymbolPlan) → AllByRecursion (λ y. bytes_eq usr y ≡ false) (map (λ s. s.usr) (before ++ symbol ∷ rest)) → bytes_eq usr symbol.usr ≡ false
    differs usr [] symbol rest all = all.0
    differs usr (first ∷ before) symbol rest all = differs usr before symbol rest all.1

symbols_read : (format : Format) (before symbols : List SymbolPlan) → AllByRecursion (IsSymbolPlan format) symbols → HaveOwnUsrs (before ++ symbols)
    → Reads (λ seen. symbol_of format (is_usr_of seen)) (symbol_data format) before symbols
symbols_read format before [] all own = tt
symbols_read format before (symbol ∷ symbols) all own = (
  symbol_back format before symbol all.0 (not_among before symbol symbols own),
  symbols_read format (before ++ symbol ∷ []) symbols all.1 (subst HaveOwnUsrs (sym (append_assoc before (symbol ∷ []) symbols)) own),
)

pub both_all : {A : Type 0} (P Q : A → Type 0) (xs : List A) → AllByRecursion P xs → AllByRecursion Q xs → AllByRecursion (λ x. P x × Q x) xs
both_all P Q [] p q = tt
both_all P Q (x ∷ xs) p q = ((p.0, q.0), both_all P Q xs p.1 q.1)

abbrev pub IsRecord : Format → RecordPlan → Type 0
IsRecord format plan = IsRecordPlan plan × (IsShortRecord plan × IsRecordOf format plan)

record_from : (d : Data) (plan : RecordPlan)
    → with_fields (codes "path" ∷ codes "system" ∷ codes "symbols" ∷ codes "occurrences" ∷ []) d ≡ Ok tt
    → field (codes "path") text_of d ≡ Ok plan.path
    → field_or false (codes "system") flag_of d ≡ Ok plan.system
    → field_or [] (codes "symbols") (symbols_of plan.format) d ≡ Ok plan.symbols
    → field_or [] (codes "occurrences") (occurrences_of plan.symbols) d ≡ Ok plan.occurrences
    → record_of plan.format d ≡ Ok plan
unfolding record_of
record_from d plan checked path system symbols occurrences =
    then_ok (with_fields (codes "path" ∷ codes "system" ∷ codes "symbols" ∷ codes "occurrences" ∷ []) d) _ tt plan checked
    (then_ok (field (codes "path") text_of d) _ plan.path plan path
    (then_ok (field_or false (codes "system") flag_of d) _ plan.system plan system
    (then_ok (field_or [] (codes "symbols") (symbols_of plan.format) d) _ plan.symbols plan symbols
    (then_ok (field_or [] (codes "occurrences") (occurrences_of plan.symbols) d) _ plan.occurrences plan occurrences
    refl))))

own_back : (plan : RecordPlan) → IsRecordPlan plan → IsShortRecord plan → record_of plan.format (record_data plan) ≡ Ok plan
unfolding record_data
own_back plan is few =
    let d : Data = record_data plan in
    let format : Format = plan.format in
    let known : List ℕ → Bool = is_usr_of plan.symbols in
    record_from d plan refl
    (field_ok (codes "path") text_of d (string plan.path) plan.path refl (text_back plan.path is.path))
    (field_or_ok false (codes "system") flag_of d (boolean plan.system) plan.system refl refl)
    (field_or_ok [] (codes "symbols") (symbols_of format) d (list_data (symbol_data format) plan.symbols) plan.symbols refl
    (list_back what.Symbols 65536 (λ before. symbol_of format (is_usr_of before)) (symbol_data format) plan.symbols few.symbols (symbols_read format [] plan.symbols is.symbols is.own_usrs)))
    (field_or_ok [] (codes "occurrences") (occurrences_of plan.symbols) d (list_data occurrence_data plan.occurrences) plan.occurrences refl
    (list_back what.Occurrences 65536 (λ before. occurrence_of known) occurrence_data plan.occurrences few.occurrences
    (all_read (IsOccurrence plan.symbols) (occurrence_of known) occurrence_data (occurrence_back format plan.symbols is.symbols) [] plan.occurrences
    (both_all (IsOccurrencePlan plan.symbols) HasFewRelations plan.occurrences is.occurrences few.relations))))

record_back : (format : Format) (plan : RecordPlan) → IsRecord format plan → record_of format (record_data plan) ≡ Ok plan
record_back format plan is = subst (λ f. record_of f (record_data plan) ≡ Ok plan) is.1.1 (own_back plan is.0 is.1.0)

listed : {A : Type 0} (P : A → Type 0) (name : List ℕ) (w : What) (f : Data → Read A) (shown : A → Data) (d : Data) (xs : List A) → get name d ≡ Some (list_data shown xs) → length xs ≤ 4096
    → ((x : A) → P x → f (shown x) ≡ Ok x) → AllByRecursion P xs → field_or [] name (list_of w 4096 (λ before. f)) d ≡ Ok xs
listed P name w f shown d xs at few k all =
    field_or_ok [] name (list_of w 4096 (λ before. f)) d (list_data shown xs) xs at (list_back w 4096 (λ before. f) shown xs few (all_read P f shown k [] xs all))

abbrev pub IsUnit : Format → UnitPlan → Type 0
IsUnit format plan = IsUnitPlan plan × (IsShortUnit plan × IsUnitOf format plan)

unit_from : (format : Format) (d : Data) (plan : UnitPlan)
    → with_fields (codes "output" ∷ codes "main" ∷ codes "module" ∷ codes "system" ∷ codes "units" ∷ codes "records" ∷ codes "files" ∷ codes "includes" ∷ []) d ≡ Ok tt
    → field (codes "output") text_of d ≡ Ok plan.output
    → field_or [] (codes "main") text_or_empty_of d ≡ Ok plan.main
    → field_or [] (codes "module") text_or_empty_of d ≡ Ok plan.«module»
    → field_or false (codes "system") flag_of d ≡ Ok plan.system
    → field_or [] (codes "units") (list_of what.Units 4096 (λ before. text_of)) d ≡ Ok plan.units
    → field_or [] (codes "records") (list_of what.Records 4096 (λ before. record_of format)) d ≡ Ok plan.records
    → field_or [] (codes "files") (list_of what.Files 4096 (λ before. file_of)) d ≡ Ok plan.files
    → field_or [] (codes "includes") (list_of what.Includes 4096 (λ before. include_of)) d ≡ Ok plan.includes
    → unit_of format d ≡ Ok plan
unfolding unit_of
unit_from format d plan checked output main name system units records files includes =
    then_ok (with_fields (codes "output" ∷ codes "main" ∷ codes "module" ∷ codes "system" ∷ codes "units" ∷ codes "records" ∷ codes "files" ∷ codes "includes" ∷ []) d) _ tt plan checked
    (then_ok (field (codes "output") text_of d) _ plan.output plan output
    (then_ok (field_or [] (codes "main") text_or_empty_of d) _ plan.main plan main
    (then_ok (field_or [] (codes "module") text_or_empty_of d) _ plan.«module» plan name
    (then_ok (field_or false (codes "system") flag_of d) _ plan.system plan system
    (then_ok (field_or [] (codes "units") (list_of what.Units 4096 (λ before. text_of)) d) _ plan.units plan units
    (then_ok (field_or [] (codes "records") (list_of what.Records 4096 (λ before. record_of format)) d) _ plan.records plan records
    (then_ok (field_or [] (codes "files") (list_of what.Files 4096 (λ before. file_of)) d) _ plan.files plan files
    (then_ok (field_or [] (codes "includes") (list_of what.Includes 4096 (λ before. include_of)) d) _ plan.includes plan includes
    refl))))))))

pub unit_back : (format : Format) (plan : UnitPlan) → IsUnit format plan → unit_of format (unit_data plan) ≡ Ok plan
unfolding unit_data
unit_back format plan all =
    let d : Data = unit_data plan in
    let is : IsUnitPlan plan = all.0 in
    let few : IsShortUnit plan = all.1.0 in
    unit_from format d plan refl
    (field_ok (codes "output") text_of d (string plan.output) plan.output refl (text_back plan.output is.output))
    (field_or_ok [] (codes "main") text_or_empty_of d (string plan.main) plan.main refl (text_or_empty_back plan.main is.main))
    (field_or_ok [] (codes "module") text_or_empty_of d (string plan.«module») plan.«module» refl (text_or_empty_back plan.«module» is.module_name))
    (field_or_ok false (codes "system") flag_of d (boolean plan.system) plan.system refl refl)
    (listed IsText (codes "units") what.Units text_of string d plan.units refl few.units text_back is.units)
    (listed (IsRecord format) (codes "records") what.Records (record_of format) record_data d plan.records refl few.records (record_back format)
    (both_all IsRecordPlan (λ r. IsShortRecord r × IsRecordOf format r) plan.records is.records (both_all IsShortRecord (IsRecordOf format) plan.records few.each_record all.1.1)))
    (listed IsFilePlan (codes "files") what.Files file_of file_data d plan.files refl few.files file_back is.files)
    (listed IsIncludePlan (codes "includes") what.Includes include_of include_data d plan.includes refl few.includes include_back is.includes)
