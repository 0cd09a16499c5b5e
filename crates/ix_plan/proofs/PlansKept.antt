-- What holds of the plans that are read.
use Rattle.std.proofs.Common.{◌≡◌, ℕ, ◌<◌, ◌^◌, ◌||◌, Bool, true, false, List, [], ◌∷◌, ◌++◌, map, codes, Ok, cond, bytes_eq, refl, ◌∙◌, arith}
use Rattle.std.specs.List.{AllByRecursion, IsDistinct}
use Rattle.std.specs.Cmp.Lexicographic.{nat_list_eq_equiv}
use Rattle.std.specs.Str.Lossy.{utf8_valid_len}
use Rattle.serde_json.specs.Data.{Data}
use Rattle.ix_types.specs.Codes.{kinds, langs, swift_code, has_code}
use Rattle.ix_types.specs.Text.{IsText, IsTextOrEmpty}
use Rattle.ix_types.specs.declared.format.Format.{Format}
use Rattle.ix_types.specs.declared.format.Format.TheVariants.{One, Two}
use Rattle.ix_plan.specs.declared.plan.SymbolPlan.{SymbolPlan}
use Rattle.ix_plan.specs.declared.plan.OccurrencePlan.{OccurrencePlan}
use Rattle.ix_plan.specs.declared.plan.RecordPlan.{RecordPlan}
use Rattle.ix_plan.specs.declared.plan.UnitPlan.{UnitPlan}
use Rattle.ix_plan.specs.declared.refusal.What.{What}
use Rattle.ix_plan.specs.declared.refusal.What.TheVariants as what
use Rattle.ix_plan.specs.Read.{Read, ◌>>=◌, bad_value}
use Rattle.ix_plan.specs.Json.{with_fields, field, field_or, list_of, in_order, one_more}
use Rattle.ix_plan.specs.Values.{text_of, text_or_empty_of, flag_of, count_of, max_coordinate, word_of, role_of, relation_of, prop_of, bits_of, some_bits_of, new_usr_of, known_usr_of, tested}
use Rattle.ix_plan.specs.Plans.{file_of, include_of, relation_plan_of, occurrence_of, symbol_of, symbols_of, occurrences_of, record_of, unit_of, unknown_code, symbol_fields, codegen_of, is_usr_of}
use Rattle.ix_plan.specs.Keeps.{AreFew, IsCoordinate, AreRoles, AreRelations, IsCodegen, IsSymbolPlan, IsRelationPlan, IsOccurrencePlan, HaveOwnUsrs, IsRecordPlan, IsFilePlan, IsIncludePlan, IsUnitPlan, HasFewRelations, IsShortRecord, IsShortUnit, IsRecordOf, IsUnitOf}
use Rattle.ix_plan.proofs.Lengths.{Keeps, then_keeps, anything, field_keeps}
use Rattle.ix_plan.proofs.Keeping.{both, weaker, tested_keeps, field_or_keeps, text_keeps, text_or_empty_keeps, count_keeps, word_keeps, order_keeps, items_keep, list_keeps}
use Rattle.ix_plan.proofs.Masks.{props_keep, roles_keep, relations_keep}

-- a value of which nothing is said
abbrev Any : {A : Type 0} → A → Type 0
Any a = Unit {0}

-- one field more, of which nothing is to be said, and one of which P holds
pub passed : {A B : Type 0} (Q : B → Type 0) (r : Read A) (f : A → Read B) → ((a : A) → Keeps Q (f a)) → Keeps Q (r >>= f)
passed Q r f k = then_keeps (λ _. Unit {0}) Q r f (anything r) (λ a _. k a)

file_keeps : (d : Data) → Keeps IsFilePlan (file_of d)
unfolding file_of
file_keeps d =
    passed IsFilePlan (with_fields (codes "path" ∷ codes "system" ∷ []) d) _ (λ checked.
    then_keeps IsText IsFilePlan (field (codes "path") text_of d) _ (field_keeps IsText (codes "path") text_of d text_keeps) (λ path path_is.
    passed IsFilePlan (field_or false (codes "system") flag_of d) _ (λ system. path_is)))

include_keeps : (d : Data) → Keeps IsIncludePlan (include_of d)
unfolding include_of
include_keeps d =
    passed IsIncludePlan (with_fields (codes "from" ∷ codes "line" ∷ codes "to" ∷ []) d) _ (λ checked.
    then_keeps IsText IsIncludePlan (field (codes "from") text_of d) _ (field_keeps IsText (codes "from") text_of d text_keeps) (λ from from_is.
    then_keeps IsCoordinate IsIncludePlan (field (codes "line") (count_of max_coordinate) d) _ (field_keeps IsCoordinate (codes "line") (count_of max_coordinate) d (count_keeps max_coordinate)) (λ line line_is.
    then_keeps IsText IsIncludePlan (field (codes "to") text_of d) _ (field_keeps IsText (codes "to") text_of d text_keeps) (λ to to_is.
    record { from = from_is; line = line_is; to = to_is }))))

abbrev IsOf : List SymbolPlan → List ℕ → Type 0
IsOf symbols usr = is_usr_of symbols usr ≡ true

known_keeps : (symbols : List SymbolPlan) (d : Data) → Keeps (IsOf symbols) (known_usr_of (is_usr_of symbols) d)
known_keeps symbols d = passed (IsOf symbols) (text_of d) (λ usr. tested (is_usr_of symbols usr) usr) (λ usr. tested_keeps (IsOf symbols) (is_usr_of symbols usr) usr (λ h. h))

relation_plan_keeps : (symbols : List SymbolPlan) (d : Data) → Keeps (IsRelationPlan symbols) (relation_plan_of (is_usr_of symbols) d)
unfolding relation_plan_of
relation_plan_keeps symbols d =
    let Is = IsRelationPlan symbols in
    passed Is (with_fields (codes "usr" ∷ codes "roles" ∷ []) d) _ (λ checked.
    then_keeps (IsOf symbols) Is (field (codes "usr") (known_usr_of (is_usr_of symbols)) d) _ (field_keeps (IsOf symbols) (codes "usr") (known_usr_of (is_usr_of symbols)) d (known_keeps symbols)) (λ usr usr_is.
    then_keeps AreRelations Is (field (codes "roles") (some_bits_of relation_of) d) _ (field_keeps AreRelations (codes "roles") (some_bits_of relation_of) d relations_keep) (λ roles roles_are.
    record { usr = usr_is; roles = roles_are })))

-- each is so, and each keeps its limit
pub all_first : {A : Type 0} (P Q : A → Type 0) (xs : List A) → AllByRecursion (λ x. P x × Q x) xs → AllByRecursion P xs
all_first P Q [] all = tt
all_first P Q (x ∷ xs) all = (all.0.0, all_first P Q xs all.1)

pub all_second : {A : Type 0} (P Q : A → Type 0) (xs : List A) → AllByRecursion (λ x. P x × Q x) xs → AllByRecursion Q xs
all_second P Q [] all = tt
all_second P Q (x ∷ xs) all = (all.0.1, all_second P Q xs all.1)

abbrev IsOccurrence : List SymbolPlan → OccurrencePlan → Type 0
IsOccurrence symbols plan = IsOccurrencePlan symbols plan × HasFewRelations plan

occurrence_keeps : (symbols : List SymbolPlan) (d : Data) → Keeps (IsOccurrence symbols) (occurrence_of (is_usr_of symbols) d)
unfolding occurrence_of
occurrence_keeps symbols d =
    let Is = IsOccurrence symbols in
    let Are = AreFew 256 (IsRelationPlan symbols) in
    passed Is (with_fields (codes "usr" ∷ codes "line" ∷ codes "col" ∷ codes "roles" ∷ codes "relations" ∷ []) d) _ (λ checked.
    then_keeps (IsOf symbols) Is (field (codes "usr") (known_usr_of (is_usr_of symbols)) d) _ (field_keeps (IsOf symbols) (codes "usr") (known_usr_of (is_usr_of symbols)) d (known_keeps symbols)) (λ usr usr_is.
    then_keeps IsCoordinate Is (field (codes "line") (count_of max_coordinate) d) _ (field_keeps IsCoordinate (codes "line") (count_of max_coordinate) d (count_keeps max_coordinate)) (λ line line_is.
    then_keeps IsCoordinate Is (field (codes "col") (count_of max_coordinate) d) _ (field_keeps IsCoordinate (codes "col") (count_of max_coordinate) d (count_keeps max_coordinate)) (λ col col_is.
    then_keeps AreRoles Is (field (codes "roles") (some_bits_of role_of) d) _ (field_keeps AreRoles (codes "roles") (some_bits_of role_of) d roles_keep) (λ roles roles_are.
    then_keeps Are Is (field_or [] (codes "relations") (list_of what.Relations 256 (λ before. relation_plan_of (is_usr_of symbols))) d) _
    (field_or_keeps Are [] (codes "relations") (list_of what.Relations 256 (λ before. relation_plan_of (is_usr_of symbols))) d (omega arith, tt)
    (λ e. list_keeps (IsRelationPlan symbols) what.Relations 256 (λ before. relation_plan_of (is_usr_of symbols)) e (λ before g. relation_plan_keeps symbols g))) (λ relations relations_are.
    (record { usr = usr_is; line = line_is; col = col_is; roles = roles_are; relations = relations_are.1 }, relations_are.0)))))))

-- a USR that is no symbol's before
abbrev IsNew : List SymbolPlan → List ℕ → Type 0
IsNew before usr = IsText usr × (is_usr_of before usr ≡ false)

not_taken : (b : Bool) (P : List ℕ → Type 0) (usr : List ℕ) → (b ≡ false → P usr) → Keeps P (cond b bad_value (Ok usr))
not_taken true P usr k = tt
not_taken false P usr k = k refl

new_keeps : (before : List SymbolPlan) (d : Data) → Keeps (IsNew before) (new_usr_of (is_usr_of before) d)
new_keeps before d = then_keeps IsText (IsNew before) (text_of d) (λ usr. cond (is_usr_of before usr) bad_value (Ok usr)) (text_keeps d) (λ usr is. not_taken (is_usr_of before usr) (IsNew before) usr (λ h. (is, h)))

-- no byte is a text that may be empty
no_text : IsTextOrEmpty []
unfolding utf8_valid_len
no_text = refl

codegen_keeps : (format : Format) (d : Data) → Keeps (IsCodegen format) (codegen_of format d)
codegen_keeps One d = refl
codegen_keeps Two d = field_or_keeps IsTextOrEmpty [] (codes "codegen") text_or_empty_of d no_text text_or_empty_keeps

abbrev IsCodeOf : List (ℕ × List ℕ) → ℕ → Type 0
IsCodeOf table code = has_code table code ≡ true

abbrev IsNewSymbol : Format → List SymbolPlan → SymbolPlan → Type 0
IsNewSymbol format before symbol = IsSymbolPlan format symbol × (is_usr_of before symbol.usr ≡ false)

symbol_keeps : (format : Format) (before : List SymbolPlan) (d : Data) → Keeps (IsNewSymbol format before) (symbol_of format (is_usr_of before) d)
unfolding symbol_of
symbol_keeps format before d =
    let Is = IsNewSymbol format before in
    passed Is (with_fields (symbol_fields format) d) _ (λ checked.
    then_keeps (IsNew before) Is (field (codes "usr") (new_usr_of (is_usr_of before)) d) _ (field_keeps (IsNew before) (codes "usr") (new_usr_of (is_usr_of before)) d (new_keeps before)) (λ usr usr_is.
    then_keeps IsTextOrEmpty Is (field_or [] (codes "name") text_or_empty_of d) _ (field_or_keeps IsTextOrEmpty [] (codes "name") text_or_empty_of d no_text text_or_empty_keeps) (λ name name_is.
    then_keeps (IsCodeOf kinds) Is (field_or unknown_code (codes "kind") (word_of kinds) d) _ (field_or_keeps (IsCodeOf kinds) unknown_code (codes "kind") (word_of kinds) d refl (word_keeps kinds)) (λ kind kind_is.
    then_keeps (IsCodeOf langs) Is (field_or swift_code (codes "lang") (word_of langs) d) _ (field_or_keeps (IsCodeOf langs) swift_code (codes "lang") (word_of langs) d refl (word_keeps langs)) (λ lang lang_is.
    then_keeps (λ m. m < 2 ^ 9) Is (field_or 0 (codes "props") (bits_of prop_of) d) _ (field_or_keeps (λ m. m < 2 ^ 9) 0 (codes "props") (bits_of prop_of) d (omega arith) props_keep) (λ props props_are.
    then_keeps (IsCodegen format) Is (codegen_of format d) _ (codegen_keeps format d) (λ codegen codegen_is.
    (record { usr = usr_is.0; name = name_is; kind = kind_is; lang = lang_is; props = props_are; codegen = codegen_is }, usr_is.1))))))))

differ_more : (usr : List ℕ) (xs : List SymbolPlan) (x : SymbolPlan) → AllByRecursion (λ y. bytes_eq usr y ≡ false) (map (λ s. s.usr) xs) → bytes_eq usr x.usr ≡ false
    → AllByRecursion (λ y. bytes_eq usr y ≡ false) (map (λ s. s.usr) (xs ++ x ∷ []))
differ_more usr [] x all is = (is, tt)
differ_more usr (y ∷ ys) x all is = (all.0, differ_more usr ys x all.1 is)

both_false : (a b : Bool) → (a || b) ≡ false → (a ≡ false) × (b ≡ false)
both_false true b h = cc
both_false false b h = (refl, h)

own_more : (xs : List SymbolPlan) (x : SymbolPlan) → HaveOwnUsrs xs → is_usr_of xs x.usr ≡ false → HaveOwnUsrs (xs ++ x ∷ [])
unfolding IsDistinct
own_more [] x own new = (tt, tt)
own_more (y ∷ ys) x own new =
    let apart : (bytes_eq x.usr y.usr ≡ false) × (is_usr_of ys x.usr ≡ false) = both_false (bytes_eq x.usr y.usr) (is_usr_of ys x.usr) new in
    (differ_more y.usr ys x own.0 (nat_list_eq_equiv.symm y.usr x.usr ∙ apart.0), own_more ys x own.1 apart.1)

no_usrs : HaveOwnUsrs []
unfolding IsDistinct
no_usrs = tt

abbrev AreSymbols : Format → List SymbolPlan → Type 0
AreSymbols format symbols = AreFew 65536 (IsSymbolPlan format) symbols × HaveOwnUsrs symbols

only_symbol : (format : Format) (before : List SymbolPlan) (d : Data) → Keeps (IsSymbolPlan format) (symbol_of format (is_usr_of before) d)
only_symbol format before d = weaker (IsNewSymbol format before) (IsSymbolPlan format) (symbol_of format (is_usr_of before) d) (symbol_keeps format before d) (λ symbol is. is.0)

symbols_keep : (format : Format) (d : Data) → Keeps (AreSymbols format) (symbols_of format d)
symbols_keep format d =
    let read : List SymbolPlan → Data → Read SymbolPlan = λ before. symbol_of format (is_usr_of before) in
    both (AreFew 65536 (IsSymbolPlan format)) HaveOwnUsrs (symbols_of format d) (list_keeps (IsSymbolPlan format) what.Symbols 65536 read d (only_symbol format))
    (items_keep HaveOwnUsrs what.Symbols 65536 (in_order read one_more [] 0) d
    (λ ds. order_keeps HaveOwnUsrs read one_more
    (λ before e own. weaker (IsNewSymbol format before) (λ symbol. HaveOwnUsrs (one_more before symbol)) (read before e) (symbol_keeps format before e) (λ symbol is. own_more before symbol own is.1)) [] 0 ds no_usrs))

abbrev IsRecord : Format → RecordPlan → Type 0
IsRecord format plan = IsRecordPlan plan × (IsShortRecord plan × IsRecordOf format plan)

record_keeps : (format : Format) (d : Data) → Keeps (IsRecord format) (record_of format d)
unfolding record_of
record_keeps format d =
    passed (IsRecord format) (with_fields (codes "path" ∷ codes "system" ∷ codes "symbols" ∷ codes "occurrences" ∷ []) d) _ (λ checked.
    then_keeps IsText (IsRecord format) (field (codes "path") text_of d) _ (field_keeps IsText (codes "path") text_of d text_keeps) (λ path path_is.
    passed (IsRecord format) (field_or false (codes "system") flag_of d) _ (λ system.
    then_keeps (AreSymbols format) (IsRecord format) (field_or [] (codes "symbols") (symbols_of format) d) _
    (field_or_keeps (AreSymbols format) [] (codes "symbols") (symbols_of format) d ((omega arith, tt), no_usrs) (symbols_keep format)) (λ symbols symbols_are.
    then_keeps (AreFew 65536 (IsOccurrence symbols)) (IsRecord format) (field_or [] (codes "occurrences") (occurrences_of symbols) d) _
    (field_or_keeps (AreFew 65536 (IsOccurrence symbols)) [] (codes "occurrences") (occurrences_of symbols) d (omega arith, tt)
    (λ e. list_keeps (IsOccurrence symbols) what.Occurrences 65536 (λ before. occurrence_of (is_usr_of symbols)) e (λ before g. occurrence_keeps symbols g))) (λ occurrences occurrences_are. (
      record { path = path_is; symbols = symbols_are.0.1; own_usrs = symbols_are.1; occurrences = all_first (IsOccurrencePlan symbols) HasFewRelations occurrences occurrences_are.1 },
      (record { symbols = symbols_are.0.0; occurrences = occurrences_are.0; relations = all_second (IsOccurrencePlan symbols) HasFewRelations occurrences occurrences_are.1 }, refl),
    ))))))

few_or_none : {A : Type 0} (P : A → Type 0) (name : List ℕ) (w : What) (f : Data → Read A) (d : Data) → ((e : Data) → Keeps P (f e))
    → Keeps (AreFew 4096 P) (field_or [] name (list_of w 4096 (λ before. f)) d)
few_or_none P name w f d k = field_or_keeps (AreFew 4096 P) [] name (list_of w 4096 (λ before. f)) d (omega arith, tt) (λ e. list_keeps P w 4096 (λ before. f) e (λ before g. k g))

limited : (format : Format) (records : List RecordPlan) → AllByRecursion (IsRecord format) records → AllByRecursion (λ r. IsShortRecord r × IsRecordOf format r) records
limited format = all_second IsRecordPlan (λ r. IsShortRecord r × IsRecordOf format r)

abbrev pub IsUnit : Format → UnitPlan → Type 0
IsUnit format plan = IsUnitPlan plan × (IsShortUnit plan × IsUnitOf format plan)

pub unit_keeps : (format : Format) (d : Data) → Keeps (IsUnit format) (unit_of format d)
unfolding unit_of
unit_keeps format d =
    passed (IsUnit format) (with_fields (codes "output" ∷ codes "main" ∷ codes "module" ∷ codes "system" ∷ codes "units" ∷ codes "records" ∷ codes "files" ∷ codes "includes" ∷ []) d) _ (λ checked.
    then_keeps IsText (IsUnit format) (field (codes "output") text_of d) _ (field_keeps IsText (codes "output") text_of d text_keeps) (λ output output_is.
    then_keeps IsTextOrEmpty (IsUnit format) (field_or [] (codes "main") text_or_empty_of d) _ (field_or_keeps IsTextOrEmpty [] (codes "main") text_or_empty_of d no_text text_or_empty_keeps) (λ main main_is.
    then_keeps IsTextOrEmpty (IsUnit format) (field_or [] (codes "module") text_or_empty_of d) _ (field_or_keeps IsTextOrEmpty [] (codes "module") text_or_empty_of d no_text text_or_empty_keeps) (λ name name_is.
    passed (IsUnit format) (field_or false (codes "system") flag_of d) _ (λ system.
    then_keeps (AreFew 4096 IsText) (IsUnit format) (field_or [] (codes "units") (list_of what.Units 4096 (λ before. text_of)) d) _ (few_or_none IsText (codes "units") what.Units text_of d text_keeps) (λ units units_are.
    then_keeps (AreFew 4096 (IsRecord format)) (IsUnit format) (field_or [] (codes "records") (list_of what.Records 4096 (λ before. record_of format)) d) _ (few_or_none (IsRecord format) (codes "records") what.Records (record_of format) d (record_keeps format)) (λ records records_are.
    then_keeps (AreFew 4096 IsFilePlan) (IsUnit format) (field_or [] (codes "files") (list_of what.Files 4096 (λ before. file_of)) d) _ (few_or_none IsFilePlan (codes "files") what.Files file_of d file_keeps) (λ files files_are.
    then_keeps (AreFew 4096 IsIncludePlan) (IsUnit format) (field_or [] (codes "includes") (list_of what.Includes 4096 (λ before. include_of)) d) _ (few_or_none IsIncludePlan (codes "includes") what.Includes include_of d include_keeps) (λ includes includes_are. (
      record {
        output = output_is;
        main = main_is;
        module_name = name_is;
        units = units_are.1;
        records = all_first IsRecordPlan (λ r. IsShortRecord r × IsRecordOf format r) records records_are.1;
        files = files_are.1;
        includes = includes_are.1;
      },
      (
        record { units = units_are.0; records = records_are.0; files = files_are.0; includes = includes_are.0; each_record = all_first IsShortRecord (IsRecordOf format) records (limited format records records_are.1) },
        all_second IsShortRecord (IsRecordOf format) records (limited format records records_are.1),
      ),
    ))))))))))
