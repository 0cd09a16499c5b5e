-- What a job makes of a plan that keeps its rules is valid.
use Rattle.std.proofs.Common.{◌≡◌, ℕ, suc, ◌<◌, ◌≤◌, ◌^◌, inl, inr, Bool, true, false, cond, ◌||◌, List, [], ◌∷◌, length, map, filter, bit_and, refl, sym, ap, ◌∙◌, arith}
use Rattle.std.specs.List.{AllByRecursion}
use Rattle.std.specs.Str.{bytes_eq}
use Rattle.std.specs.Ordering.{is_lt}
use Rattle.std.proofs.lemmas.Slice.Eq.{bytes_eq-Decides}
use Rattle.std.proofs.lemmas.List.Elements.{All-from_recursion}
use Rattle.std.proofs.lemmas.Nat.{and_le_r}
use Rattle.ix_types.specs.Codes.{relation_bits}
use Rattle.ix_types.specs.Name.{IsFileName}
use Rattle.ix_types.specs.Text.{IsText}
use Rattle.ix_types.specs.Row.{text_cmp}
use Rattle.ix_types.specs.declared.format.Format.{Format}
use Rattle.ix_types.specs.declared.format.Format.TheVariants.{One, Two}
use Rattle.ix_record.specs.declared.value.Symbol.{Symbol}
use Rattle.ix_record.specs.Order.{symbol_cmp, relation_cmp, occurrence_cmp}
use Rattle.ix_record.specs.Value as values
use Rattle.ix_record.specs.Value.{IsValidSymbol, IsValidRelation, IsValidOccurrence, IsValidRecord, HasRolesOf}
use Rattle.ix_unit.specs.Order.{record_dep_cmp, file_dep_cmp, include_cmp}
use Rattle.ix_unit.specs.Value.{IsValidUnit, IsValidRecordDep, IsValidFileDep, IsValidInclude}
use Rattle.ix_plan.specs.declared.plan.SymbolPlan.{SymbolPlan}
use Rattle.ix_plan.specs.declared.plan.RelationPlan.{RelationPlan}
use Rattle.ix_plan.specs.declared.plan.OccurrencePlan.{OccurrencePlan}
use Rattle.ix_plan.specs.declared.plan.RecordPlan.{RecordPlan}
use Rattle.ix_plan.specs.declared.plan.IncludePlan.{IncludePlan}
use Rattle.ix_plan.specs.declared.plan.UnitPlan.{UnitPlan}
use Rattle.ix_plan.specs.Keeps as keeps
use Rattle.ix_plan.specs.Keeps.{IsUnitPlan, IsRecordPlan, IsSymbolPlan, IsOccurrencePlan, IsRelationPlan, IsIncludePlan, IsFilePlan}
use Rattle.ix_plan.specs.Plans.{is_usr_of}
use Rattle.ix_model.specs.SortedSet.{sorted_set}
use Rattle.ix_model.proofs.Door.{is_sorted_set, all_in_sorted_set}
use Rattle.ix_model.proofs.SortedSet.{Has, Has-from_Contains, Contains-from_Has}
use Rattle.ix_jobs.specs.Rules.{HasRoom, RecordHasRoom, HasCountedRelations}
use Rattle.ix_jobs.specs.Made.{symbol_of, symbols_of, index_of, relation_of, joined_roles, occurrence_of, record_of, bytes_of, dep_of, file_of, include_of, unit_of}
use Rattle.ix_jobs.proofs.Orders.{text_total, text_exact, relation_total, relation_exact, occurrence_total, occurrence_exact, record_dep_total, record_dep_exact, file_dep_total, file_dep_exact, include_total, include_exact}
use Rattle.ix_jobs.proofs.Sorting.{planned_symbols}
use Rattle.ix_jobs.proofs.Sizes.{no_longer, each_in_set, set_shorter}
use Rattle.ix_jobs.proofs.Roles.{joined_have, joined_positive, joined_below}
use Rattle.std.specs.declared.cmp.Ordering.{Ordering}
use Rattle.std.specs.declared.cmp.Ordering.TheVariants.{Less, Equal, Greater}
use Rattle.std.specs.Ordering.{ordering_reverse}

-- ---- the index of a symbol that is there

pub not_less : (r : Ordering) → r ≡ ordering_reverse r → is_lt r ≡ false
not_less Less e = absurd (cc)
not_less Equal e = refl
not_less Greater e = refl

before : List ℕ → Symbol → Bool
before usr s = is_lt (text_cmp s.usr usr)

fewer : (usr : List ℕ) (symbols : List Symbol) → index_of symbols usr ≤ length symbols
fewer usr [] = omega arith
fewer usr (s ∷ ss) =
    let behind = fewer usr ss in
    elim (is_lt (text_cmp s.usr usr)) as (λ b. length (cond b (s ∷ filter (λ symbol. is_lt (text_cmp symbol.usr usr)) ss) (filter (λ symbol. is_lt (text_cmp symbol.usr usr)) ss)) ≤ suc (length ss)) [
      | true ↦ omega (arith, behind)
      | false ↦ omega (arith, behind)
    ]

pub index_within : (usr : List ℕ) (symbols : List Symbol) (s : Symbol) → Has symbols s → s.usr ≡ usr → index_of symbols usr < length symbols
index_within usr [] s h e = absurd h
index_within usr (x ∷ xs) s (inl p) e =
    let behind = fewer usr xs in
    let own : is_lt (text_cmp x.usr usr) ≡ false = ap (λ (u : List ℕ). is_lt (text_cmp u usr)) (ap (λ (t : Symbol). t.usr) p ∙ e) ∙ not_less (text_cmp usr usr) (text_total.antisymm usr usr) in
    let skipped : index_of (x ∷ xs) usr ≡ index_of xs usr = ap (λ (b : Bool). length (cond b (x ∷ filter (λ symbol. is_lt (text_cmp symbol.usr usr)) xs) (filter (λ symbol. is_lt (text_cmp symbol.usr usr)) xs))) own in
    omega (arith, behind, skipped)
index_within usr (x ∷ xs) s (inr h) e =
    let behind = index_within usr xs s h e in
    elim (is_lt (text_cmp x.usr usr)) as (λ b. length (cond b (x ∷ filter (λ symbol. is_lt (text_cmp symbol.usr usr)) xs) (filter (λ symbol. is_lt (text_cmp symbol.usr usr)) xs)) < suc (length xs)) [
      | true ↦ omega (arith, behind)
      | false ↦ omega (arith, behind)
    ]

-- a plan's symbol of a USR
pub planned : (usr : List ℕ) (plans : List SymbolPlan) → is_usr_of plans usr ≡ true → (p : SymbolPlan) × Has plans p × (p.usr ≡ usr)
planned usr [] e = absurd (cc)
planned usr (p ∷ ps) e =
    (elim (bytes_eq usr p.usr) as (λ b. bytes_eq usr p.usr ≡ b → (b || is_usr_of ps usr) ≡ true → (q : SymbolPlan) × Has (p ∷ ps) q × (q.usr ≡ usr)) [
      | true ↦ λ is rest. (p, inl refl, sym ((bytes_eq-Decides usr p.usr).0 is))
      | false ↦ λ is rest. let r = planned usr ps rest in (r.0, inr r.1, r.2)
    ]) refl e

pub symbol_in : (plans : List SymbolPlan) (p : SymbolPlan) → Has plans p → Has (map symbol_of plans) (symbol_of p)
symbol_in [] p h = absurd h
symbol_in (q ∷ qs) p (inl e) = inl (ap symbol_of e)
symbol_in (q ∷ qs) p (inr h) = inr (symbol_in qs p h)

module _ (plan : RecordPlan) (rules : IsRecordPlan plan) where
  symbols : List Symbol
  symbols = symbols_of plan.symbols

  pub index_in_range : (usr : List ℕ) → is_usr_of plan.symbols usr ≡ true → index_of (symbols_of plan.symbols) usr < length (symbols_of plan.symbols)
  index_in_range usr known =
      let p = planned usr plan.symbols known in
      index_within usr (symbols_of plan.symbols) (symbol_of p.0)
      (Has-from_Contains (symbols_of plan.symbols) (symbol_of p.0) (((planned_symbols plan.symbols rules.own_usrs).same (symbol_of p.0)).1 (Contains-from_Has (map symbol_of plan.symbols) (symbol_of p.0) (symbol_in plan.symbols p.0 p.1))))
      p.2

  codegen_as : (format : Format) (codegen : List ℕ) → keeps.IsCodegen format codegen → values.IsCodegen format codegen
  codegen_as One codegen is = is
  codegen_as Two codegen is = is

  symbol_valid : (p : SymbolPlan) → IsSymbolPlan plan.format p → IsValidSymbol plan.format (symbol_of p)
  symbol_valid p is = record {
    known_kind = is.kind;
    known_lang = is.lang;
    known_props = is.props;
    usr_text = is.usr;
    name_text = is.name;
    codegen_text = codegen_as plan.format p.codegen is.codegen;
  }

  relation_valid : (r : RelationPlan) → IsRelationPlan plan.symbols r → IsValidRelation (length (symbols_of plan.symbols)) (relation_of (symbols_of plan.symbols) r)
  relation_valid r is = record {
    in_range = index_in_range r.usr is.usr;
    some_role = is.roles.0;
    relations_alone = is.roles.1;
  }

  below : (r : RelationPlan) → IsRelationPlan plan.symbols r → r.roles < 2 ^ 19
  below r is =
      let least = and_le_r r.roles relation_bits in
      let same = is.roles.1 in
      omega (arith, least, same)

  all_below : (rs : List RelationPlan) → AllByRecursion (IsRelationPlan plan.symbols) rs → AllByRecursion (λ r. r.roles < 2 ^ 19) rs
  all_below [] a = tt
  all_below (r ∷ rs) a = (below r a.0, all_below rs a.1)

  each_has : (joined : ℕ) (rs : List RelationPlan) → ((r : RelationPlan) → Has rs r → bit_and joined r.roles ≡ r.roles) → AllByRecursion (λ r. bit_and joined r.roles ≡ r.roles) rs
  each_has joined [] h = tt
  each_has joined (r ∷ rs) h = (h r (inl refl), each_has joined rs (λ s k. h s (inr k)))

  occurrence_valid : (o : OccurrencePlan) → IsOccurrencePlan plan.symbols o × HasCountedRelations o → IsValidOccurrence (length (symbols_of plan.symbols)) (occurrence_of (symbols_of plan.symbols) o)
  occurrence_valid o is =
      let shorter = set_shorter (relation_of (symbols_of plan.symbols)) relation_cmp o.relations in
      let counted = is.1 in
      let line = is.0.line in
      let col = is.0.col in
      record {
        line_counts = (omega (arith, line.0), omega (arith, line.1));
        column_counts = (omega (arith, col.0), omega (arith, col.1));
        in_range = index_in_range o.usr is.0.usr;
        some_role = joined_positive o.roles o.relations is.0.roles.0;
        known_roles = joined_below 19 o.roles o.relations is.0.roles.1 (all_below o.relations is.0.relations);
        few_relations = omega (arith, shorter, counted);
        valid_relations = each_in_set (relation_of (symbols_of plan.symbols)) relation_cmp (IsRelationPlan plan.symbols) (IsValidRelation (length (symbols_of plan.symbols))) relation_valid o.relations is.0.relations;
        rising_relations = (is_sorted_set relation_cmp relation_total relation_exact (map (relation_of (symbols_of plan.symbols)) o.relations)).rises;
        has_their_roles = each_in_set (relation_of (symbols_of plan.symbols)) relation_cmp (λ r. bit_and (joined_roles o.roles o.relations) r.roles ≡ r.roles) (HasRolesOf (joined_roles o.roles o.relations)) (λ r e. e) o.relations
            (each_has (joined_roles o.roles o.relations) o.relations (λ r h. joined_have o.roles o.relations r h));
      }

  both_kept : (os : List OccurrencePlan) → AllByRecursion (IsOccurrencePlan plan.symbols) os → AllByRecursion HasCountedRelations os → AllByRecursion (λ o. IsOccurrencePlan plan.symbols o × HasCountedRelations o) os
  both_kept [] a b = tt
  both_kept (o ∷ os) a b = ((a.0, b.0), both_kept os a.1 b.1)

  pub valid_record : RecordHasRoom plan → IsValidRecord (record_of plan)
  unfolding record_of
  valid_record room =
      let fewer_symbols = set_shorter symbol_of symbol_cmp plan.symbols in
      let few_symbols = room.symbols in
      let fewer_occurrences = set_shorter (occurrence_of (symbols_of plan.symbols)) occurrence_cmp plan.occurrences in
      let few_occurrences = room.occurrences in
      record {
        few_symbols = omega (arith, fewer_symbols, few_symbols);
        valid_symbols = each_in_set symbol_of symbol_cmp (IsSymbolPlan plan.format) (IsValidSymbol plan.format) symbol_valid plan.symbols rules.symbols;
        rising_symbols = (planned_symbols plan.symbols rules.own_usrs).rises;
        few_occurrences = omega (arith, fewer_occurrences, few_occurrences);
        valid_occurrences = each_in_set (occurrence_of (symbols_of plan.symbols)) occurrence_cmp (λ o. IsOccurrencePlan plan.symbols o × HasCountedRelations o) (IsValidOccurrence (length (symbols_of plan.symbols))) occurrence_valid plan.occurrences
            (both_kept plan.occurrences rules.occurrences room.relations);
        rising_occurrences = (is_sorted_set occurrence_cmp occurrence_total occurrence_exact (map (occurrence_of (symbols_of plan.symbols)) plan.occurrences)).rises;
      }

-- ---- units

include_valid : (i : IncludePlan) → IsIncludePlan i → IsValidInclude (include_of i)
include_valid i is =
    let line = is.line in
    record { from_text = is.from; line_counts = (omega (arith, line.0), omega (arith, line.1)); to_text = is.to }

module _ (name_of : List ℕ → List ℕ) where
  dep_valid : (r : RecordPlan) → IsRecordPlan r × IsFileName (name_of (bytes_of r)) → IsValidRecordDep (dep_of name_of r)
  dep_valid r is = record { path_text = is.0.path; file_name = is.1 }

  both_named : (rs : List RecordPlan) → AllByRecursion IsRecordPlan rs → AllByRecursion (λ r. IsFileName (name_of (bytes_of r))) rs → AllByRecursion (λ r. IsRecordPlan r × IsFileName (name_of (bytes_of r))) rs
  both_named [] a b = tt
  both_named (r ∷ rs) a b = ((a.0, b.0), both_named rs a.1 b.1)

  pub valid_unit : (plan : UnitPlan) → IsUnitPlan plan → HasRoom plan → AllByRecursion (λ r. IsFileName (name_of (bytes_of r))) plan.records → IsValidUnit (unit_of name_of plan)
  valid_unit plan rules room named =
      let fewer_units = no_longer text_cmp plan.units in
      let fewer_records = set_shorter (dep_of name_of) record_dep_cmp plan.records in
      let fewer_files = set_shorter file_of file_dep_cmp plan.files in
      let few = room.dependencies in
      let fewer_includes = set_shorter include_of include_cmp plan.includes in
      let few_includes = room.includes in
      record {
        output_text = rules.output;
        main_text = rules.main;
        module_text = rules.module_name;
        few_dependencies = omega (arith, fewer_units, fewer_records, fewer_files, few);
        unit_texts = All-from_recursion IsText (sorted_set text_cmp plan.units) (all_in_sorted_set text_cmp IsText plan.units rules.units);
        rising_units = (is_sorted_set text_cmp text_total text_exact plan.units).rises;
        valid_records = each_in_set (dep_of name_of) record_dep_cmp (λ r. IsRecordPlan r × IsFileName (name_of (bytes_of r))) IsValidRecordDep dep_valid plan.records (both_named plan.records rules.records named);
        rising_records = (is_sorted_set record_dep_cmp record_dep_total record_dep_exact (map (dep_of name_of) plan.records)).rises;
        valid_files = each_in_set file_of file_dep_cmp IsFilePlan IsValidFileDep (λ f is. is) plan.files rules.files;
        rising_files = (is_sorted_set file_dep_cmp file_dep_total file_dep_exact (map file_of plan.files)).rises;
        few_includes = omega (arith, fewer_includes, few_includes);
        valid_includes = each_in_set include_of include_cmp IsIncludePlan IsValidInclude include_valid plan.includes rules.includes;
        rising_includes = (is_sorted_set include_cmp include_total include_exact (map include_of plan.includes)).rises;
      }
