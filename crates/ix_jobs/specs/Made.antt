-- What a described compile job writes: lists that are sorted and have nothing twice.
use Rattle.std.specs.Prelude.{ℕ, List, length, map, bit_or}
use Rattle.std.specs.List.{filter, fold}
use Rattle.std.specs.Ordering.{is_lt, on, then_cmp}
use Rattle.std.specs.declared.cmp.Ordering.{Ordering}
use Rattle.ix_types.specs.Row.{text_cmp}
use Rattle.ix_types.specs.declared.format.Format.{Format}
use Rattle.ix_record.specs.declared.body.Body.{Body}
use Rattle.ix_record.specs.declared.value.Symbol.{Symbol}
use Rattle.ix_record.specs.declared.value.Relation.{Relation}
use Rattle.ix_record.specs.declared.value.Occurrence.{Occurrence}
use Rattle.ix_record.specs.declared.value.RecordValue.{RecordValue}
use Rattle.ix_record.specs.Order.{symbol_cmp, relation_cmp, occurrence_cmp}
use Rattle.ix_record.specs.Spelling.{record_bytes}
use Rattle.ix_unit.specs.Order.{record_dep_cmp, file_dep_cmp, include_cmp}
use Rattle.ix_unit.specs.declared.value.RecordDep.{RecordDep}
use Rattle.ix_unit.specs.declared.value.UnitValue.{UnitValue}
use Rattle.ix_unit.specs.declared.value.FileDep.{FileDep}
use Rattle.ix_unit.specs.declared.value.Include.{Include}
use Rattle.ix_plan.specs.declared.plan.SymbolPlan.{SymbolPlan}
use Rattle.ix_plan.specs.declared.plan.RelationPlan.{RelationPlan}
use Rattle.ix_plan.specs.declared.plan.OccurrencePlan.{OccurrencePlan}
use Rattle.ix_plan.specs.declared.plan.RecordPlan.{RecordPlan}
use Rattle.ix_plan.specs.declared.plan.FilePlan.{FilePlan}
use Rattle.ix_plan.specs.declared.plan.IncludePlan.{IncludePlan}
use Rattle.ix_plan.specs.declared.plan.UnitPlan.{UnitPlan}
use Rattle.ix_model.specs.SortedSet.{sorted_set}
use Rattle.ix_jobs.specs.declared.job.JobPlan.{JobPlan}

-- ---- a record

abbrev pub symbol_of : SymbolPlan → Symbol
symbol_of plan = record { kind = plan.kind; lang = plan.lang; props = plan.props; usr = plan.usr; name = plan.name; codegen = plan.codegen }

-- the symbols rise by USR
abbrev pub symbols_of : List SymbolPlan → List Symbol
symbols_of plans = sorted_set symbol_cmp (map symbol_of plans)

-- a symbol's index: as many symbols have a lesser USR
abbrev pub index_of : List Symbol → List ℕ → ℕ
index_of symbols usr = length (filter (λ symbol. is_lt (text_cmp symbol.usr usr)) symbols)

abbrev pub relation_of : List Symbol → RelationPlan → Relation
relation_of symbols plan = record { symbol = index_of symbols plan.usr; roles = plan.roles }

-- some roles, and those of relations
abbrev pub joined_roles : ℕ → List RelationPlan → ℕ
joined_roles roles relations = fold (λ joined relation. bit_or joined relation.roles) roles relations

-- an occurrence has its own roles and those of its relations
abbrev pub occurrence_of : List Symbol → OccurrencePlan → Occurrence
occurrence_of symbols plan = record {
  line = plan.line;
  column = plan.col;
  symbol = index_of symbols plan.usr;
  roles = joined_roles plan.roles plan.relations;
  relations = sorted_set relation_cmp (map (relation_of symbols) plan.relations);
}

abbrev pub record_with : Format → List Symbol → List OccurrencePlan → RecordValue
record_with format symbols plans = record {
  format = format;
  symbols = symbols;
  occurrences = sorted_set occurrence_cmp (map (occurrence_of symbols) plans);
}

-- the value of a record's plan
unfoldable pub record_of : RecordPlan → RecordValue
record_of plan = record_with plan.format (symbols_of plan.symbols) plan.occurrences

-- the bytes of its file
unfoldable pub bytes_of : RecordPlan → List ℕ
bytes_of plan = record_bytes (record_of plan)

-- ---- a unit

abbrev pub file_of : FilePlan → FileDep
file_of plan = record { path = plan.path; system = plan.system }

abbrev pub include_of : IncludePlan → Include
include_of plan = record { from = plan.from; line = plan.line; to = plan.to }

-- by name and then bytes
abbrev pub body_cmp : Body → Body → Ordering
body_cmp = then_cmp (on (λ body. body.name) text_cmp) (on (λ body. body.bytes) text_cmp)

-- what a job writes: its unit, the names of its records, and the record files
pub record Made : Type 0 where
  pub unit : UnitValue
  pub names : List (List ℕ)
  pub bodies : List Body

abbrev pub shown : JobPlan → Made
shown job = record { unit = job.unit.value; names = job.names; bodies = job.bodies }

-- the unit with these record dependencies
abbrev pub unit_with : UnitPlan → List RecordDep → UnitValue
unit_with plan records = record {
  output = plan.output;
  main_file = plan.main;
  module_name = plan.«module»;
  system = plan.system;
  units = sorted_set text_cmp plan.units;
  records = sorted_set record_dep_cmp records;
  files = sorted_set file_dep_cmp (map file_of plan.files);
  includes = sorted_set include_cmp (map include_of plan.includes);
}

module _ (name_of : List ℕ → List ℕ) where
  -- a record's file is named by its bytes
  abbrev pub body_of : RecordPlan → Body
  body_of plan = record { name = name_of (bytes_of plan); bytes = bytes_of plan }

  abbrev pub dep_of : RecordPlan → RecordDep
  dep_of plan = record { path = plan.path; system = plan.system; name = name_of (bytes_of plan) }

  abbrev pub unit_of : UnitPlan → UnitValue
  unit_of plan = unit_with plan (map dep_of plan.records)

  abbrev pub made_of : UnitPlan → Made
  made_of plan = record {
    unit = unit_of plan;
    names = sorted_set text_cmp (map (λ body. body.name) (map body_of plan.records));
    bodies = sorted_set body_cmp (map body_of plan.records);
  }
