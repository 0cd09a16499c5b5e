-- What every accepted script keeps: the rules on its values, the limits of its lists, and one format. The three stand apart, so that a plan that
-- is made in another way can keep the rules alone.
use Rattle.std.specs.Prelude.{◌≡◌, ℕ, ◌<◌, ◌≤◌, ◌^◌, List, [], length, map, true, bit_and}
use Rattle.std.specs.List.{AllByRecursion, IsDistinct, filter}
use Rattle.std.specs.Str.{bytes_eq}
use Rattle.ix_types.specs.Codes.{has_code, kinds, langs, relation_bits}
use Rattle.ix_types.specs.Text.{IsText, IsTextOrEmpty}
use Rattle.ix_types.specs.declared.format.Format.{Format}
use Rattle.ix_types.specs.declared.format.Format.TheVariants.{One, Two}
use Rattle.ix_types.specs.declared.row.Query.{Query}
use Rattle.ix_types.specs.declared.row.Query.TheVariants as query
use Rattle.ix_plan.specs.declared.plan.Script.{Script}
use Rattle.ix_plan.specs.declared.plan.Step.{Step}
use Rattle.ix_plan.specs.declared.plan.Step.TheVariants.{Build, Remove, Poll, Refresh, Ask, Release, Collect}
use Rattle.ix_plan.specs.declared.plan.UnitPlan.{UnitPlan}
use Rattle.ix_plan.specs.declared.plan.RecordPlan.{RecordPlan}
use Rattle.ix_plan.specs.declared.plan.FilePlan.{FilePlan}
use Rattle.ix_plan.specs.declared.plan.IncludePlan.{IncludePlan}
use Rattle.ix_plan.specs.declared.plan.SymbolPlan.{SymbolPlan}
use Rattle.ix_plan.specs.declared.plan.OccurrencePlan.{OccurrencePlan}
use Rattle.ix_plan.specs.declared.plan.RelationPlan.{RelationPlan}
use Rattle.ix_plan.specs.Plans.{is_usr_of}
use Rattle.ix_plan.specs.Reading.{polls}

-- a list of at most so many, each of a kind
abbrev pub AreFew : {A : Type 0} → ℕ → (A → Type 0) → List A → Type 0
AreFew most P xs = (length xs ≤ most) × AllByRecursion P xs

-- a line or a column
abbrev pub IsCoordinate : ℕ → Type 0
IsCoordinate n = (1 ≤ n) × (n ≤ 4294967295)

-- roles and relations, at least one; relations alone
abbrev pub AreRoles : ℕ → Type 0
AreRoles mask = (0 < mask) × (mask < 2 ^ 19)

abbrev pub AreRelations : ℕ → Type 0
AreRelations mask = (0 < mask) × (bit_and mask relation_bits ≡ mask)

-- a symbol of format One has no code generation name
abbrev pub IsCodegen : Format → List ℕ → Type 0
IsCodegen One codegen = codegen ≡ []
IsCodegen Two codegen = IsTextOrEmpty codegen

pub record IsSymbolPlan (format : Format) (plan : SymbolPlan) : Type 0 where
  pub usr : IsText plan.usr
  pub name : IsTextOrEmpty plan.name
  pub kind : has_code kinds plan.kind ≡ true
  pub lang : has_code langs plan.lang ≡ true
  pub props : plan.props < 2 ^ 9
  pub codegen : IsCodegen format plan.codegen

-- of a symbol that the record has
pub record IsRelationPlan (symbols : List SymbolPlan) (plan : RelationPlan) : Type 0 where
  pub usr : is_usr_of symbols plan.usr ≡ true
  pub roles : AreRelations plan.roles

pub record IsOccurrencePlan (symbols : List SymbolPlan) (plan : OccurrencePlan) : Type 0 where
  pub usr : is_usr_of symbols plan.usr ≡ true
  pub line : IsCoordinate plan.line
  pub col : IsCoordinate plan.col
  pub roles : AreRoles plan.roles
  pub relations : AllByRecursion (IsRelationPlan symbols) plan.relations

-- no two symbols have the same USR
abbrev pub HaveOwnUsrs : List SymbolPlan → Type 0
HaveOwnUsrs symbols = IsDistinct bytes_eq (map (λ symbol. symbol.usr) symbols)

pub record IsRecordPlan (plan : RecordPlan) : Type 0 where
  pub path : IsText plan.path
  pub symbols : AllByRecursion (IsSymbolPlan plan.format) plan.symbols
  pub own_usrs : HaveOwnUsrs plan.symbols
  pub occurrences : AllByRecursion (IsOccurrencePlan plan.symbols) plan.occurrences

abbrev pub IsFilePlan : FilePlan → Type 0
IsFilePlan plan = IsText plan.path

pub record IsIncludePlan (plan : IncludePlan) : Type 0 where
  pub from : IsText plan.from
  pub line : IsCoordinate plan.line
  pub to : IsText plan.to

pub record IsUnitPlan (plan : UnitPlan) : Type 0 where
  pub output : IsText plan.output
  pub main : IsTextOrEmpty plan.main
  pub module_name : IsTextOrEmpty plan.«module»
  pub units : AllByRecursion IsText plan.units
  pub records : AllByRecursion IsRecordPlan plan.records
  pub files : AllByRecursion IsFilePlan plan.files
  pub includes : AllByRecursion IsIncludePlan plan.includes

-- the limits of a plan's lists
abbrev pub HasFewRelations : OccurrencePlan → Type 0
HasFewRelations plan = length plan.relations ≤ 256

pub record IsShortRecord (plan : RecordPlan) : Type 0 where
  pub symbols : length plan.symbols ≤ 65536
  pub occurrences : length plan.occurrences ≤ 65536
  pub relations : AllByRecursion HasFewRelations plan.occurrences

pub record IsShortUnit (plan : UnitPlan) : Type 0 where
  pub units : length plan.units ≤ 4096
  pub records : length plan.records ≤ 4096
  pub files : length plan.files ≤ 4096
  pub includes : length plan.includes ≤ 4096
  pub each_record : AllByRecursion IsShortRecord plan.records

-- the format of a plan's records
abbrev pub IsRecordOf : Format → RecordPlan → Type 0
IsRecordOf format plan = plan.format ≡ format

abbrev pub IsUnitOf : Format → UnitPlan → Type 0
IsUnitOf format plan = AllByRecursion (IsRecordOf format) plan.records

-- a walk's depth is from 1 to 16
abbrev pub IsWalk : List ℕ → ℕ → Type 0
IsWalk usr depth = IsText usr × (1 ≤ depth) × (depth ≤ 16)

abbrev pub IsAsk : Query → Type 0
IsAsk (query.Def usr) = IsText usr
IsAsk (query.Refs usr) = IsText usr
IsAsk (query.Occ usr roles) = IsText usr × AreRoles roles
IsAsk (query.Rel usr roles) = IsText usr × AreRelations roles
IsAsk (query.Callers usr) = IsText usr
IsAsk (query.Overrides usr) = IsText usr
IsAsk (query.Name name) = IsTextOrEmpty name
IsAsk (query.Pattern text start end fold) = IsText text
IsAsk (query.Symbols path) = IsText path
IsAsk (query.Mains path) = IsText path
IsAsk (query.Units path) = IsText path
IsAsk (query.Includes path) = IsText path
IsAsk (query.Includers path) = IsText path
IsAsk (query.Incoming usr depth) = IsWalk usr depth
IsAsk (query.Outgoing usr depth) = IsWalk usr depth
IsAsk (query.Supertypes usr depth) = IsWalk usr depth
IsAsk (query.Subtypes usr depth) = IsWalk usr depth
IsAsk (query.Codegen codegen) = IsText codegen

-- the ask for a code generation name is one of format Two alone
abbrev pub IsAskOf : Format → Query → Type 0
IsAskOf format (query.Def usr) = Unit {0}
IsAskOf format (query.Refs usr) = Unit {0}
IsAskOf format (query.Occ usr roles) = Unit {0}
IsAskOf format (query.Rel usr roles) = Unit {0}
IsAskOf format (query.Callers usr) = Unit {0}
IsAskOf format (query.Overrides usr) = Unit {0}
IsAskOf format (query.Name name) = Unit {0}
IsAskOf format (query.Pattern text start end fold) = Unit {0}
IsAskOf format (query.Symbols path) = Unit {0}
IsAskOf format (query.Mains path) = Unit {0}
IsAskOf format (query.Units path) = Unit {0}
IsAskOf format (query.Includes path) = Unit {0}
IsAskOf format (query.Includers path) = Unit {0}
IsAskOf format (query.Incoming usr depth) = Unit {0}
IsAskOf format (query.Outgoing usr depth) = Unit {0}
IsAskOf format (query.Supertypes usr depth) = Unit {0}
IsAskOf format (query.Subtypes usr depth) = Unit {0}
IsAskOf format (query.Codegen codegen) = format ≡ Two

-- a step that keeps the rules and the limits
abbrev pub IsStep : Step → Type 0
IsStep (Build plan) = IsUnitPlan plan × IsShortUnit plan
IsStep (Remove output) = IsText output
IsStep Poll = Unit {0}
IsStep Refresh = Unit {0}
IsStep (Ask query) = IsAsk query
IsStep Release = Unit {0}
IsStep Collect = Unit {0}

abbrev pub IsLane : List Step → Type 0
IsLane lane = AreFew 4096 IsStep lane

-- a step of a script of the format
abbrev pub IsStepOf : Format → Step → Type 0
IsStepOf format (Build plan) = IsUnitOf format plan
IsStepOf format (Remove output) = Unit {0}
IsStepOf format Poll = Unit {0}
IsStepOf format Refresh = Unit {0}
IsStepOf format (Ask query) = IsAskOf format query
IsStepOf format Release = Unit {0}
IsStepOf format Collect = Unit {0}

abbrev pub IsLaneOf : Format → List Step → Type 0
IsLaneOf format lane = AllByRecursion (IsStepOf format) lane

abbrev pub IsScriptOf : Format → Script → Type 0
IsScriptOf format script = AllByRecursion (IsLaneOf format) script.lanes

-- some format is the script's
pub record HasFormat (script : Script) : Type 0 where
  pub format : Format
  pub is : IsScriptOf format script

pub record IsAccepted (script : Script) : Type 0 where
  pub lanes : AreFew 16 IsLane script.lanes
  pub order : AreFew 65536 (λ lane. lane < length script.lanes) script.order
  pub one_poller : length (filter polls script.lanes) ≤ 1
  pub one_format : HasFormat script
