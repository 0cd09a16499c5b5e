-- What an open import leads to.
use Rattle.std.specs.Prelude.{◌≡◌, ◌↔◌, ℕ, List, map, Some, Contains, IfSome}
use Rattle.std.specs.List.Sorted.{IsStrictlySortedBy}
use Rattle.ix_types.specs.Row.{text_cmp}
use Rattle.ix_record.specs.declared.value.RecordValue.{RecordValue}
use Rattle.ix_unit.specs.declared.value.RecordDep.{RecordDep}
use Rattle.ix_model.specs.Units.{Units, NamesRise}
use Rattle.ix_answers.specs.Meanings.{IsRecord}
use Rattle.ix_answers.specs.Batches.{LeadsTo, HaveOneValue}
use Rattle.ix_pages.specs.Pairs.{look_up}
use Rattle.ix_outline.specs.declared.outline.Outline.{Outline}
use Rattle.ix_outline.specs.Outline.{outline_of}
use Rattle.ix_outline.specs.Known.{Lists, HaveValues, AreTables, bare}
use Rattle.ix_import.specs.Importing.{Opened, Importing}

-- the import's batch leads from some units to others, and its new names, which rise, are those that only the others list
pub record IsImportOf (units later : Units) (opened : Opened) : Type 0 where
  pub leads : LeadsTo opened.puts opened.gone units later
  pub rises : NamesRise later
  pub whole : HaveValues later
  pub one : HaveOneValue units later
  pub fresh : (name : List ℕ) → Contains opened.fresh name ↔ (Lists (map bare later) name × (Lists (map bare units) name → ⊥))
  pub rising : IsStrictlySortedBy text_cmp opened.fresh

-- what was taken under a name is the outline of the value that records of the units have under it
pub record AreOutlinesOf (later : Units) (opened : Opened) : Type 0 where
  pub each : (dep : RecordDep) (value : RecordValue) (outline : Outline) → IsRecord later dep value → look_up text_cmp opened.taken dep.name ≡ Some outline → outline ≡ outline_of value

-- the version's tables are those of some units, and the import that is open, if there is one, is on its way from these to others
pub record LeadsFrom (units later : Units) (importing : Importing) : Type 0 where
  pub tables : AreTables units importing.known
  pub import : IfSome importing.import (λ opened. IsImportOf units later opened)
  pub taken : IfSome importing.import (λ opened. AreOutlinesOf later opened)

-- the value that each record of a name has
abbrev pub IsValueOf : Units → List ℕ → RecordValue → Type 0
IsValueOf units name value = (dep : RecordDep) (other : RecordValue) → IsRecord units dep other → dep.name ≡ name → other ≡ value
