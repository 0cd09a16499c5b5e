-- What the proofs of this crate take from the crates below.
use Rattle.std.specs.Prelude.{◌≡◌, ◌≢◌, ◌↔◌, ◌≤◌, ℕ, List, ◌++◌, length, map, Some, None, Contains}
use Rattle.std.specs.List.Sorted.{IsStrictlySortedBy}
use Rattle.ix_types.specs.Row.{text_cmp}
use Rattle.ix_record.specs.declared.value.RecordValue.{RecordValue}
use Rattle.ix_unit.specs.declared.batch.Scan.{Scan}
use Rattle.ix_model.specs.declared.publication.Publication.{Publication}
use Rattle.ix_model.specs.SortedSet.{IsSortedSetOf, sorted_set}
use Rattle.ix_model.specs.Units.{Units, NamesRise, units_at}
use Rattle.ix_answers.specs.Batches.{LeadsTo, HaveOneValue}
use Rattle.ix_pages.specs.Pairs.{look_up}
use Rattle.ix_machine.specs.Sound.{RecordsStand}
use Rattle.ix_machine.specs.State.{Files}
use Rattle.ix_looks.specs.Values.{HasValue}
use Rattle.ix_outline.specs.declared.outline.Outline.{Outline}
use Rattle.ix_outline.specs.Moving.{Named}
use Rattle.ix_outline.specs.Known.{Lists, HaveValues, bare}
use Rattle.ix_outline.specs.Outline.{outline_of}
use Rattle.ix_import.specs.Importing.{Opened, Importing, next_in, opened_by, taken_into, took}
use Rattle.ix_import.specs.Leading.{IsImportOf, LeadsFrom, IsValueOf}

-- a sorted set has the elements of its list
abbrev pub Sets : Type 0
Sets = (texts : List (List ℕ)) → IsSortedSetOf text_cmp texts (sorted_set text_cmp texts)

-- what is published later changes nothing at an earlier mark
abbrev pub Prefix : Type 0
Prefix = (earlier later : List Publication) (n : ℕ) → n ≤ length earlier → units_at (earlier ++ later) n ≡ units_at earlier n

-- what one more record that is taken changes
pub record Takings : Type 0 where
  pub there : (name : List ℕ) (outline : Outline) (opened : Opened) → look_up text_cmp (taken_into name outline opened).taken name ≡ Some outline
  pub others : (name other : List ℕ) (outline : Outline) (opened : Opened) → other ≢ name → look_up text_cmp (taken_into name outline opened).taken other ≡ look_up text_cmp opened.taken other

-- laws of units and of importers
pub record Laws : Type 0 where
  pub sets : Sets
  pub rises : (publications : List Publication) (n : ℕ) → NamesRise (units_at publications n)
  pub begins : (units later : Units) (scan : Scan) → LeadsTo scan.batch.puts scan.batch.gone units later → NamesRise later → HaveValues later → HaveOneValue units later
      → IsStrictlySortedBy text_cmp scan.fresh
      → ((name : List ℕ) → Contains scan.fresh name ↔ (Lists (map bare later) name × (Lists (map bare units) name → ⊥))) → IsImportOf units later (opened_by scan)
  pub takes : (units later : Units) (importing : Importing) (name : List ℕ) (value : RecordValue) → LeadsFrom units later importing
      → IsValueOf later name value → LeadsFrom units later (took name (outline_of value) importing)
  pub takings : Takings
  pub there : (fresh : List (List ℕ)) (taken : Named Outline) (name : List ℕ) → next_in fresh taken ≡ Some name → Contains fresh name × (look_up text_cmp taken name ≡ None)
  pub alone : (name_of : List ℕ → List ℕ) (records : Files) (units : Units) (name : List ℕ) (value other : RecordValue) → RecordsStand name_of records units → HasValue units name value → HasValue units name other → value ≡ other
