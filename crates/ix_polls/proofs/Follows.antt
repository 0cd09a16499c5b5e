-- The importer follows the machine through the calls of a poll.
use Rattle.std.proofs.Common.{◌≡◌, ◌≢◌, ◌↔◌, ℕ, zero, suc, ◌<◌, ◌≤◌, not, List, [], ◌∷◌, length, map, filter, Option, Some, None, IfSome, Contains, slice_index_or, slice_get, refl, sym, ap, subst, ◌∙◌, arith}
use Rattle.std.specs.List.{AllByRecursion}
use Rattle.std.specs.List.Sorted.{IsStrictlySortedBy}
use Rattle.std.proofs.lemmas.Option.{same_Some}
use Rattle.ix_types.specs.Row.{text_cmp}
use Rattle.ix_record.specs.declared.value.RecordValue.{RecordValue}
use Rattle.ix_unit.specs.declared.value.RecordDep.{RecordDep}
use Rattle.ix_unit.specs.declared.batch.Scan.{Scan}
use Rattle.ix_model.specs.declared.publication.StoredUnit.{StoredUnit}
use Rattle.ix_model.specs.Units.{Units, NamesRise, needs, units_at}
use Rattle.ix_answers.specs.Meanings.{IsRecord}
use Rattle.ix_answers.specs.Batches.{LeadsTo, HaveOneValue}
use Rattle.ix_machine.specs.Needs.{has_name, seen_at, visible}
use Rattle.ix_machine.specs.Run.{IsFresh}
use Rattle.ix_machine.specs.Sound.{RecordsStand, ValuesStand, StandsAs}
use Rattle.ix_machine.specs.State as state
use Rattle.ix_machine.specs.State.{State, Files}
use Rattle.ix_machine.specs.Step.{holding, unopened}
use Rattle.ix_looks.specs.Values.{HasValue}
use Rattle.ix_outline.specs.declared.outline.Outline.{Outline}
use Rattle.ix_outline.specs.Outline.{outline_of}
use Rattle.ix_outline.specs.Known.{Lists, HaveValues, AreTables, Known, bare}
use Rattle.ix_import.specs.Importing.{Opened, Importing, next_in, next_under, opened_by, begun, abandoned, taken_into, taken_under, took}
use Rattle.ix_import.specs.Leading.{IsImportOf, AreOutlinesOf, LeadsFrom, IsValueOf}
use Rattle.ix_lanes.specs.Calls.{fresh_in}
use Rattle.ix_polls.specs.Following.{IsOpenAs, AreOpen, IsImporting, HasTaken, IsOwnImport}
use Rattle.ix_polls.specs.Given.{Laws}
use Rattle.ix_polls.proofs.Names.{fresh_as, fresh_rises, fresh_out, fresh_lists}
use Rattle.ix_polls.proofs.Fronts.{at_first, next_is, taken_on}

-- ---- records that stand

module _ (name_of : List ℕ → List ℕ) (records : Files) where
  values_there : (deps : List RecordDep) (values : List RecordValue) → ValuesStand name_of records deps values → length deps ≤ length values
  values_there [] [] stand = omega arith
  values_there [] (v ∷ vs) stand = absurd stand
  values_there (d ∷ ds) [] stand = absurd stand
  values_there (d ∷ ds) (v ∷ vs) stand = let rest = values_there ds vs stand.1 in omega (arith, rest)

  values_at : (units : Units) (entry : List ℕ × StoredUnit) (k : ℕ) → k < length units → slice_index_or units k entry ≡ entry → RecordsStand name_of records units → length entry.1.unit.records ≤ length entry.1.values
  values_at [] entry k below is stand = absurd (omega arith)
  values_at (u ∷ us) entry zero below is stand = subst (λ (e : List ℕ × StoredUnit). length e.1.unit.records ≤ length e.1.values) is (values_there u.1.unit.records u.1.values stand.0)
  values_at (u ∷ us) entry (suc k) below is stand = values_at us entry k (omega arith) is stand.1

  have_values : (units : Units) → RecordsStand name_of records units → HaveValues units
  have_values units stand entry c = values_at units entry c.0 c.1 c.2 stand

-- ---- a scan

abbrev pub scanned_state : State → ℕ → State
scanned_state s lane = record s { import = Some (record { lane = lane; mark = length s.publications }) }

module _ (laws : Laws) (s : State) (importer : Importing) (imports : IsImporting s importer) where
  module _ (name_of : List ℕ → List ℕ) (stand : RecordsStand name_of s.records (visible s)) where
    is_import : (scan : Scan) (now : Units) → NamesRise now → HaveValues now → LeadsTo scan.batch.puts scan.batch.gone (seen_at s s.current) now
        → scan.fresh ≡ fresh_in (seen_at s s.current) now → HaveOneValue (seen_at s s.current) now → IsImportOf (seen_at s s.current) now (opened_by scan)
    is_import scan now rise values leads fresh one =
        laws.begins (seen_at s s.current) now scan leads rise values one
        (subst (λ (ns : List (List ℕ)). IsStrictlySortedBy text_cmp ns) (sym fresh) (fresh_rises laws.sets (seen_at s s.current) now))
        (λ name. subst (λ (ns : List (List ℕ)). Contains ns name ↔ (Lists (map bare now) name × (Lists (map bare (seen_at s s.current)) name → ⊥))) (sym fresh) (fresh_lists laws.sets (seen_at s s.current) now name))

    open_at : (lane : ℕ) (scan : Scan) (mark : ℕ) → scan.mark ≡ mark → mark ≡ length s.publications → LeadsTo scan.batch.puts scan.batch.gone (seen_at s s.current) (seen_at s mark)
        → scan.fresh ≡ filter (λ name. not (has_name name (needs (seen_at s s.current)))) (needs (seen_at s mark)) → HaveOneValue (seen_at s s.current) (seen_at s mark)
        → IsOpenAs (record s { import = Some (record { lane = lane; mark = mark }) }) (record { lane = lane; mark = mark }) (opened_by scan)
    open_at lane scan mark at is leads fresh one =
        let new : scan.fresh ≡ fresh_in (seen_at s s.current) (seen_at s mark) = fresh ∙ fresh_as laws.sets (seen_at s s.current) (seen_at s mark) in
        record {
          mark = at;
          leads = is_import scan (seen_at s mark) (laws.rises s.publications mark) (have_values name_of s.records (seen_at s mark) (subst (λ (m : ℕ). RecordsStand name_of s.records (seen_at s m)) (sym is) stand)) leads new one;
          outlines = record { each = λ dep value outline of_units found. absurd (cc) };
          fresh = new;
        }

    pub scan_follows : (lane : ℕ) (scan : Scan) → scan.mark ≡ length s.publications → LeadsTo scan.batch.puts scan.batch.gone (seen_at s s.current) (seen_at s scan.mark)
        → scan.fresh ≡ filter (λ name. not (has_name name (needs (seen_at s s.current)))) (needs (seen_at s scan.mark)) → HaveOneValue (seen_at s s.current) (seen_at s scan.mark)
        → IsImporting (scanned_state s lane) (begun scan importer)
    scan_follows lane scan is leads fresh one =
        subst (λ (m : ℕ). IsImporting (record s { import = Some (record { lane = lane; mark = m }) }) (begun scan importer)) is
        (record { number = imports.number; tables = imports.tables; opened = open_at lane scan scan.mark refl is leads fresh one })

  pub scan_own : (lane : ℕ) (scan : Scan) → IsOwnImport (record s { import = Some (record { lane = lane; mark = length s.publications }) }) lane (length s.publications) 0 (begun scan importer)
  scan_own lane scan = record { own = refl; taken = at_first (opened_by scan) refl }

  -- an import that is closed
  pub closes : IsImporting (unopened s) (abandoned importer)
  closes = record { number = imports.number; tables = imports.tables; opened = tt }

  -- ---- a refresh

  module _ (lane : ℕ) where
    held_open : (i : Option state.Import) (o : Option Opened) → AreOpen s i o → AreOpen (holding s lane (Some s.current)) i o
    held_open None None are = tt
    held_open None (Some o) are = absurd are
    held_open (Some i) None are = absurd are
    held_open (Some i) (Some o) are = record { mark = are.mark; leads = are.leads; outlines = are.outlines; fresh = are.fresh }

    pub adopt_follows : IsImporting (holding s lane (Some s.current)) importer
    adopt_follows = record { number = imports.number; tables = imports.tables; opened = held_open s.import importer.import imports.opened }

  -- ---- a load

  may_next : (i : Option state.Import) (o : Option Opened) (name : List ℕ) → s.import ≡ i → AreOpen s i o → next_under o ≡ Some name → IsFresh s name
  may_next None None name at are next = absurd (cc)
  may_next None (Some o) name at are next = absurd are
  may_next (Some i) None name at are next = absurd are
  may_next (Some i) (Some o) name at are next =
      let there = laws.there o.fresh o.taken name next in
      let new = fresh_out laws.sets (seen_at s s.current) (seen_at s i.mark) name (subst (λ (ns : List (List ℕ)). Contains ns name) are.fresh there.0) in
      record { open_import = i; is_open = at; needed = new.0; new = new.1 }

  pub may_load : (name : List ℕ) → next_under importer.import ≡ Some name → IsFresh s name
  may_load name next = may_next s.import importer.import name refl imports.opened next

  module _ (name : List ℕ) (value : RecordValue) where
    still_open : (i : Option state.Import) (o : Option Opened) → AreOpen s i o → IfSome i (λ (j : state.Import). IsValueOf (seen_at s j.mark) name value) → AreOpen s i (taken_under name (outline_of value) o)
    still_open None None are is = tt
    still_open None (Some o) are is = absurd are
    still_open (Some i) None are is = absurd are
    still_open (Some i) (Some o) are is =
        let leads : LeadsFrom (seen_at s s.current) (seen_at s i.mark) (record { number = importer.number; known = importer.known; import = Some o }) = record { tables = imports.tables; import = are.leads; taken = are.outlines } in
        let after = laws.takes (seen_at s s.current) (seen_at s i.mark) (record { number = importer.number; known = importer.known; import = Some o }) name value leads is in
        record { mark = are.mark; leads = after.import; outlines = after.taken; fresh = are.fresh }

    value_alone : (name_of : List ℕ → List ℕ) (units : Units) → RecordsStand name_of s.records units → HasValue units name value → IsValueOf units name value
    value_alone name_of units stand has dep other is named =
        laws.alone name_of s.records units name other value stand (record { dep = dep; of_units = is; has_name = named }) has

    values_alone : (name_of : List ℕ → List ℕ) (i : Option state.Import) → s.import ≡ i → IfSome i (λ (j : state.Import). RecordsStand name_of s.records (seen_at s j.mark))
        → ((j : state.Import) → s.import ≡ Some j → HasValue (seen_at s j.mark) name value) → IfSome i (λ (j : state.Import). IsValueOf (seen_at s j.mark) name value)
    values_alone name_of None at stand has = tt
    values_alone name_of (Some i) at stand has = value_alone name_of (seen_at s i.mark) stand (has i at)

    pub load_follows : (name_of : List ℕ → List ℕ) → IfSome s.import (λ (j : state.Import). RecordsStand name_of s.records (seen_at s j.mark))
        → ((j : state.Import) → s.import ≡ Some j → HasValue (seen_at s j.mark) name value) → IsImporting s (took name (outline_of value) importer)
    load_follows name_of stand has = record {
      number = imports.number;
      tables = imports.tables;
      opened = still_open s.import importer.import imports.opened (values_alone name_of s.import refl stand has);
    }

  one_more : (name : List ℕ) (outline : Outline) (records : ℕ) (i : Option state.Import) (o : Option Opened) → AreOpen s i o → next_under o ≡ Some name → IfSome o (HasTaken records)
      → IfSome (taken_under name outline o) (HasTaken (suc records))
  one_more name outline records None None are next has = absurd (cc)
  one_more name outline records None (Some o) are next has = absurd are
  one_more name outline records (Some i) None are next has = absurd are
  one_more name outline records (Some i) (Some o) are next has = taken_on laws.takings o name outline records are.leads.rising next has

  pub load_own : (name : List ℕ) (outline : Outline) (lane mark records : ℕ) → next_under importer.import ≡ Some name → IsOwnImport s lane mark records importer → IsOwnImport s lane mark (suc records) (took name outline importer)
  load_own name outline lane mark records next own = record { own = own.own; taken = one_more name outline records s.import importer.import imports.opened next own.taken }

  -- ---- which call comes next

  module _ (lane mark records : ℕ) where
    next_at : (i : Option state.Import) (o : Option Opened) → AreOpen s i o → i ≡ Some (record { lane = lane; mark = mark }) → IfSome o (HasTaken records)
        → next_under o ≡ slice_get (fresh_in (seen_at s s.current) (seen_at s mark)) records
    next_at None o are at has = absurd (cc)
    next_at (Some i) None are at has = absurd are
    next_at (Some i) (Some o) are at has =
        next_is records o has
        ∙ ap (λ (ns : List (List ℕ)). slice_get ns records) (are.fresh ∙ ap (λ (j : state.Import). fresh_in (seen_at s s.current) (seen_at s j.mark)) (same_Some i (record { lane = lane; mark = mark }) at))

    pub next_as : IsOwnImport s lane mark records importer → next_under importer.import ≡ slice_get (fresh_in (seen_at s s.current) (seen_at s mark)) records
    next_as own = next_at s.import importer.import imports.opened own.own own.taken

    -- ---- an install

    mark_at : (i : Option state.Import) (o : Option Opened) (number : ℕ) → AreOpen s i o → i ≡ Some (record { lane = lane; mark = mark }) → IfSome o (λ (opened : Opened). number ≡ opened.mark) → number ≡ mark
    mark_at None o number are at is = absurd (cc)
    mark_at (Some i) None number are at is = absurd are
    mark_at (Some i) (Some o) number are at is = is ∙ (are.mark ∙ ap (λ (j : state.Import). j.mark) (same_Some i (record { lane = lane; mark = mark }) at))

    leads_at : (i : Option state.Import) (o : Option Opened) → AreOpen s i o → i ≡ Some (record { lane = lane; mark = mark })
        → IfSome o (λ opened. IsImportOf (seen_at s s.current) (seen_at s mark) opened) × IfSome o (λ opened. AreOutlinesOf (seen_at s mark) opened)
    leads_at None o are at = absurd (cc)
    leads_at (Some i) None are at = absurd are
    leads_at (Some i) (Some o) are at =
        let same : i.mark ≡ mark = ap (λ (j : state.Import). j.mark) (same_Some i (record { lane = lane; mark = mark }) at) in
        (subst (λ (m : ℕ). IsImportOf (seen_at s s.current) (seen_at s m) o) same are.leads, subst (λ (m : ℕ). AreOutlinesOf (seen_at s m) o) same are.outlines)

    module _ (own : s.import ≡ Some (record { lane = lane; mark = mark })) where
      pub leads_from : LeadsFrom (seen_at s s.current) (seen_at s mark) importer
      leads_from = let both = leads_at s.import importer.import imports.opened own in record { tables = imports.tables; import = both.0; taken = both.1 }

      pub number_is : (number : ℕ) → IfSome importer.import (λ (opened : Opened). number ≡ opened.mark) → number ≡ mark
      number_is number is = mark_at s.import importer.import number imports.opened own is

      pub install_follows : (number : ℕ) (known : Known) (now : Importing) → IfSome importer.import (λ (opened : Opened). number ≡ opened.mark) → number ≡ now.number → known ≡ now.known → AreTables (seen_at s mark) known → now.import ≡ None
          → IsImporting (holding (record s { import = None; current = mark }) lane (Some mark)) now
      install_follows number known now is numbered knows tables closed = record {
        number = sym numbered ∙ number_is number is;
        tables = subst (λ (k : Known). AreTables (seen_at s mark) k) knows tables;
        opened = subst (λ (o : Option Opened). AreOpen (holding (record s { import = None; current = mark }) lane (Some mark)) None o) (sym closed) tt;
      }
