-- Steps that leave the import as it is.
use Rattle.std.proofs.Common.{◌≡◌, ℕ, ◌≤◌, true, false, List, ◌++◌, length, Option, Some, None, IfSome, refl, sym, ap, subst, ◌∙◌, arith}
use Rattle.ix_model.specs.declared.publication.Publication.{Publication}
use Rattle.ix_model.specs.Units.{Units, units_at}
use Rattle.ix_machine.specs.Needs.{seen_at}
use Rattle.ix_machine.specs.Sound.{MarksInOrder}
use Rattle.ix_machine.specs.State as state
use Rattle.ix_machine.specs.State.{State}
use Rattle.ix_outline.specs.Known.{AreTables}
use Rattle.ix_import.specs.Importing.{Opened, Importing as Importer}
use Rattle.ix_import.specs.Leading.{IsImportOf, AreOutlinesOf}
use Rattle.ix_lanes.specs.Calls.{fresh_in}
use Rattle.ix_lanes.specs.declared.doing.Doing.{Doing}
use Rattle.ix_lanes.specs.declared.doing.Doing.TheVariants.{Begun, Putting, Staged, Importing}
use Rattle.ix_polls.specs.Given.{Prefix}
use Rattle.ix_polls.specs.Following.{IsOpenAs, AreOpen, IsImporting, IsOwnImport, IsUnderWay}

-- the import, the current mark and the publications so far are those of before
pub record IsLeft (s next : State) : Type 0 where
  pub import : next.import ≡ s.import
  pub current : next.current ≡ s.current
  pub more : List Publication
  pub publications : next.publications ≡ s.publications ++ more

module _ (prefix : Prefix) (s next : State) (left : IsLeft s next) where
  pub seen_still : (mark : ℕ) → mark ≤ length s.publications → seen_at next mark ≡ seen_at s mark
  seen_still mark below = ap (λ (ps : List Publication). units_at ps mark) left.publications ∙ prefix s.publications left.more mark below

  module _ (marks : MarksInOrder s) where
    current_still : seen_at next next.current ≡ seen_at s s.current
    current_still = ap (seen_at next) left.current ∙ seen_still s.current marks.current

    open_still : (i : state.Import) (o : Opened) → (s.current ≤ i.mark) × (i.mark ≤ length s.publications) → IsOpenAs s i o → IsOpenAs next i o
    open_still i o within is =
        let at = seen_still i.mark within.1 in
        record {
          mark = is.mark;
          leads = subst (λ (us : Units). IsImportOf us (seen_at next i.mark) o) (sym current_still) (subst (λ (us : Units). IsImportOf (seen_at s s.current) us o) (sym at) is.leads);
          outlines = subst (λ (us : Units). AreOutlinesOf us o) (sym at) is.outlines;
          fresh = is.fresh ∙ (λ j. fresh_in (sym current_still j) (sym at j));
        }

    all_still : (i : Option state.Import) (o : Option Opened) → IfSome i (λ (j : state.Import). (s.current ≤ j.mark) × (j.mark ≤ length s.publications)) → AreOpen s i o → AreOpen next i o
    all_still None None within are = tt
    all_still None (Some o) within are = absurd are
    all_still (Some i) None within are = absurd are
    all_still (Some i) (Some o) within are = open_still i o within are

    pub imports_still : (importer : Importer) → IsImporting s importer → IsImporting next importer
    imports_still importer is = record {
      number = is.number ∙ sym left.current;
      tables = subst (λ (us : Units). AreTables us importer.known) (sym current_still) is.tables;
      opened = subst (λ (i : Option state.Import). AreOpen next i importer.import) (sym left.import) (all_still s.import importer.import marks.imported is.opened);
    }

  pub under_way_still : (lane : ℕ) (doing : Doing) (importer : Importer) → IsUnderWay s lane doing importer → IsUnderWay next lane doing importer
  under_way_still lane Begun importer is = tt
  under_way_still lane (Putting files) importer is = tt
  under_way_still lane Staged importer is = tt
  under_way_still lane (Importing mark records) importer is = record { own = left.import ∙ is.own; taken = is.taken }
