-- What an import keeps from step to step.
use Rattle.std.proofs.Common.{◌≡◌, ◌≢◌, ℕ, List, Option, Some, None, IfSome, refl, sym, ap, ◌∙◌, subst}
use Rattle.std.specs.Ordering.{is_eq}
use Rattle.std.specs.declared.cmp.Ordering.TheVariants.{Less, Equal, Greater}
use Rattle.ix_types.specs.Row.{text_cmp}
use Rattle.ix_record.specs.declared.value.RecordValue.{RecordValue}
use Rattle.ix_unit.specs.declared.value.RecordDep.{RecordDep}
use Rattle.ix_unit.specs.declared.batch.Scan.{Scan}
use Rattle.ix_model.specs.Units.{Units}
use Rattle.ix_answers.specs.Meanings.{IsRecord}
use Rattle.ix_pages.specs.Pairs.{look_up, with_pair}
use Rattle.ix_outline.specs.declared.outline.Outline.{Outline}
use Rattle.ix_outline.specs.Known.{AreTables}
use Rattle.ix_outline.specs.Outline.{outline_of}
use Rattle.ix_outline.proofs.Door.{tied}
use Rattle.ix_import.specs.Importing.{Opened, Importing, opened_by, begun, taken_into, taken_under, took}
use Rattle.ix_import.specs.Leading.{IsImportOf, AreOutlinesOf, LeadsFrom, IsValueOf}
use Rattle.ix_import.proofs.Taken.{Puts}

module _ (units later : Units) where
  pub begins : (importing : Importing) (scan : Scan) → AreTables units importing.known → IsImportOf units later (opened_by scan) → LeadsFrom units later (begun scan importing)
  begins importing scan are is = record {
    tables = are;
    import = is;
    taken = record { each = λ dep value outline of_units found. absurd (cc) };
  }

  module _ (name : List ℕ) (value : RecordValue) where
    stays : (o : Option Opened) → IfSome o (λ opened. IsImportOf units later opened) → IfSome (taken_under name (outline_of value) o) (λ opened. IsImportOf units later opened)
    stays None is = is
    stays (Some opened) is = record { leads = is.leads; rises = is.rises; whole = is.whole; one = is.one; fresh = is.fresh; rising = is.rising }

    one_more : Puts → (opened : Opened) → AreOutlinesOf later opened → IsValueOf later name value → AreOutlinesOf later (taken_into name (outline_of value) opened)
    one_more puts opened are is = record {
      each = λ dep other outline of_units found.
          (elim (text_cmp dep.name name) as (λ o. text_cmp dep.name name ≡ o → outline ≡ outline_of other) [
            | Less ↦ λ e. are.each dep other outline of_units (sym (puts.not_put opened.taken (name, outline_of value) dep.name (λ q. absurd (cc))) ∙ found)
            | Equal ↦ λ e.
                let there : look_up text_cmp (with_pair text_cmp opened.taken (name, outline_of value)) dep.name ≡ Some (outline_of value) = puts.put opened.taken (name, outline_of value) dep.name e in
                let same : outline ≡ outline_of value = cc in
                same ∙ sym (ap outline_of (is dep other of_units (tied dep.name name (ap is_eq e))))
            | Greater ↦ λ e. are.each dep other outline of_units (sym (puts.not_put opened.taken (name, outline_of value) dep.name (λ q. absurd (cc))) ∙ found)
          ]) refl;
    }

    goes_on : Puts → (o : Option Opened) → IfSome o (λ opened. AreOutlinesOf later opened) → IsValueOf later name value → IfSome (taken_under name (outline_of value) o) (λ opened. AreOutlinesOf later opened)
    goes_on puts None are is = are
    goes_on puts (Some opened) are is = one_more puts opened are is

    pub takes : Puts → (importing : Importing) → LeadsFrom units later importing → IsValueOf later name value → LeadsFrom units later (took name (outline_of value) importing)
    takes puts importing leads is = record {
      tables = leads.tables;
      import = stays importing.import leads.import;
      taken = goes_on puts importing.import leads.taken is;
    }
