-- What an entry leaves is what the machine's own row leaves, of all but record files and values.
use Rattle.std.proofs.Common.{◌≡◌, ℕ, ◌==◌, Bool, true, false, cond, List, [], ◌∷◌, length, Option, Some, None, IfSome, option_map, option_and_then, refl, sym, ap, subst, ◌∙◌, if◌then◌else◌}
use Rattle.std.specs.List.{find}
use Rattle.std.specs.Map.{lookup}
use Rattle.std.specs.BTreeMap.{is_at}
use Rattle.std.specs.Str.{bytes_eq}
use Rattle.std.proofs.lemmas.Option.{same_Some}
use Rattle.std.proofs.lemmas.Slice.Eq.{bytes_eq-Decides}
use Rattle.ix_types.specs.Row.{text_cmp}
use Rattle.ix_record.specs.declared.body.Body.{Body}
use Rattle.ix_unit.specs.declared.value.UnitValue.{UnitValue}
use Rattle.ix_model.specs.declared.publication.Publication.TheVariants as model
use Rattle.ix_model.specs.declared.publication.StoredUnit.{StoredUnit}
use Rattle.ix_model.specs.Units.{Units, unit_named}
use Rattle.ix_machine.specs.declared.event.Outcome.{Outcome}
use Rattle.ix_machine.specs.declared.event.Outcome.TheVariants as outcome
use Rattle.ix_machine.specs.declared.event.Purpose.TheVariants as purposes
use Rattle.ix_machine.specs.Given as given
use Rattle.ix_machine.specs.Given.{Given}
use Rattle.ix_machine.specs.Laws.{AreNamed, after_refusal}
use Rattle.ix_machine.specs.Needs.{is_guarded, loose, visible}
use Rattle.ix_machine.specs.Sound.{MarksInOrder}
use Rattle.ix_machine.specs.State.{State, Import}
use Rattle.ix_machine.specs.Step as calls
use Rattle.ix_machine.specs.Step.{Row, Stepped, ended, flagged, row, staged_by, step}
use Rattle.ix_ledger.specs.OfState.{kept_of}
use Rattle.ix_library.specs.Endings.{flag_for}
use Rattle.ix_facts.specs.Given.{LedgerLaws}
use Rattle.ix_facts.specs.There.{entry_leaves, installing, made_leaves, publishing_staged}
use Rattle.ix_facts.proofs.Followed.{leased_marks}

-- the name of a unit with this output path is the path's
named_so : (name_of : List ℕ → List ℕ) (output : List ℕ) (units : Units) → AreNamed name_of units → (name : List ℕ) → calls.name_with_output output units ≡ Some name → name ≡ name_of output
named_so name_of output [] named name is = absurd (cc)
named_so name_of output (e ∷ es) named name is =
    (elim (bytes_eq e.1.unit.output output) as (λ b. bytes_eq e.1.unit.output output ≡ b → option_map (λ (entry : List ℕ × StoredUnit). entry.0) (cond b (Some e) (find (λ entry. bytes_eq entry.1.unit.output output) es)) ≡ Some name → name ≡ name_of output) [
      | true ↦ λ same h. sym (same_Some e.0 name h) ∙ named.0 ∙ ap name_of ((bytes_eq-Decides e.1.unit.output output).0 same)
      | false ↦ λ same h. named_so name_of output es named.1 name h
    ]) refl is

module _ (laws : LedgerLaws) (name_of : List ℕ → List ℕ) (s : State) (lane : ℕ) (marks : MarksInOrder s) (named : AreNamed name_of (visible s)) where
  -- what the row leaves where nothing fails, behind a fault, and where the sync failed
  record Leaves (what : Given) (r : Row) : Type 0 where
    plain : kept_of (entry_leaves name_of s lane what r.plain.outcome) ≡ kept_of r.plain.state
    faulted : IfSome r.faulted (λ f. kept_of (after_refusal s lane what) ≡ kept_of f)
    unsynced : IfSome r.unsynced (λ u. kept_of (made_leaves name_of s lane what (Some (length s.publications))) ≡ kept_of u)

  written : (body : Body) → Leaves (given.Put body) (calls.write s lane body)
  written body = record { plain = refl; faulted = refl; unsynced = tt }

  guarded : (body : Body) (b : Bool) → Leaves (given.Put body) (if b then calls.may_fault outcome.Clash (calls.dropped s lane) (calls.dropped s lane) else calls.write s lane body)
  guarded body true = record { plain = refl; faulted = refl; unsynced = tt }
  guarded body false = written body

  shared : (body : Body) (b : Bool) → Leaves (given.Put body) (if b then calls.may_fault outcome.Shared (calls.noted s lane body.name) (calls.dropped s lane) else (if is_guarded s lane body.name then calls.may_fault outcome.Clash (calls.dropped s lane) (calls.dropped s lane) else calls.write s lane body))
  shared body true = record { plain = refl; faulted = refl; unsynced = tt }
  shared body false = guarded body (is_guarded s lane body.name)

  over : (body : Body) (o : Option (List ℕ)) → Leaves (given.Put body) (calls.put_over s lane body o)
  over body None = written body
  over body (Some bytes) = shared body (bytes_eq bytes body.bytes)

  published : (unit : UnitValue) → staged_by s lane ≡ Some unit → Leaves given.Publish (calls.change (calls.dropped s lane) (calls.dropped s lane) (model.Put (name_of unit.output) (calls.stored_unit s unit)))
  published unit staged = record {
    plain =
        ap (λ (o : Option UnitValue). kept_of (publishing_staged name_of s lane o None)) staged
        ∙ laws.changes (calls.dropped s lane) (model.Put (name_of unit.output) (record { unit = unit; values = [] })) (leased_marks s lane None marks)
        ∙ sym (laws.changes (calls.dropped s lane) (model.Put (name_of unit.output) (calls.stored_unit s unit)) (leased_marks s lane None marks));
    faulted = refl;
    unsynced =
        ap (λ (o : Option UnitValue). kept_of (publishing_staged name_of s lane o (Some (length s.publications)))) staged
        ∙ laws.pends (calls.dropped s lane) (model.Put (name_of unit.output) (record { unit = unit; values = [] })) (leased_marks s lane None marks)
        ∙ sym (laws.pends (calls.dropped s lane) (model.Put (name_of unit.output) (calls.stored_unit s unit)) (leased_marks s lane None marks));
  }

  published_if : (unit : UnitValue) → staged_by s lane ≡ Some unit → (b : Bool)
      → Leaves given.Publish (if b then calls.change (calls.dropped s lane) (calls.dropped s lane) (model.Put (name_of unit.output) (calls.stored_unit s unit)) else calls.sure outcome.Clash (calls.dropped s lane))
  published_if unit staged true = published unit staged
  published_if unit staged false = record { plain = refl; faulted = tt; unsynced = tt }

  published_over : (unit : UnitValue) → staged_by s lane ≡ Some unit → (o : Option StoredUnit) → Leaves given.Publish (calls.publish_over s lane (name_of unit.output) unit o)
  published_over unit staged None = published unit staged
  published_over unit staged (Some other) = published_if unit staged (bytes_eq other.unit.output unit.output)

  publish_row : (o : Option UnitValue) → staged_by s lane ≡ o → IfSome (option_map (λ (unit : UnitValue). calls.publish_unit s lane (name_of unit.output) unit) o) (Leaves given.Publish)
  publish_row None staged = tt
  publish_row (Some unit) staged = published_over unit staged (unit_named (name_of unit.output) (visible s))

  removed : (output : List ℕ) (o : Option (List ℕ)) → calls.name_with_output output (visible s) ≡ o → Leaves (given.Remove output) (calls.remove_named s o)
  removed output None is = record { plain = refl; faulted = tt; unsynced = tt }
  removed output (Some name) is =
      let same : name ≡ name_of output = named_so name_of output (visible s) named name is in
      record {
        plain = ap (λ (n : List ℕ). kept_of (calls.publishing s (model.Gone n) None)) (sym same);
        faulted = refl;
        unsynced = ap (λ (n : List ℕ). kept_of (calls.publishing s (model.Gone n) (Some (length s.publications)))) (sym same);
      }

  install_if : (i : Import) → s.import ≡ Some i → (b : Bool) → IfSome (if b then Some (calls.install_mark s lane i.mark) else None) (Leaves given.Install)
  install_if i is true = record { plain = ap (λ (o : Option Import). kept_of (installing s lane o)) is; faulted = tt; unsynced = tt }
  install_if i is false = tt

  install_row : (o : Option Import) → s.import ≡ o → IfSome (calls.install_import s lane o) (Leaves given.Install)
  install_row None is = tt
  install_row (Some i) is = install_if i is (i.lane == lane)

  collect_row : (names : List (List ℕ)) → kept_of (entry_leaves name_of s lane given.Collect (calls.collect_first s names).outcome) ≡ kept_of (calls.collect_first s names).state
  collect_row [] = refl
  collect_row (name ∷ names) = refl

  rows : (what : Given) → IfSome (row name_of s lane what) (Leaves what)
  rows (given.Lease names) = record { plain = refl; faulted = tt; unsynced = tt }
  rows (given.Put body) = over body (lookup (is_at (text_cmp body.name)) s.records)
  rows (given.Stage unit) = record { plain = refl; faulted = refl; unsynced = tt }
  rows given.Publish = publish_row (staged_by s lane) refl
  rows (given.Remove output) = removed output (calls.name_with_output output (visible s)) refl
  rows given.Scan = record { plain = refl; faulted = refl; unsynced = tt }
  rows (given.Load name purposes.Import) = record { plain = refl; faulted = refl; unsynced = tt }
  rows (given.Load name purposes.Ask) = record { plain = refl; faulted = refl; unsynced = tt }
  rows given.Install = install_row s.import refl
  rows given.Adopt = record { plain = refl; faulted = tt; unsynced = tt }
  rows given.Release = record { plain = refl; faulted = tt; unsynced = tt }
  rows given.Collect = record { plain = collect_row (loose s); faulted = refl; unsynced = tt }

  -- ---- by the outcome

  module _ (what : Given) (next : State) where
    by_plain : (r : Row) → Leaves what r → (how : Outcome) → Some r.plain ≡ Some (ended how next) → kept_of (entry_leaves name_of s lane what how) ≡ kept_of next
    by_plain r leaves how is = subst (λ (x : Stepped). kept_of (entry_leaves name_of s lane what x.outcome) ≡ kept_of x.state) (same_Some r.plain (ended how next) is) leaves.plain

    by_faulted : (how : Outcome) (o : Option State) → IfSome o (λ f. kept_of (after_refusal s lane what) ≡ kept_of f) → option_map (ended how) o ≡ Some (ended how next) → kept_of (after_refusal s lane what) ≡ kept_of next
    by_faulted how None leaves is = absurd (cc)
    by_faulted how (Some f) leaves is = leaves ∙ ap (λ (x : Stepped). kept_of x.state) (same_Some (ended how f) (ended how next) is)

    by_missed : (how : Outcome) (b : Bool) (o : Option State) → IfSome o (λ f. kept_of (after_refusal s lane what) ≡ kept_of f) → (if b then option_map (ended how) o else None) ≡ Some (ended how next) → kept_of (after_refusal s lane what) ≡ kept_of next
    by_missed how true o leaves is = by_faulted how o leaves is
    by_missed how false o leaves is = absurd (cc)

    by_unsynced : (o : Option State) → IfSome o (λ u. kept_of (made_leaves name_of s lane what (Some (length s.publications))) ≡ kept_of u) → option_map (ended outcome.Unsynced) o ≡ Some (ended outcome.Unsynced next)
        → kept_of (made_leaves name_of s lane what (Some (length s.publications))) ≡ kept_of next
    by_unsynced None leaves is = absurd (cc)
    by_unsynced (Some u) leaves is = leaves ∙ ap (λ (x : Stepped). kept_of x.state) (same_Some (ended outcome.Unsynced u) (ended outcome.Unsynced next) is)

    by_row : (r : Row) → Leaves what r → (how : Outcome) → flagged r (flag_for how) ≡ Some (ended how next) → kept_of (entry_leaves name_of s lane what how) ≡ kept_of next
    by_row r leaves outcome.Done is = by_plain r leaves outcome.Done is
    by_row r leaves outcome.Written is = by_plain r leaves outcome.Written is
    by_row r leaves outcome.Shared is = by_plain r leaves outcome.Shared is
    by_row r leaves outcome.Clash is = by_plain r leaves outcome.Clash is
    by_row r leaves outcome.Synced is = by_plain r leaves outcome.Synced is
    by_row r leaves outcome.Unsynced is = by_unsynced r.unsynced leaves.unsynced is
    by_row r leaves outcome.NoUnit is = by_plain r leaves outcome.NoUnit is
    by_row r leaves (outcome.At mark) is = by_plain r leaves (outcome.At mark) is
    by_row r leaves (outcome.Removed name) is = by_plain r leaves (outcome.Removed name) is
    by_row r leaves outcome.Nothing is = by_plain r leaves outcome.Nothing is
    by_row r leaves outcome.Fault is = by_faulted outcome.Fault r.faulted leaves.faulted is
    by_row r leaves (outcome.Lost name) is = by_missed (outcome.Lost name) (r.misses name) r.faulted leaves.faulted is
    by_row r leaves (outcome.Damaged name) is = by_missed (outcome.Damaged name) (r.misses name) r.faulted leaves.faulted is

    by_rows : (o : Option Row) → IfSome o (Leaves what) → (how : Outcome) → option_and_then (λ (r : Row). flagged r (flag_for how)) o ≡ Some (ended how next) → kept_of (entry_leaves name_of s lane what how) ≡ kept_of next
    by_rows None leaves how is = absurd (cc)
    by_rows (Some r) leaves how is = by_row r leaves how is

    pub as_the_machine : (how : Outcome) → step name_of s lane what (flag_for how) ≡ Some (ended how next) → kept_of (entry_leaves name_of s lane what how) ≡ kept_of next
    as_the_machine how is = by_rows (row name_of s lane what) (rows what) how is
