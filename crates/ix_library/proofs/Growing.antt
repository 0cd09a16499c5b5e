-- Publications are only added, by each step of the machine.
use Rattle.std.proofs.Common.{◌≡◌, ℕ, ◌==◌, Bool, true, false, cond, List, [], ◌∷◌, ◌++◌, refl, sym, ap, subst, ◌∙◌, Option, Some, None, option_map, IfSome}
use Rattle.std.specs.BTreeMap.{insert_entry, is_at}
use Rattle.std.specs.Map.{lookup}
use Rattle.std.specs.Option.{option_and_then}
use Rattle.std.specs.Str.{bytes_eq}
use Rattle.std.proofs.lemmas.Option.{same_Some}
use Rattle.ix_types.specs.Row.{text_cmp}
use Rattle.ix_dir.specs.declared.moves.Move.{Move}
use Rattle.ix_dir.specs.WhatAChangeLeaves.{Adds, AddsTo, IfTold}
use Rattle.ix_record.specs.declared.body.Body.{Body}
use Rattle.ix_unit.specs.declared.value.UnitValue.{UnitValue}
use Rattle.ix_model.specs.declared.publication.Publication.{Publication}
use Rattle.ix_model.specs.declared.publication.Publication.TheVariants as model
use Rattle.ix_model.specs.declared.publication.StoredUnit.{StoredUnit}
use Rattle.ix_model.specs.Units.{unit_named}
use Rattle.ix_machine.specs.declared.event.Outcome.{Outcome}
use Rattle.ix_machine.specs.declared.event.Outcome.TheVariants.{Done, Written, Shared, Clash, Synced, Unsynced, NoUnit, At, Removed, Nothing, Fault, Lost, Damaged}
use Rattle.ix_machine.specs.declared.event.Purpose.{Purpose}
use Rattle.ix_machine.specs.declared.event.Purpose.TheVariants as purposes
use Rattle.ix_machine.specs.Given.{Given, Lease, Put, Stage, Publish, Remove, Scan, Load, Install, Adopt, Release, Collect}
use Rattle.ix_machine.specs.Needs.{visible, is_guarded, loose}
use Rattle.ix_machine.specs.State as state
use Rattle.ix_machine.specs.State.{State}
use Rattle.ix_machine.specs.Step as calls
use Rattle.ix_machine.specs.Step.{Stepped, Row, ended, flagged, step, sure, may_fault, change, dropped, noted, write, stored_unit, name_with_output, staged_by}
use Rattle.ix_stops.specs.Prefixes.{LeavesPrefixes}
use Rattle.ix_library.specs.Growing.{Grows}

append_nothing : {A : Type 0} (xs : List A) → xs ++ [] ≡ xs
append_nothing [] = refl
append_nothing (x ∷ xs) = ap (λ rest. x ∷ rest) (append_nothing xs)

module _ (s : State) where
  same : (next : State) → next.publications ≡ s.publications → Grows s next
  same next is = record { more = []; grown = is ∙ sym (append_nothing s.publications) }

  -- each state that a row may leave
  record RowGrows (r : Row) : Type 0 where
    plain : Grows s r.plain.state
    faulted : IfSome r.faulted (Grows s)
    unsynced : IfSome r.unsynced (Grows s)

  by_state : (how : Outcome) (o : Option State) (stepped : Stepped) → IfSome o (Grows s) → option_map (ended how) o ≡ Some stepped → Grows s stepped.state
  by_state how None stepped grows is = absurd (cc)
  by_state how (Some x) stepped grows is = subst (λ (t : Stepped). Grows s t.state) (same_Some (ended how x) stepped is) grows

  by_miss : (how : Outcome) (misses : Bool) (o : Option State) (stepped : Stepped) → IfSome o (Grows s) → cond misses (option_map (ended how) o) None ≡ Some stepped → Grows s stepped.state
  by_miss how true o stepped grows is = by_state how o stepped grows is
  by_miss how false o stepped grows is = absurd (cc)

  by_flag : (r : Row) → RowGrows r → (flag : Outcome) (stepped : Stepped) → flagged r flag ≡ Some stepped → Grows s stepped.state
  by_flag r grows Done stepped is = subst (λ (t : Stepped). Grows s t.state) (same_Some r.plain stepped is) grows.plain
  by_flag r grows Fault stepped is = by_state Fault r.faulted stepped grows.faulted is
  by_flag r grows Unsynced stepped is = by_state Unsynced r.unsynced stepped grows.unsynced is
  by_flag r grows (Lost name) stepped is = by_miss (Lost name) (r.misses name) r.faulted stepped grows.faulted is
  by_flag r grows (Damaged name) stepped is = by_miss (Damaged name) (r.misses name) r.faulted stepped grows.faulted is
  by_flag r grows Written stepped is = absurd (cc)
  by_flag r grows Shared stepped is = absurd (cc)
  by_flag r grows Clash stepped is = absurd (cc)
  by_flag r grows Synced stepped is = absurd (cc)
  by_flag r grows NoUnit stepped is = absurd (cc)
  by_flag r grows (At mark) stepped is = absurd (cc)
  by_flag r grows (Removed name) stepped is = absurd (cc)
  by_flag r grows Nothing stepped is = absurd (cc)

  surely : (how : Outcome) (next : State) → next.publications ≡ s.publications → RowGrows (sure how next)
  surely how next is = record { plain = same next is; faulted = tt; unsynced = tt }

  or_faulted : (how : Outcome) (next faulted : State) → next.publications ≡ s.publications → faulted.publications ≡ s.publications → RowGrows (may_fault how next faulted)
  or_faulted how next faulted is are = record { plain = same next is; faulted = same faulted are; unsynced = tt }

  changes : (from faulted : State) (publication : Publication) → from.publications ≡ s.publications → faulted.publications ≡ s.publications → RowGrows (change from faulted publication)
  changes from faulted publication is are =
      let grown = ap (λ (ps : List Publication). ps ++ publication ∷ []) is in
      record { plain = record { more = publication ∷ []; grown = grown }; faulted = same faulted are; unsynced = record { more = publication ∷ []; grown = grown } }

  module _ (lane : ℕ) where
    put_by_tests : (body : Body) (alike guarded : Bool) → RowGrows (cond alike (may_fault Shared (noted s lane body.name) (dropped s lane)) (cond guarded (may_fault Clash (dropped s lane) (dropped s lane)) (write s lane body)))
    put_by_tests body true guarded = or_faulted Shared (noted s lane body.name) (dropped s lane) refl refl
    put_by_tests body false true = or_faulted Clash (dropped s lane) (dropped s lane) refl refl
    put_by_tests body false false = or_faulted Written (noted (record s { records = insert_entry text_cmp s.records body.name body.bytes }) lane body.name) (dropped s lane) refl refl

    put_grows : (body : Body) (there : Option (List ℕ)) → RowGrows (calls.put_over s lane body there)
    put_grows body None = or_faulted Written (noted (record s { records = insert_entry text_cmp s.records body.name body.bytes }) lane body.name) (dropped s lane) refl refl
    put_grows body (Some bytes) = put_by_tests body (bytes_eq bytes body.bytes) (is_guarded s lane body.name)

    publish_by_test : (name : List ℕ) (unit : UnitValue) (alike : Bool) → RowGrows (cond alike (change (dropped s lane) (dropped s lane) (model.Put name (stored_unit s unit))) (sure Clash (dropped s lane)))
    publish_by_test name unit true = changes (dropped s lane) (dropped s lane) (model.Put name (stored_unit s unit)) refl refl
    publish_by_test name unit false = surely Clash (dropped s lane) refl

    publish_grows : (name : List ℕ) (unit : UnitValue) (there : Option StoredUnit) → RowGrows (calls.publish_over s lane name unit there)
    publish_grows name unit None = changes (dropped s lane) (dropped s lane) (model.Put name (stored_unit s unit)) refl refl
    publish_grows name unit (Some other) = publish_by_test name unit (bytes_eq other.unit.output unit.output)

    remove_grows : (o : Option (List ℕ)) → RowGrows (calls.remove_named s o)
    remove_grows None = surely NoUnit s refl
    remove_grows (Some name) = changes s s (model.Gone name) refl refl

    load_grows : (name : List ℕ) (purpose : Purpose) → RowGrows (calls.load s name purpose)
    load_grows name purposes.Import = record { plain = same s refl; faulted = same (calls.unopened s) refl; unsynced = tt }
    load_grows name purposes.Ask = record { plain = same s refl; faulted = same s refl; unsynced = tt }

    collect_grows : (names : List (List ℕ)) → Grows s (calls.collect_first s names).state
    collect_grows [] = same (calls.collect_first s []).state refl
    collect_grows (name ∷ names) = same (calls.collect_first s (name ∷ names)).state refl

    -- a row that there is
    by_row : (o : Option Row) → IfSome o RowGrows → (flag : Outcome) (stepped : Stepped) → option_and_then (λ (r : Row). flagged r flag) o ≡ Some stepped → Grows s stepped.state
    by_row None grows flag stepped is = absurd (cc)
    by_row (Some r) grows flag stepped is = by_flag r grows flag stepped is

    publish_row : (name_of : List ℕ → List ℕ) (o : Option UnitValue) → IfSome (option_map (λ (unit : UnitValue). calls.publish_unit s lane (name_of unit.output) unit) o) RowGrows
    publish_row name_of None = tt
    publish_row name_of (Some unit) = publish_grows (name_of unit.output) unit (unit_named (name_of unit.output) (visible s))

    install_by_lane : (mark : ℕ) (own : Bool) → IfSome (cond own (Some (calls.install_mark s lane mark)) None) RowGrows
    install_by_lane mark true = surely (At mark) (calls.install_mark s lane mark).plain.state refl
    install_by_lane mark false = tt

    install_row : (o : Option state.Import) → IfSome (calls.install_import s lane o) RowGrows
    install_row None = tt
    install_row (Some i) = install_by_lane i.mark (i.lane == lane)

    row_grows : (name_of : List ℕ → List ℕ) (given : Given) → IfSome (calls.row name_of s lane given) RowGrows
    row_grows name_of (Lease names) = surely Done (calls.lease s lane names).plain.state refl
    row_grows name_of (Put body) = put_grows body (lookup (is_at (text_cmp body.name)) s.records)
    row_grows name_of (Stage unit) = or_faulted Done (calls.stage s lane unit).plain.state (dropped s lane) refl refl
    row_grows name_of Publish = publish_row name_of (staged_by s lane)
    row_grows name_of (Remove output) = remove_grows (name_with_output output (visible s))
    row_grows name_of Scan = record { plain = same (calls.scan s lane).plain.state refl; faulted = same (calls.unopened s) refl; unsynced = tt }
    row_grows name_of (Load name purpose) = load_grows name purpose
    row_grows name_of Install = install_row s.import
    row_grows name_of Adopt = surely (At s.current) (calls.adopt s lane).plain.state refl
    row_grows name_of Release = surely Done (calls.release s lane).plain.state refl
    row_grows name_of Collect = record { plain = collect_grows (loose s); faulted = same s refl; unsynced = tt }

    -- publications are only added
    pub step_grows : (name_of : List ℕ → List ℕ) (given : Given) (flag : Outcome) (stepped : Stepped) → step name_of s lane given flag ≡ Some stepped → Grows s stepped.state
    step_grows name_of given flag stepped is = by_row (calls.row name_of s lane given) (row_grows name_of given) flag stepped is

-- ---- two steps

abbrev pub Join : Type 0
Join = (name_of : List ℕ → List ℕ) (first second more : List Publication) (before between now : List Move) → Adds before between → Adds between now → LeavesPrefixes name_of first second before between → LeavesPrefixes name_of second (second ++ more) between now → LeavesPrefixes name_of first (second ++ more) before now

pub joined : Join → (name_of : List ℕ → List ℕ) (first : List Publication) (second third : State) (before between now : Option (List Move)) → Grows second third → AddsTo before between → AddsTo between now
    → IfTold before between (LeavesPrefixes name_of first second.publications) → IfTold between now (LeavesPrefixes name_of second.publications third.publications) → IfTold before now (LeavesPrefixes name_of first third.publications)
joined join name_of first second third None between now grows adds more leaves then_leaves = tt
joined join name_of first second third (Some b) None now grows adds more leaves then_leaves = absurd adds
joined join name_of first second third (Some b) (Some m) None grows adds more leaves then_leaves = tt
joined join name_of first second third (Some b) (Some m) (Some n) grows adds more leaves then_leaves =
    subst (λ (ps : List Publication). LeavesPrefixes name_of first ps b n) (sym grows.grown)
    (join name_of first second.publications grows.more b m n adds more leaves (subst (λ (ps : List Publication). LeavesPrefixes name_of second.publications ps m n) grows.grown then_leaves))
