-- An event that says that a record was removed removes one that nobody needs.
use Rattle.std.proofs.Common.{◌≡◌, ℕ, zero, suc, ◌==◌, ◌||◌, if◌then◌else◌, Bool, true, false, List, [], ◌∷◌, ◌++◌, Option, Some, None, IfSome, option_map, get_or, refl, sym, ap, ◌∙◌, subst}
use Rattle.std.specs.List.{list_any}
use Rattle.std.specs.Map.{lookup}
use Rattle.std.specs.BTreeMap.{is_at}
use Rattle.std.specs.Str.{bytes_eq}
use Rattle.std.proofs.lemmas.List.{append_cancel_left}
use Rattle.ix_types.specs.Row.{text_cmp}
use Rattle.ix_record.specs.declared.body.Body.{Body}
use Rattle.ix_unit.specs.declared.value.UnitValue.{UnitValue}
use Rattle.ix_model.specs.declared.publication.Publication.TheVariants as model
use Rattle.ix_model.specs.declared.publication.StoredUnit.{StoredUnit}
use Rattle.ix_model.specs.Units.{unit_named}
use Rattle.ix_machine.specs.declared.event.Event.{Event}
use Rattle.ix_machine.specs.declared.event.Outcome.{Outcome}
use Rattle.ix_machine.specs.declared.event.Outcome.TheVariants.{Done, Written, Shared, Clash, Synced, Unsynced, NoUnit, At, Removed, Nothing, Fault, Lost, Damaged}
use Rattle.ix_machine.specs.Given.{Given}
use Rattle.ix_machine.specs.Given as given
use Rattle.ix_machine.specs.Laws.{RemovesLeast, TakesAway}
use Rattle.ix_machine.specs.Needs.{option_any, has_name, units_need, visible, seen_at, is_needed, is_leased, is_protected, is_guarded, settled}
use Rattle.ix_machine.specs.Sound.{IsSound}
use Rattle.ix_machine.specs.State as state
use Rattle.ix_machine.specs.State.{State}
use Rattle.ix_machine.specs.Step.{Stepped, Row, flagged, row, step, staged_by, dropped, publish_over, publish_unit, change, sure, may_fault, noted, write, put_over, stored_unit, remove_named, name_with_output, install_import, install_mark, collect}
use Rattle.ix_lanes.specs.Tasks.{Task}
use Rattle.ix_replays.specs.Run.{Run, call_of, extended}
use Rattle.ix_allowed.specs.Laws.{IsNeededByNone}
use Rattle.ix_allowed.proofs.Runs.{added}
use Rattle.ix_allowed.proofs.Steps.{Ends, row_ends}

-- ---- calls that remove no record

module _ (name : List ℕ) where
  abbrev Spares : Outcome → State → Type 0
  Spares outcome t = outcome ≡ Removed name → ⊥

  each_spares : (outcome : Outcome) → (outcome ≡ Removed name → ⊥) → (o : Option State) → IfSome o (Spares outcome)
  each_spares outcome apart None = tt
  each_spares outcome apart (Some t) = apart

  spares : (r : Row) → (r.plain.outcome ≡ Removed name → ⊥) → Ends Spares r
  spares r plain = record {
    plain = plain;
    fault = each_spares Fault (λ e. cc) r.faulted;
    lost = λ other. each_spares (Lost other) (λ e. cc) r.faulted;
    damaged = λ other. each_spares (Damaged other) (λ e. cc) r.faulted;
    unsynced = each_spares Unsynced (λ e. cc) r.unsynced;
  }

  module _ (s : State) (lane : ℕ) where
    put_spares : (body : Body) (o : Option (List ℕ)) → Ends Spares (put_over s lane body o)
    put_spares body None = spares (write s lane body) (λ e. cc)
    put_spares body (Some bytes) =
        elim (bytes_eq bytes body.bytes) as (λ b. Ends Spares (if b then may_fault Shared (noted s lane body.name) (dropped s lane) else (if is_guarded s lane body.name then may_fault Clash (dropped s lane) (dropped s lane) else write s lane body))) [
          | true ↦ spares (may_fault Shared (noted s lane body.name) (dropped s lane)) (λ e. cc)
          | false ↦ elim (is_guarded s lane body.name) as (λ b. Ends Spares (if b then may_fault Clash (dropped s lane) (dropped s lane) else write s lane body)) [
            | true ↦ spares (may_fault Clash (dropped s lane) (dropped s lane)) (λ e. cc)
            | false ↦ spares (write s lane body) (λ e. cc)
          ]
        ]

    publish_spares : (unit_name : List ℕ) (unit : UnitValue) (o : Option StoredUnit) → Ends Spares (publish_over s lane unit_name unit o)
    publish_spares unit_name unit None = spares (change (dropped s lane) (dropped s lane) (model.Put unit_name (stored_unit s unit))) (λ e. cc)
    publish_spares unit_name unit (Some other) =
        elim (bytes_eq other.unit.output unit.output) as (λ b. Ends Spares (if b then change (dropped s lane) (dropped s lane) (model.Put unit_name (stored_unit s unit)) else sure Clash (dropped s lane))) [
          | true ↦ spares (change (dropped s lane) (dropped s lane) (model.Put unit_name (stored_unit s unit))) (λ e. cc)
          | false ↦ spares (sure Clash (dropped s lane)) (λ e. cc)
        ]

    staged_spares : (name_of : List ℕ → List ℕ) (o : Option UnitValue) → IfSome (option_map (λ unit. publish_unit s lane (name_of unit.output) unit) o) (Ends Spares)
    staged_spares name_of None = tt
    staged_spares name_of (Some unit) = publish_spares (name_of unit.output) unit (unit_named (name_of unit.output) (visible s))

    remove_spares : (o : Option (List ℕ)) → Ends Spares (remove_named s o)
    remove_spares None = spares (sure NoUnit s) (λ e. cc)
    remove_spares (Some unit_name) = spares (change s s (model.Gone unit_name)) (λ e. cc)

    install_spares : (o : Option state.Import) → IfSome (install_import s lane o) (Ends Spares)
    install_spares None = tt
    install_spares (Some i) =
        elim (i.lane == lane) as (λ b. IfSome (if b then Some (install_mark s lane i.mark) else None) (Ends Spares)) [
          | true ↦ spares (install_mark s lane i.mark) (λ e. cc)
          | false ↦ tt
        ]

    -- a collect alone removes a record, where it doesn't fail
    other_call : (name_of : List ℕ → List ℕ) (g : Given) (flag : Outcome) → IfSome (row name_of s lane g) (Ends Spares) → IfSome (step name_of s lane g flag) (λ stepped. stepped.outcome ≡ Removed name → (g ≡ given.Collect) × (flag ≡ Done))
    other_call name_of g flag e = over (step name_of s lane g flag) (row_ends Spares (row name_of s lane g) flag e)
      where
        over : (o : Option Stepped) → IfSome o (λ stepped. stepped.outcome ≡ Removed name → ⊥) → IfSome o (λ stepped. stepped.outcome ≡ Removed name → (g ≡ given.Collect) × (flag ≡ Done))
        over None f = tt
        over (Some stepped) f = λ e. absurd (f e)

    collects : (flag : Outcome) → IfSome (flagged (collect s) flag) (λ stepped. stepped.outcome ≡ Removed name → (given.Collect ≡ given.Collect) × (flag ≡ Done))
    collects Done = λ e. (refl, refl)
    collects Written = tt
    collects Shared = tt
    collects Clash = tt
    collects Synced = tt
    collects Unsynced = tt
    collects NoUnit = tt
    collects (At mark) = tt
    collects (Removed other) = tt
    collects Nothing = tt
    collects Fault = λ e. absurd (cc)
    collects (Lost other) = tt
    collects (Damaged other) = tt

    by_collect : (name_of : List ℕ → List ℕ) (g : Given) (flag : Outcome) → IfSome (step name_of s lane g flag) (λ stepped. stepped.outcome ≡ Removed name → (g ≡ given.Collect) × (flag ≡ Done))
    by_collect name_of (given.Lease names) flag = other_call name_of (given.Lease names) flag (spares _ (λ e. cc))
    by_collect name_of (given.Put body) flag = other_call name_of (given.Put body) flag (put_spares body (lookup (is_at (text_cmp body.name)) s.records))
    by_collect name_of (given.Stage unit) flag = other_call name_of (given.Stage unit) flag (spares _ (λ e. cc))
    by_collect name_of given.Publish flag = other_call name_of given.Publish flag (staged_spares name_of (staged_by s lane))
    by_collect name_of (given.Remove output) flag = other_call name_of (given.Remove output) flag (remove_spares (name_with_output output (visible s)))
    by_collect name_of given.Scan flag = other_call name_of given.Scan flag (spares _ (λ e. cc))
    by_collect name_of (given.Load other purpose) flag = other_call name_of (given.Load other purpose) flag (spares _ (λ e. cc))
    by_collect name_of given.Install flag = other_call name_of given.Install flag (install_spares s.import)
    by_collect name_of given.Adopt flag = other_call name_of given.Adopt flag (spares _ (λ e. cc))
    by_collect name_of given.Release flag = other_call name_of given.Release flag (spares _ (λ e. cc))
    by_collect name_of given.Collect flag = collects flag

-- ---- what nobody needs

or_false : (a b : Bool) → (a || b) ≡ false → (a ≡ false) × (b ≡ false)
or_false true b e = absurd (cc)
or_false false b e = (refl, e)

if_any : {X : Type 0} (test : X → Bool) (o : Option X) → option_any test o ≡ false → IfSome o (λ x. test x ≡ false)
if_any test None e = tt
if_any test (Some x) e = e

at_each : {X : Type 0} (test : X → Bool) (xs : List (Option X)) → list_any (option_any test) xs ≡ false → (i : ℕ) → IfSome (get_or xs i None) (λ x. test x ≡ false)
at_each test [] e i = tt
at_each test (x ∷ xs) e zero = if_any test x (or_false (option_any test x) (list_any (option_any test) xs) e).0
at_each test (x ∷ xs) e (suc i) = at_each test xs (or_false (option_any test x) (list_any (option_any test) xs) e).1 i

module _ (s : State) (name : List ℕ) where
  abbrev by_visible : Bool
  by_visible = units_need name (visible s)

  abbrev by_import : Bool
  by_import = option_any (λ open_import. units_need name (seen_at s open_import.mark)) s.import

  abbrev by_current : Bool
  by_current = units_need name (seen_at s s.current)

  abbrev by_held : Bool
  by_held = list_any (option_any (λ mark. units_need name (seen_at s mark))) s.held

  pub unneeded : is_protected (settled s) name ≡ false → IsNeededByNone s name
  unfolding is_needed
  unneeded free =
      let all = or_false (by_visible || false || by_import || by_current || by_held) (is_leased name s.leases) free in
      let first = or_false (by_visible || false || by_import || by_current) by_held all.0 in
      let second = or_false (by_visible || false || by_import) by_current first.0 in
      let third = or_false (by_visible || false) by_import second.0 in
      let fourth = or_false by_visible false third.0 in
      record {
        by_visible = fourth.0;
        by_import = if_any (λ (i : state.Import). units_need name (seen_at s i.mark)) s.import third.1;
        by_current = second.1;
        by_holds = at_each (λ (mark : ℕ). units_need name (seen_at s mark)) s.held first.1;
        by_leases = at_each (λ (lease : state.Lease). has_name name lease.names) s.leases all.1;
      }

both_false : (a b : Bool) → a ≡ false → b ≡ false → (a || b) ≡ false
both_false true b e f = absurd (cc)
both_false false b e f = f

any_none : {X : Type 0} (test : X → Bool) (o : Option X) → IfSome o (λ x. test x ≡ false) → option_any test o ≡ false
any_none test None n = refl
any_none test (Some x) n = n

each_none : {X : Type 0} (test : X → Bool) (xs : List (Option X)) → ((i : ℕ) → IfSome (get_or xs i None) (λ x. test x ≡ false)) → list_any (option_any test) xs ≡ false
each_none test [] f = refl
each_none test (x ∷ xs) f = both_false (option_any test x) (list_any (option_any test) xs) (any_none test x (f zero)) (each_none test xs (λ i. f (suc i)))

pub unprotected : (s : State) (name : List ℕ) → IsNeededByNone s name → is_protected (settled s) name ≡ false
unfolding is_needed
unprotected s name n =
    both_false (by_visible s name || false || by_import s name || by_current s name || by_held s name) (is_leased name s.leases)
    (both_false (by_visible s name || false || by_import s name || by_current s name) (by_held s name)
    (both_false (by_visible s name || false || by_import s name) (by_current s name)
    (both_false (by_visible s name || false) (by_import s name) (both_false (by_visible s name) false n.by_visible refl)
    (any_none (λ (i : state.Import). units_need name (seen_at s i.mark)) s.import n.by_import))
    n.by_current)
    (each_none (λ (mark : ℕ). units_need name (seen_at s mark)) s.held n.by_holds))
    (each_none (λ (lease : state.Lease). has_name name lease.names) s.leases n.by_leases)

-- ---- an event that says so

-- the record goes that nobody needs, no other file changes, and all else is as before, but that no change pends
pub record RemovesUnneeded (name : List ℕ) (before after : State) : Type 0 where
  pub unneeded : IsNeededByNone before name
  pub taken : TakesAway name before.records after.records
  pub rest : after ≡ record (settled before) { records = after.records }

module _ (removes : (name_of : List ℕ → List ℕ) (s : State) (lane : ℕ) (stepped : Stepped) (name : List ℕ) → IsSound name_of s → step name_of s lane given.Collect Done ≡ Some stepped → stepped.outcome ≡ Removed name → RemovesLeast s name stepped.state)
    (name_of : List ℕ → List ℕ) (lanes : List (List Task)) (run longer : Run) (lane : ℕ) (flag : Outcome) where
  pub removal : IsSound name_of run.state → extended name_of lanes run lane flag ≡ Some longer → (event : Event) (name : List ℕ) → longer.events ≡ run.events ++ event ∷ [] → event.outcome ≡ Removed name → RemovesUnneeded name run.state longer.state
  removal sound e event name shows says =
      let a = added name_of lanes run lane flag longer e in
      let made : Event = record { lane = lane; call = call_of name_of run.state lane a.given; outcome = a.stepped.outcome } in
      let is : run.events ++ event ∷ [] ≡ run.events ++ made ∷ [] = sym shows ∙ sym (ap (λ (r : Run). r.events) a.is) in
      let single : event ∷ [] ≡ made ∷ [] = append_cancel_left run.events (event ∷ []) (made ∷ []) is in
      let same : event ≡ made = cc in
      let outcome : a.stepped.outcome ≡ Removed name = sym (ap (λ (x : Event). x.outcome) same) ∙ says in
      let by = subst (λ (o : Option Stepped). IfSome o (λ stepped. stepped.outcome ≡ Removed name → (a.given ≡ given.Collect) × (flag ≡ Done))) a.taken (by_collect name run.state lane name_of a.given flag) outcome in
      let taken : step name_of run.state lane given.Collect Done ≡ Some a.stepped = sym (λ k. step name_of run.state lane (by.0 k) (by.1 k)) ∙ a.taken in
      let least = removes name_of run.state lane a.stepped name sound taken outcome in
      subst (λ (s : State). RemovesUnneeded name run.state s) (ap (λ (r : Run). r.state) a.is)
      (record { unneeded = unneeded run.state name least.least.loose.free; taken = least.taken; rest = least.rest })
