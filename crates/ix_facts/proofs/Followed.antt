-- What is kept behind a call, whether or not the directory tells its moves.
use Rattle.std.proofs.Common.{◌≡◌, ◌⊎◌, inl, inr, ℕ, zero, suc, ◌≤◌, true, false, List, [], ◌∷◌, ◌++◌, length, length-append, set, slice_index_or, Option, Some, None, IfSome, IsSome, option_map, option_and_then, Result, Ok, Err, refl, sym, ap, subst, ◌∙◌, if◌then◌else◌, arith}
use Rattle.std.proofs.lemmas.List.{append_assoc, append-nil}
use Rattle.std.specs.Str.{bytes_eq}
use Rattle.ix_dir.specs.State.{DirState, is_staged}
use Rattle.ix_record.specs.declared.body.Body.{Body}
use Rattle.ix_unit.specs.declared.batch.Scan.{Scan}
use Rattle.ix_unit.specs.declared.value.RecordDep.{RecordDep}
use Rattle.ix_unit.specs.declared.value.UnitValue.{UnitValue}
use Rattle.ix_shelf.specs.declared.shelf.Put.{Put}
use Rattle.ix_shelf.specs.declared.shelf.Put.TheVariants as puts
use Rattle.ix_shelf.specs.declared.fault.PutError.{PutError}
use Rattle.ix_shelf.specs.declared.fault.PutError.TheVariants as put
use Rattle.ix_shelf.specs.declared.fault.LoadError.{LoadError}
use Rattle.ix_shelf.specs.declared.fault.LoadError.TheVariants as load
use Rattle.ix_cabinet.specs.declared.change.Settled.{Settled}
use Rattle.ix_cabinet.specs.declared.change.Settled.TheVariants as settles
use Rattle.ix_cabinet.specs.declared.fault.ScanError.{ScanError}
use Rattle.ix_cabinet.specs.declared.fault.ScanError.TheVariants as scan
use Rattle.ix_cabinet.specs.declared.fault.StageError.{StageError}
use Rattle.ix_cabinet.specs.declared.fault.StageError.TheVariants as stage
use Rattle.ix_model.specs.declared.publication.Publication.{Publication}
use Rattle.ix_model.specs.declared.publication.Publication.TheVariants as model
use Rattle.ix_machine.specs.declared.event.Call.{Call}
use Rattle.ix_machine.specs.declared.event.Call.TheVariants as call
use Rattle.ix_machine.specs.declared.event.Event.{Event}
use Rattle.ix_machine.specs.declared.event.Outcome.{Outcome}
use Rattle.ix_machine.specs.declared.event.Outcome.TheVariants as outcome
use Rattle.ix_machine.specs.declared.event.Purpose.{Purpose}
use Rattle.ix_machine.specs.declared.event.Purpose.TheVariants as purposes
use Rattle.ix_machine.specs.Given as given
use Rattle.ix_machine.specs.Given.{Given}
use Rattle.ix_machine.specs.Laws.{after_refusal}
use Rattle.ix_machine.specs.Needs.{has_name, option_any}
use Rattle.ix_machine.specs.Needs as needs
use Rattle.ix_machine.specs.Sound.{MarksInOrder}
use Rattle.ix_machine.specs.State as state
use Rattle.ix_machine.specs.State.{State, Import, lease_of}
use Rattle.ix_machine.specs.Step as calls
use Rattle.ix_machine.specs.Step.{staged_by}
use Rattle.ix_guard.specs.Guarding as guard
use Rattle.ix_guard.specs.OfMachine.{lease_for}
use Rattle.ix_guard.specs.Protection.{leases_name}
use Rattle.ix_ledger.specs.Effects as effect
use Rattle.ix_ledger.specs.Effects.{Changed, publish_change, publish_over, remove_change, remove_over, with_unit, without_unit}
use Rattle.ix_ledger.specs.Kept.{Kept, staged_in, unit_at}
use Rattle.ix_ledger.specs.OfState.{kept_of}
use Rattle.ix_library.specs.declared.fault.Collected.{Collected}
use Rattle.ix_library.specs.declared.fault.Collected.TheVariants as collects
use Rattle.ix_library.specs.declared.fault.CollectError.{CollectError}
use Rattle.ix_library.specs.declared.fault.CollectError.TheVariants as collect
use Rattle.ix_library.specs.declared.fault.PublishError.{PublishError}
use Rattle.ix_library.specs.declared.fault.PublishError.TheVariants as publish
use Rattle.ix_library.specs.declared.fault.RemoveError.{RemoveError}
use Rattle.ix_library.specs.declared.fault.RemoveError.TheVariants as remove
use Rattle.ix_library.specs.Conditions.{has_put_each}
use Rattle.ix_library.specs.Endings.{with_event, put_ending, put_leaves, stage_ending, stage_leaves, name_of_unit, publish_name, publish_ending, publish_leaves, changed_over, IsPublishAnswer, remove_ending, remove_leaves, IsRemoveAnswer, collect_ending, collect_leaves}
use Rattle.ix_library.specs.LookEndings.{scan_ending, scan_leaves, load_ending, load_leaves}
use Rattle.ix_library.specs.StandsFor.{HasSlots, HasStaged}
use Rattle.ix_facts.specs.Given.{GuardLaws, LedgerLaws}
use Rattle.ix_facts.specs.Runs.{Called, Store, named_call, shown}
use Rattle.ix_facts.specs.There.{IsThere, IsThereBehind, AreThereBehind, call_leaves, calls_leave, calls_log, entry_leaves, installing, made_leaves, publishing_staged}
use Rattle.ix_facts.proofs.Entries.{lane_of_map}
use Rattle.ix_facts.proofs.Leases.{leased_same, staged_at}

-- ---- marks

at_most : (o : Option ℕ) (a b : ℕ) → a ≤ b → IfSome o (λ m. m ≤ a) → IfSome o (λ m. m ≤ b)
at_most None a b le is = tt
at_most (Some m) a b le is = omega (arith, le, is)

held_set : (P : ℕ → Type 0) (held : List (Option ℕ)) (lane : ℕ) (o : Option ℕ) → IfSome o P → ((l : ℕ) → IfSome (slice_index_or held l None) P) → (l : ℕ) → IfSome (slice_index_or (set held lane o) l None) P
held_set P [] lane o good all l = all l
held_set P (h ∷ held) zero o good all zero = good
held_set P (h ∷ held) zero o good all (suc l) = all (suc l)
held_set P (h ∷ held) (suc lane) o good all zero = all zero
held_set P (h ∷ held) (suc lane) o good all (suc l) = held_set P held lane o good (λ n. all (suc n)) l

longer : (ps : List Publication) (p : Publication) → length ps ≤ length (ps ++ p ∷ [])
longer ps p =
    let long = length-append ps (p ∷ []) in
    omega (arith, long)

pub leased_marks : (s : State) (lane : ℕ) (o : Option state.Lease) → MarksInOrder s → MarksInOrder (calls.with_lease s lane o)
leased_marks s lane o m = record { pending = m.pending; imported = m.imported; current = m.current; held = m.held }

opened_longer : (current a b : ℕ) → a ≤ b → (o : Option Import) → IfSome o (λ i. (current ≤ i.mark) × (i.mark ≤ a)) → IfSome o (λ i. (current ≤ i.mark) × (i.mark ≤ b))
opened_longer current a b le None is = tt
opened_longer current a b le (Some i) is =
    let within = is.1 in
    (is.0, omega (arith, within, le))

published_marks : (s : State) (p : Publication) (pending : Option ℕ) → IfSome pending (λ m. m ≤ length s.publications) → MarksInOrder s → MarksInOrder (calls.publishing s p pending)
published_marks s p pending pends m =
    let le = longer s.publications p in
    let current = m.current in
    record {
      pending = at_most pending (length s.publications) (length (s.publications ++ p ∷ [])) le pends;
      imported = opened_longer s.current (length s.publications) (length (s.publications ++ p ∷ [])) le s.import m.imported;
      current = omega (arith, le, current);
      held = m.held;
    }

unopened_marks : (s : State) → MarksInOrder s → MarksInOrder (calls.unopened s)
unopened_marks s m = record { pending = m.pending; imported = tt; current = m.current; held = m.held }

staged_marks : (name_of : List ℕ → List ℕ) (s : State) (lane : ℕ) (o : Option UnitValue) (pending : Option ℕ) → IfSome pending (λ m. m ≤ length s.publications) → MarksInOrder s → MarksInOrder (publishing_staged name_of s lane o pending)
staged_marks name_of s lane None pending pends m = m
staged_marks name_of s lane (Some unit) pending pends m = published_marks (calls.dropped s lane) (model.Put (name_of unit.output) (record { unit = unit; values = [] })) pending pends (leased_marks s lane None m)

installed_marks : (s : State) (lane : ℕ) (o : Option Import) → IfSome o (λ i. (s.current ≤ i.mark) × (i.mark ≤ length s.publications)) → MarksInOrder s → MarksInOrder (installing s lane o)
installed_marks s lane None is m = m
installed_marks s lane (Some i) is m = record {
  pending = m.pending;
  imported = tt;
  current = is.1;
  held = held_set (λ n. n ≤ i.mark) s.held lane (Some i.mark) (omega arith) (λ l. at_most (slice_index_or s.held l None) s.current i.mark is.0 (m.held l));
}

holding_marks : (s : State) (lane : ℕ) (o : Option ℕ) → IfSome o (λ n. n ≤ s.current) → MarksInOrder s → MarksInOrder (calls.holding s lane o)
holding_marks s lane o is m = record { pending = m.pending; imported = m.imported; current = m.current; held = held_set (λ n. n ≤ s.current) s.held lane o is m.held }

made_marks : (name_of : List ℕ → List ℕ) (s : State) (lane : ℕ) (what : Given) (pending : Option ℕ) → IfSome pending (λ m. m ≤ length s.publications) → MarksInOrder s → MarksInOrder (made_leaves name_of s lane what pending)
made_marks name_of s lane (given.Lease names) pending pends m = leased_marks s lane _ m
made_marks name_of s lane (given.Put body) pending pends m = leased_marks s lane _ m
made_marks name_of s lane (given.Stage unit) pending pends m = leased_marks s lane _ m
made_marks name_of s lane given.Publish pending pends m = staged_marks name_of s lane (staged_by s lane) pending pends m
made_marks name_of s lane (given.Remove output) pending pends m = published_marks s (model.Gone (name_of output)) pending pends m
made_marks name_of s lane given.Scan pending pends m = record { pending = m.pending; imported = (m.current, omega arith); current = m.current; held = m.held }
made_marks name_of s lane (given.Load name purpose) pending pends m = m
made_marks name_of s lane given.Install pending pends m = installed_marks s lane s.import m.imported m
made_marks name_of s lane given.Adopt pending pends m = holding_marks s lane (Some s.current) (omega arith) m
made_marks name_of s lane given.Release pending pends m = holding_marks s lane None tt m
made_marks name_of s lane given.Collect pending pends m = record { pending = tt; imported = m.imported; current = m.current; held = m.held }

refused_marks : (s : State) (lane : ℕ) (what : Given) → MarksInOrder s → MarksInOrder (after_refusal s lane what)
refused_marks s lane (given.Lease names) m = m
refused_marks s lane (given.Put body) m = leased_marks s lane None m
refused_marks s lane (given.Stage unit) m = leased_marks s lane None m
refused_marks s lane given.Publish m = leased_marks s lane None m
refused_marks s lane (given.Remove output) m = m
refused_marks s lane given.Scan m = unopened_marks s m
refused_marks s lane (given.Load name purposes.Import) m = unopened_marks s m
refused_marks s lane (given.Load name purposes.Ask) m = m
refused_marks s lane given.Install m = m
refused_marks s lane given.Adopt m = m
refused_marks s lane given.Release m = m
refused_marks s lane given.Collect m = m

pub entry_marks : (name_of : List ℕ → List ℕ) (s : State) (lane : ℕ) (what : Given) (how : Outcome) → MarksInOrder s → MarksInOrder (entry_leaves name_of s lane what how)
entry_marks name_of s lane what outcome.Done m = made_marks name_of s lane what None tt m
entry_marks name_of s lane what outcome.Written m = made_marks name_of s lane what None tt m
entry_marks name_of s lane what outcome.Shared m = made_marks name_of s lane what None tt m
entry_marks name_of s lane what outcome.Clash m = refused_marks s lane what m
entry_marks name_of s lane what outcome.Synced m = made_marks name_of s lane what None tt m
entry_marks name_of s lane what outcome.Unsynced m = made_marks name_of s lane what (Some (length s.publications)) (omega arith) m
entry_marks name_of s lane what outcome.NoUnit m = refused_marks s lane what m
entry_marks name_of s lane what (outcome.At mark) m = made_marks name_of s lane what None tt m
entry_marks name_of s lane what (outcome.Removed name) m = made_marks name_of s lane what None tt m
entry_marks name_of s lane what outcome.Nothing m = made_marks name_of s lane what None tt m
entry_marks name_of s lane what outcome.Fault m = refused_marks s lane what m
entry_marks name_of s lane what (outcome.Lost name) m = refused_marks s lane what m
entry_marks name_of s lane what (outcome.Damaged name) m = refused_marks s lane what m

call_marks : (name_of : List ℕ → List ℕ) (s : State) (lane : ℕ) (what : Given) (how : Option Outcome) → MarksInOrder s → MarksInOrder (call_leaves name_of s lane what how)
call_marks name_of s lane what None m = m
call_marks name_of s lane what (Some how) m = entry_marks name_of s lane what how m

pub calls_marks : (name_of : List ℕ → List ℕ) (s : State) (all : List Called) → MarksInOrder s → MarksInOrder (calls_leave name_of s all)
calls_marks name_of s [] m = m
calls_marks name_of s (called ∷ more) m = calls_marks name_of (call_leaves name_of s called.lane called.given called.ending) more (call_marks name_of s called.lane called.given called.ending m)

-- ---- runs

pub stay_there : (name_of : List ℕ → List ℕ) (all : List Called) (s : State) (first last : Store) → IsThere s first.kept first.dir → AreThereBehind name_of s first all last → IsThere (calls_leave name_of s all) last.kept last.dir
stay_there name_of [] s first last there run = subst (λ (l : Store). IsThere s l.kept l.dir) run there
stay_there name_of (called ∷ more) s first last there run = stay_there name_of more (call_leaves name_of s called.lane called.given called.ending) run.0 last (run.1.there there) run.2

pub one_more_there : (name_of : List ℕ → List ℕ) (all : List Called) (s : State) (first between last : Store) (called : Called) → AreThereBehind name_of s first all between
    → IsThereBehind name_of (calls_leave name_of s all) between called last → AreThereBehind name_of s first (all ++ called ∷ []) last
one_more_there name_of [] s first between last called run is = (last, subst (λ (f : Store). IsThereBehind name_of s f called last) (sym run) is, refl)
one_more_there name_of (c ∷ all) s first between last called run is = (run.0, run.1, one_more_there name_of all (call_leaves name_of s c.lane c.given c.ending) run.0 between last called run.2 is)

-- ---- what happened

event_last : (events : List Event) (lane : ℕ) (call : Call) (how : Option Outcome) → with_event events lane call how ≡ events ++ with_event [] lane call how
event_last events lane call None = sym (append-nil events)
event_last events lane call (Some how) = refl

named_alike : (name_of : List ℕ → List ℕ) (s : State) (kept : Kept) → kept ≡ kept_of s → (lane : ℕ) (what : Given) → shown name_of kept lane what ≡ named_call name_of s lane what
named_alike name_of s kept at lane (given.Lease names) = refl
named_alike name_of s kept at lane (given.Put body) = refl
named_alike name_of s kept at lane (given.Stage unit) = refl
named_alike name_of s kept at lane given.Publish = ap (λ (o : Option UnitValue). call.Publish (name_of_unit name_of o)) (ap (λ (k : Kept). staged_in k lane) at ∙ staged_at s.leases lane)
named_alike name_of s kept at lane (given.Remove output) = refl
named_alike name_of s kept at lane given.Scan = refl
named_alike name_of s kept at lane (given.Load name purpose) = refl
named_alike name_of s kept at lane given.Install = refl
named_alike name_of s kept at lane given.Adopt = refl
named_alike name_of s kept at lane given.Release = refl
named_alike name_of s kept at lane given.Collect = refl

pub log_grows : (name_of : List ℕ → List ℕ) (all : List Called) (s : State) (first last : Store) → IsThere s first.kept first.dir → AreThereBehind name_of s first all last → last.events ≡ first.events ++ calls_log name_of s all
log_grows name_of [] s first last there run = sym (ap (λ (l : Store). l.events) run) ∙ sym (append-nil first.events)
log_grows name_of (c ∷ all) s first last there run =
    let own : List Event = with_event [] c.lane (named_call name_of s c.lane c.given) c.ending in
    let next : State = call_leaves name_of s c.lane c.given c.ending in
    log_grows name_of all next run.0 last (run.1.there there) run.2
    ∙ ap (λ (es : List Event). es ++ calls_log name_of next all)
    (run.1.logged ∙ event_last first.events c.lane (shown name_of first.kept c.lane c.given) c.ending
    ∙ ap (λ (k : Call). first.events ++ with_event [] c.lane k c.ending) (named_alike name_of s first.kept there.keeps c.lane c.given))
    ∙ append_assoc first.events own (calls_log name_of next all)

-- ---- what is kept behind each call

module _ (laws : LedgerLaws) (name_of : List ℕ → List ℕ) (s : State) (lane : ℕ) (now : Kept) where
  pub after_lease : (names : List (List ℕ)) (kept : Kept) → kept ≡ kept_of s → now ≡ effect.leased kept lane names → now ≡ kept_of (entry_leaves name_of s lane (given.Lease names) outcome.Done)
  after_lease names kept at is = is ∙ ap (λ (k : Kept). effect.leased k lane names) at ∙ sym (laws.leases s lane names)

  drops : (kept : Kept) → kept ≡ kept_of s → now ≡ effect.dropped kept lane → now ≡ kept_of (calls.dropped s lane)
  drops kept at is = is ∙ ap (λ (k : Kept). effect.dropped k lane) at ∙ sym (laws.drops s lane)

  closes : (kept : Kept) → kept ≡ kept_of s → now ≡ effect.closed kept → now ≡ kept_of (calls.unopened s)
  closes kept at is = is ∙ ap (λ (k : Kept). effect.closed k) at ∙ sym (laws.closes s)

  leased_in : GuardLaws → (name : List ℕ) (o : Option state.Lease) → option_any (leases_name name) (option_map lease_for o) ≡ option_any (λ (l : state.Lease). has_name name l.names) o
  leased_in guards name None = refl
  leased_in guards name (Some l) = leased_same guards l name

  notes : GuardLaws → (name : List ℕ) (kept : Kept) → kept ≡ kept_of s → option_any (leases_name name) (guard.lease_of kept.guard lane) ≡ true → now ≡ effect.noted kept lane name → now ≡ kept_of (calls.noted s lane name)
  notes guards name kept at leased is =
      let leases : option_any (λ (l : state.Lease). has_name name l.names) (lease_of s lane) ≡ true =
      sym (leased_in guards name (lease_of s lane))
      ∙ sym (ap (option_any (leases_name name)) (ap (λ (k : Kept). guard.lease_of k.guard lane) at ∙ lane_of_map lease_for s.leases lane))
      ∙ leased in
      is ∙ ap (λ (k : Kept). effect.noted k lane name) at ∙ sym (laws.notes s lane name leases)

  pub after_put : GuardLaws → (body : Body) (result : Result Put PutError) (kept : Kept) → kept ≡ kept_of s → option_any (leases_name body.name) (guard.lease_of kept.guard lane) ≡ true → now ≡ put_leaves result kept lane body.name → now ≡ kept_of (call_leaves name_of s lane (given.Put body) (put_ending result))
  after_put guards body (Ok puts.Written) kept at leased is = notes guards body.name kept at leased is
  after_put guards body (Ok puts.Shared) kept at leased is = notes guards body.name kept at leased is
  after_put guards body (Err put.Fault) kept at leased is = drops kept at is
  after_put guards body (Err (put.Clash other)) kept at leased is = drops kept at is
  after_put guards body (Err put.Memory) kept at leased is = is ∙ at

  has_lease : (deps : List RecordDep) (o : Option state.Lease) → lease_of s lane ≡ o → has_put_each deps (option_map lease_for o) ≡ true → (l : state.Lease) × (lease_of s lane ≡ Some l)
  has_lease deps None was is = absurd (cc)
  has_lease deps (Some l) was is = (l, was)

  pub after_stage : {U : Type 0} (unit : UnitValue) (result : Result U StageError) (kept : Kept) → kept ≡ kept_of s → has_put_each unit.records (guard.lease_of kept.guard lane) ≡ true → now ≡ stage_leaves result kept lane unit → now ≡ kept_of (call_leaves name_of s lane (given.Stage unit) (stage_ending result))
  after_stage unit (Ok made) kept at put is =
      let lease = has_lease unit.records (lease_of s lane) refl (sym (ap (has_put_each unit.records) (ap (λ (k : Kept). guard.lease_of k.guard lane) at ∙ lane_of_map lease_for s.leases lane)) ∙ put) in
      is ∙ ap (λ (k : Kept). effect.staging k lane unit) at ∙ sym (laws.stages s lane unit lease.0 lease.1)
  after_stage unit (Err stage.Fault) kept at put is = drops kept at is
  after_stage unit (Err stage.Memory) kept at put is = is ∙ at

  -- ---- changes of the units

  over_cases : (name : List ℕ) (unit : UnitValue) (o : Option UnitValue) → (publish_over (kept_of s) name unit o ≡ None) ⊎ (publish_over (kept_of s) name unit o ≡ Some (with_unit (kept_of s) name unit))
  over_cases name unit None = inr refl
  over_cases name unit (Some other) =
      elim (bytes_eq other.output unit.output) as (λ b. ((if b then Some (with_unit (kept_of s) name unit) else None) ≡ None) ⊎ ((if b then Some (with_unit (kept_of s) name unit) else None) ≡ Some (with_unit (kept_of s) name unit))) [
        | true ↦ inr refl
        | false ↦ inl refl
      ]

  publishes : MarksInOrder s → (unit : UnitValue) → staged_by s lane ≡ Some unit → (c : Option Changed) → c ≡ Some (with_unit (kept_of s) (name_of unit.output) unit) → (settled : Settled)
      → now ≡ publish_leaves (Ok settled) (kept_of s) lane c → now ≡ kept_of (call_leaves name_of s lane given.Publish (publish_ending (Ok settled)))
  publishes marks unit staged c made settles.Synced is =
      let p : Publication = model.Put (name_of unit.output) (record { unit = unit; values = [] }) in
      is
      ∙ ap (λ (d : Option Changed). changed_over (effect.dropped (kept_of s) lane) d false) made
      ∙ ap (λ (k : Kept). effect.changed k (effect.change_for k p) false) (sym (laws.drops s lane))
      ∙ sym (laws.changes (calls.dropped s lane) p (leased_marks s lane None marks))
      ∙ ap (λ (o : Option UnitValue). kept_of (publishing_staged name_of s lane o None)) (sym staged)
  publishes marks unit staged c made settles.Unsynced is =
      let p : Publication = model.Put (name_of unit.output) (record { unit = unit; values = [] }) in
      is
      ∙ ap (λ (d : Option Changed). changed_over (effect.dropped (kept_of s) lane) d true) made
      ∙ ap (λ (k : Kept). effect.changed k (effect.change_for k p) true) (sym (laws.drops s lane))
      ∙ sym (laws.pends (calls.dropped s lane) p (leased_marks s lane None marks))
      ∙ ap (λ (o : Option UnitValue). kept_of (publishing_staged name_of s lane o (Some (length s.publications)))) (sym staged)

  by_change : MarksInOrder s → (unit : UnitValue) → staged_by s lane ≡ Some unit → (name : List ℕ) (c : Option Changed) → (c ≡ None) ⊎ (c ≡ Some (with_unit (kept_of s) (name_of unit.output) unit)) → (result : Result Settled PublishError)
      → IsPublishAnswer result name c → now ≡ publish_leaves result (kept_of s) lane c → now ≡ kept_of (call_leaves name_of s lane given.Publish (publish_ending result))
  by_change marks unit staged name c (inl none) (Ok settled) answer is =
      let some : IsSome {T = Changed} None = subst IsSome none answer in
      absurd (cc)
  by_change marks unit staged name c (inr made) (Ok settled) answer is = publishes marks unit staged c made settled is
  by_change marks unit staged name c cases (Err publish.Fault) answer is = drops (kept_of s) refl is
  by_change marks unit staged name c cases (Err (publish.Clash other)) answer is = drops (kept_of s) refl is
  by_change marks unit staged name c cases (Err publish.Memory) answer is = is

  abbrev change_from : Option UnitValue → Option Changed
  change_from o = option_and_then (λ (unit : UnitValue). publish_over (kept_of s) (name_of_unit name_of o) unit (unit_at (name_of_unit name_of o) (kept_of s).units)) o

  by_staged : MarksInOrder s → (o : Option UnitValue) → staged_by s lane ≡ o → IsSome o → (result : Result Settled PublishError)
      → IsPublishAnswer result (name_of_unit name_of o) (change_from o) → now ≡ publish_leaves result (kept_of s) lane (change_from o) → now ≡ kept_of (call_leaves name_of s lane given.Publish (publish_ending result))
  by_staged marks None staged some result answer is = absurd (cc)
  by_staged marks (Some unit) staged some result answer is =
      by_change marks unit staged (name_of unit.output) (change_from (Some unit)) (over_cases (name_of unit.output) unit (unit_at (name_of unit.output) (kept_of s).units)) result answer is

  abbrev Published : Result Settled PublishError → Kept → Type 0
  Published result k =
      IsSome (staged_in k lane) → IsPublishAnswer result (publish_name name_of k lane) (publish_change k lane (publish_name name_of k lane))
      → now ≡ publish_leaves result k lane (publish_change k lane (publish_name name_of k lane)) → now ≡ kept_of (call_leaves name_of s lane given.Publish (publish_ending result))

  pub after_publish : MarksInOrder s → (result : Result Settled PublishError) (kept : Kept) → kept ≡ kept_of s → Published result kept
  after_publish marks result kept at =
      subst (Published result) (sym at) (λ some answer is. by_staged marks (staged_in (kept_of s) lane) (sym (staged_at s.leases lane)) some result answer is)

  gone_cases : (name output : List ℕ) (o : Option UnitValue) → (remove_over (kept_of s) name output o ≡ None) ⊎ (remove_over (kept_of s) name output o ≡ Some (without_unit (kept_of s) name))
  gone_cases name output None = inl refl
  gone_cases name output (Some other) =
      elim (bytes_eq other.output output) as (λ b. ((if b then Some (without_unit (kept_of s) name) else None) ≡ None) ⊎ ((if b then Some (without_unit (kept_of s) name) else None) ≡ Some (without_unit (kept_of s) name))) [
        | true ↦ inr refl
        | false ↦ inl refl
      ]

  by_gone : MarksInOrder s → (output name : List ℕ) (c : Option Changed) → (c ≡ None) ⊎ (c ≡ Some (without_unit (kept_of s) (name_of output))) → (result : Result Settled RemoveError)
      → IsRemoveAnswer result name c → now ≡ remove_leaves result (kept_of s) c → now ≡ kept_of (call_leaves name_of s lane (given.Remove output) (remove_ending result))
  by_gone marks output name c (inl none) (Ok settled) answer is =
      let some : IsSome {T = Changed} None = subst IsSome none answer in
      absurd (cc)
  by_gone marks output name c (inr made) (Ok settles.Synced) answer is =
      is ∙ ap (λ (d : Option Changed). changed_over (kept_of s) d false) made ∙ sym (laws.changes s (model.Gone (name_of output)) marks)
  by_gone marks output name c (inr made) (Ok settles.Unsynced) answer is =
      is ∙ ap (λ (d : Option Changed). changed_over (kept_of s) d true) made ∙ sym (laws.pends s (model.Gone (name_of output)) marks)
  by_gone marks output name c cases (Err remove.Fault) answer is = is
  by_gone marks output name c cases (Err (remove.NoUnit other)) answer is = is
  by_gone marks output name c cases (Err remove.Memory) answer is = is

  abbrev Removes : List ℕ → Result Settled RemoveError → Kept → Type 0
  Removes output result k =
      IsRemoveAnswer result (name_of output) (remove_change k (name_of output) output)
      → now ≡ remove_leaves result k (remove_change k (name_of output) output) → now ≡ kept_of (call_leaves name_of s lane (given.Remove output) (remove_ending result))

  pub after_remove : MarksInOrder s → (output : List ℕ) (result : Result Settled RemoveError) (kept : Kept) → kept ≡ kept_of s → Removes output result kept
  after_remove marks output result kept at =
      subst (Removes output result) (sym at)
      (λ answer is. by_gone marks output (name_of output) (remove_change (kept_of s) (name_of output) output) (gone_cases (name_of output) output (unit_at (name_of output) (kept_of s).units)) result answer is)

  -- ---- versions and records

  pub after_scan : (result : Result Scan ScanError) (kept : Kept) → kept ≡ kept_of s → now ≡ scan_leaves result kept lane → now ≡ kept_of (call_leaves name_of s lane given.Scan (scan_ending result))
  after_scan (Ok made) kept at is = is ∙ ap (λ (k : Kept). effect.opened k lane) at ∙ sym (laws.scans s lane)
  after_scan (Err scan.Fault) kept at is = closes kept at is
  after_scan (Err (scan.Lost name)) kept at is = closes kept at is
  after_scan (Err (scan.Damaged name)) kept at is = closes kept at is
  after_scan (Err scan.Memory) kept at is = is ∙ at

  pub after_load : {X : Type 0} (name : List ℕ) (purpose : Purpose) (result : Result X LoadError) (kept : Kept) → kept ≡ kept_of s → now ≡ load_leaves purpose result kept → now ≡ kept_of (call_leaves name_of s lane (given.Load name purpose) (load_ending result))
  after_load name purpose (Ok value) kept at is = is ∙ at
  after_load name purposes.Import (Err load.Fault) kept at is = closes kept at is
  after_load name purposes.Import (Err (load.Lost other)) kept at is = closes kept at is
  after_load name purposes.Import (Err (load.Damaged other)) kept at is = closes kept at is
  after_load name purposes.Ask (Err load.Fault) kept at is = is ∙ at
  after_load name purposes.Ask (Err (load.Lost other)) kept at is = is ∙ at
  after_load name purposes.Ask (Err (load.Damaged other)) kept at is = is ∙ at
  after_load name purpose (Err load.Memory) kept at is = is ∙ at

  by_import : (o : Option Import) → s.import ≡ o → effect.installed (kept_of s) lane ≡ kept_of (installing s lane s.import)
  by_import None none =
      ap (λ (o : Option Import). effect.installed (kept_of (record s { import = o })) lane) none
      ∙ ap (λ (o : Option Import). kept_of (record s { import = o })) (sym none)
      ∙ ap (λ (o : Option Import). kept_of (installing s lane o)) (sym none)
  by_import (Some i) is = sym (laws.installs s lane i is) ∙ ap (λ (o : Option Import). kept_of (installing s lane o)) (sym is)

  pub after_install : (mark : ℕ) (kept : Kept) → kept ≡ kept_of s → now ≡ effect.installed kept lane → now ≡ kept_of (entry_leaves name_of s lane given.Install (outcome.At mark))
  after_install mark kept at is = is ∙ ap (λ (k : Kept). effect.installed k lane) at ∙ by_import s.import refl

  pub after_adopt : (mark : ℕ) (kept : Kept) → kept ≡ kept_of s → now ≡ effect.adopted kept lane → now ≡ kept_of (entry_leaves name_of s lane given.Adopt (outcome.At mark))
  after_adopt mark kept at is = is ∙ ap (λ (k : Kept). effect.adopted k lane) at ∙ sym (laws.adopts s lane)

  pub after_release : (kept : Kept) → kept ≡ kept_of s → now ≡ effect.released kept lane → now ≡ kept_of (entry_leaves name_of s lane given.Release outcome.Done)
  after_release kept at is = is ∙ ap (λ (k : Kept). effect.released k lane) at ∙ sym (laws.releases s lane)

  settles_all : (kept : Kept) → kept ≡ kept_of s → now ≡ effect.settled kept → now ≡ kept_of (needs.settled s)
  settles_all kept at is = is ∙ ap (λ (k : Kept). effect.settled k) at ∙ sym (laws.settles s)

  pub after_collect : (result : Result Collected CollectError) (kept : Kept) → kept ≡ kept_of s → now ≡ collect_leaves result kept → now ≡ kept_of (call_leaves name_of s lane given.Collect (collect_ending result))
  after_collect (Ok collects.Nothing) kept at is = settles_all kept at is
  after_collect (Ok (collects.Removed name)) kept at is = settles_all kept at is
  after_collect (Err collect.Fault) kept at is = is ∙ at
  after_collect (Err collect.Memory) kept at is = is ∙ at

-- ---- slots

by_slot : (kept : Kept) (dir : DirState) → HasStaged kept dir → (lane : ℕ) (o : Option UnitValue) → staged_in kept lane ≡ o → IsSome o → is_staged dir lane ≡ true
by_slot kept dir staged lane None is some = absurd (cc)
by_slot kept dir staged lane (Some unit) is some = (staged lane unit is).0

pub slots_there : (kept : Kept) (dir : DirState) → HasStaged kept dir → HasSlots kept dir
slots_there kept dir staged lane some = by_slot kept dir staged lane (staged_in kept lane) refl some
