-- What is kept beside the machine follows each of its steps.
use Rattle.std.proofs.Common.{◌≡◌, ◌⊎◌, inl, inr, ℕ, zero, suc, ◌==◌, if◌then◌else◌, Bool, true, false, List, [], ◌∷◌, length, Option, Some, None, IfSome, option_map, option_and_then, slice_index_or, slice_set, refl, sym, ap, ◌∙◌, subst}
use Rattle.std.specs.Str.{bytes_eq}
use Rattle.std.specs.Map.{lookup}
use Rattle.std.specs.BTreeMap.{is_at, insert_entry}
use Rattle.std.proofs.lemmas.List.{length-set}
use Rattle.ix_types.specs.Row.{text_cmp}
use Rattle.ix_record.specs.declared.body.Body.{Body}
use Rattle.ix_unit.specs.declared.value.UnitValue.{UnitValue}
use Rattle.ix_model.specs.declared.publication.Publication.TheVariants as model
use Rattle.ix_model.specs.declared.publication.StoredUnit.{StoredUnit}
use Rattle.ix_model.specs.Units.{unit_named}
use Rattle.ix_machine.specs.declared.event.Outcome.{Outcome}
use Rattle.ix_machine.specs.declared.event.Outcome.TheVariants.{Done, Written, Shared, Clash, Synced, Unsynced, NoUnit, At, Removed, Nothing, Fault, Lost, Damaged}
use Rattle.ix_machine.specs.declared.event.Purpose.{Purpose}
use Rattle.ix_machine.specs.declared.event.Purpose.TheVariants.{Import, Ask}
use Rattle.ix_machine.specs.Given.{Given}
use Rattle.ix_machine.specs.Given as given
use Rattle.ix_machine.specs.Needs.{loose, is_guarded, visible}
use Rattle.ix_machine.specs.State as state
use Rattle.ix_machine.specs.State.{State, Lease, lease_of, with_put, with_staged}
use Rattle.ix_machine.specs.Step.{Row, Stepped, ended, flagged, row, step, staged_by, with_lease, dropped, publishing, publish_over, publish_unit, change, sure, may_fault, noted, write, put_over, stored_unit, remove_named, name_with_output, install_import, install_mark, collect_first, holding, load, load_failed, scan}
use Rattle.ix_model_run.specs.Kept.{Kept, Follows, kept_after}
use Rattle.ix_model_run.specs.Kept as kept

-- ---- however a call ends

record Ends (Q : Outcome → State → Type 0) (r : Row) : Type 0 where
  plain : Q r.plain.outcome r.plain.state
  fault : IfSome r.faulted (Q Fault)
  lost : (name : List ℕ) → IfSome r.faulted (Q (Lost name))
  damaged : (name : List ℕ) → IfSome r.faulted (Q (Damaged name))
  unsynced : IfSome r.unsynced (Q Unsynced)

module _ (Q : Outcome → State → Type 0) where
  behind : (outcome : Outcome) (o : Option State) → IfSome o (Q outcome) → IfSome (option_map (ended outcome) o) (λ stepped. Q stepped.outcome stepped.state)
  behind outcome None q = tt
  behind outcome (Some t) q = q

  missed : (b : Bool) (outcome : Outcome) (o : Option State) → IfSome o (Q outcome) → IfSome (if b then option_map (ended outcome) o else None) (λ stepped. Q stepped.outcome stepped.state)
  missed true outcome o q = behind outcome o q
  missed false outcome o q = tt

  flagged_ends : (r : Row) → Ends Q r → (flag : Outcome) → IfSome (flagged r flag) (λ stepped. Q stepped.outcome stepped.state)
  flagged_ends r e Done = e.plain
  flagged_ends r e Written = tt
  flagged_ends r e Shared = tt
  flagged_ends r e Clash = tt
  flagged_ends r e Synced = tt
  flagged_ends r e Unsynced = behind Unsynced r.unsynced e.unsynced
  flagged_ends r e NoUnit = tt
  flagged_ends r e (At mark) = tt
  flagged_ends r e (Removed name) = tt
  flagged_ends r e Nothing = tt
  flagged_ends r e Fault = behind Fault r.faulted e.fault
  flagged_ends r e (Lost name) = missed (r.misses name) (Lost name) r.faulted (e.lost name)
  flagged_ends r e (Damaged name) = missed (r.misses name) (Damaged name) r.faulted (e.damaged name)

  row_ends : (o : Option Row) (flag : Outcome) → IfSome o (Ends Q) → IfSome (option_and_then (λ r. flagged r flag) o) (λ stepped. Q stepped.outcome stepped.state)
  row_ends None flag e = tt
  row_ends (Some r) flag e = flagged_ends r e flag

  sure_ends : (outcome : Outcome) (t : State) → Q outcome t → Ends Q (sure outcome t)
  sure_ends outcome t q = record { plain = q; fault = tt; lost = λ name. tt; damaged = λ name. tt; unsynced = tt }

  faults : (outcome : Outcome) (t f : State) → Q outcome t → Q Fault f → ((name : List ℕ) → Q (Lost name) f) → ((name : List ℕ) → Q (Damaged name) f) → Ends Q (may_fault outcome t f)
  faults outcome t f q fault lost damaged = record { plain = q; fault = fault; lost = lost; damaged = damaged; unsynced = tt }

  either : (b : Bool) (r t : Row) → Ends Q r → Ends Q t → Ends Q (if b then r else t)
  either true r t e f = e
  either false r t e f = f

  where_so : (b : Bool) (r : Row) → Ends Q r → IfSome (if b then Some r else None) (Ends Q)
  where_so true r e = e
  where_so false r e = tt

-- ---- what lanes have staged

abbrev staged_of : Option Lease → Option UnitValue
staged_of lease = option_and_then (λ l. l.staged) lease

-- what a lease has staged is what the lane staged last
abbrev AreStaged : List (Option Lease) → List (Option UnitValue) → Type 0
AreStaged leases staged = (lane : ℕ) (unit : UnitValue) → staged_of (slice_index_or leases lane None) ≡ Some unit → slice_index_or staged lane None ≡ Some unit

-- what stands at a place behind a change at another, or the same
set_at : {X : Type 0} (xs : List (Option X)) (i : ℕ) (v : Option X) (j : ℕ)
    → (slice_index_or (slice_set xs i v) j None ≡ slice_index_or xs j None) ⊎ ((j ≡ i) × (slice_index_or (slice_set xs i v) j None ≡ v))
set_at [] i v j = inl refl
set_at (x ∷ xs) zero v zero = inr (refl, refl)
set_at (x ∷ xs) zero v (suc j) = inl refl
set_at (x ∷ xs) (suc i) v zero = inl refl
set_at {X} (x ∷ xs) (suc i) v (suc j) =
    elim (set_at xs i v j) as (λ o. (slice_index_or (slice_set xs i v) j None ≡ slice_index_or xs j None) ⊎ ((suc j ≡ suc i) × (slice_index_or (slice_set xs i v) j None ≡ v))) [
      | inl same ↦ inl same
      | inr put ↦ inr (ap (λ (n : ℕ). suc n) put.0, put.1)
    ]

-- the same of two lists of one length, changed at one place
set_both : {X Y : Type 0} (xs : List (Option X)) (ys : List (Option Y)) → length ys ≡ length xs → (i : ℕ) (v : Option X) (w : Option Y) (j : ℕ)
    → ((slice_index_or (slice_set xs i v) j None ≡ slice_index_or xs j None) × (slice_index_or (slice_set ys i w) j None ≡ slice_index_or ys j None))
    ⊎ ((slice_index_or (slice_set xs i v) j None ≡ v) × (slice_index_or (slice_set ys i w) j None ≡ w))
set_both [] [] e i v w j = inl (refl, refl)
set_both [] (y ∷ ys) e i v w j = absurd (cc)
set_both (x ∷ xs) [] e i v w j = absurd (cc)
set_both (x ∷ xs) (y ∷ ys) e zero v w zero = inr (refl, refl)
set_both (x ∷ xs) (y ∷ ys) e zero v w (suc j) = inl (refl, refl)
set_both (x ∷ xs) (y ∷ ys) e (suc i) v w zero = inl (refl, refl)
set_both (x ∷ xs) (y ∷ ys) e (suc i) v w (suc j) = set_both xs ys (cc) i v w j

set_keeps : (leases : List (Option Lease)) (staged : List (Option UnitValue)) → AreStaged leases staged → (lane : ℕ) (v : Option Lease)
    → ((unit : UnitValue) → staged_of v ≡ Some unit → slice_index_or staged lane None ≡ Some unit) → AreStaged (slice_set leases lane v) staged
set_keeps leases staged are lane v own = λ other unit e.
    elim (set_at leases lane v other) as (λ o. slice_index_or staged other None ≡ Some unit) [
      | inl same ↦ are other unit (sym (ap (λ (l : Option Lease). staged_of l) same) ∙ e)
      | inr put ↦ subst (λ (l : ℕ). slice_index_or staged l None ≡ Some unit) (sym put.0) (own unit (sym (ap (λ (l : Option Lease). staged_of l) put.1) ∙ e))
    ]

set_follows : (leases : List (Option Lease)) (staged : List (Option UnitValue)) → length staged ≡ length leases → AreStaged leases staged → (lane : ℕ) (v : Option Lease) (last : UnitValue)
    → ((unit : UnitValue) → staged_of v ≡ Some unit → last ≡ unit) → AreStaged (slice_set leases lane v) (slice_set staged lane (Some last))
set_follows leases staged room are lane v last own = λ other unit e.
    elim (set_both leases staged room lane v (Some last) other) as (λ o. slice_index_or (slice_set staged lane (Some last)) other None ≡ Some unit) [
      | inl same ↦ same.1 ∙ are other unit (sym (ap (λ (l : Option Lease). staged_of l) same.0) ∙ e)
      | inr put ↦ put.1 ∙ ap (λ (u : UnitValue). Some u) (own unit (sym (ap (λ (l : Option Lease). staged_of l) put.0) ∙ e))
    ]

put_staged : (name : List ℕ) (l : Option Lease) → staged_of (option_map (with_put name) l) ≡ staged_of l
put_staged name None = refl
put_staged name (Some l) = refl

just_staged : (last unit : UnitValue) (l : Option Lease) → staged_of (option_map (with_staged last) l) ≡ Some unit → last ≡ unit
just_staged last unit None e = absurd (cc)
just_staged last unit (Some l) e = cc

-- ---- the calls

-- what is kept of the state
abbrev of_state : State → List (Option UnitValue) → Kept
of_state s staged = record { publications = s.publications; records = s.records; current = s.current; staged = staged }

with_lease_follows : (s : State) (staged : List (Option UnitValue)) → length staged ≡ length s.leases → AreStaged s.leases staged → (lane : ℕ) (v : Option Lease)
    → ((unit : UnitValue) → staged_of v ≡ Some unit → slice_index_or staged lane None ≡ Some unit) → Follows (of_state s staged) (with_lease s lane v)
with_lease_follows s staged room are lane v own = record {
  publications = refl;
  records = refl;
  current = refl;
  room = room ∙ sym (length-set s.leases lane v);
  staged = set_keeps s.leases staged are lane v own;
}

module _ (name_of : List ℕ → List ℕ) (s : State) (staged : List (Option UnitValue)) (room : length staged ≡ length s.leases) (are : AreStaged s.leases staged) (lane : ℕ) where
  -- what is kept follows the call
  abbrev Goes : Given → Outcome → State → Type 0
  Goes g outcome t = Follows (kept_after name_of lane g outcome (of_state s staged)) t

  stays : Follows (of_state s staged) s
  stays = record { publications = refl; records = refl; current = refl; room = room; staged = are }

  drops : Follows (of_state s staged) (dropped s lane)
  drops = with_lease_follows s staged room are lane None (λ unit e. absurd (cc))

  puts : (name : List ℕ) (unit : UnitValue) → staged_of (option_map (with_put name) (lease_of s lane)) ≡ Some unit → slice_index_or staged lane None ≡ Some unit
  puts name unit e = are lane unit (sym (put_staged name (lease_of s lane)) ∙ e)

  notes : (name : List ℕ) → Follows (of_state s staged) (noted s lane name)
  notes name = with_lease_follows s staged room are lane (option_map (with_put name) (lease_of s lane)) (puts name)

  writes : (body : Body) → Ends (Goes (given.Put body)) (write s lane body)
  writes body =
      faults (Goes (given.Put body)) Written (noted (record s { records = insert_entry text_cmp s.records body.name body.bytes }) lane body.name) (dropped s lane)
      (with_lease_follows (record s { records = insert_entry text_cmp s.records body.name body.bytes }) staged room are lane (option_map (with_put body.name) (lease_of s lane)) (puts body.name))
      drops (λ name. drops) (λ name. drops)

  puts_over : (body : Body) (o : Option (List ℕ)) → Ends (Goes (given.Put body)) (put_over s lane body o)
  puts_over body None = writes body
  puts_over body (Some bytes) =
      let Q = Goes (given.Put body) in
      either Q (bytes_eq bytes body.bytes) (may_fault Shared (noted s lane body.name) (dropped s lane))
      (if is_guarded s lane body.name then may_fault Clash (dropped s lane) (dropped s lane) else write s lane body)
      (faults Q Shared (noted s lane body.name) (dropped s lane) (notes body.name) drops (λ name. drops) (λ name. drops))
      (either Q (is_guarded s lane body.name) (may_fault Clash (dropped s lane) (dropped s lane)) (write s lane body)
      (faults Q Clash (dropped s lane) (dropped s lane) drops drops (λ name. drops) (λ name. drops))
      (writes body))

  stages : (unit : UnitValue) → Follows (kept.with_unit lane unit (of_state s staged)) (with_lease s lane (option_map (with_staged unit) (lease_of s lane)))
  stages unit = record {
    publications = refl;
    records = refl;
    current = refl;
    room = length-set staged lane (Some unit) ∙ (room ∙ sym (length-set s.leases lane (option_map (with_staged unit) (lease_of s lane))));
    staged = set_follows s.leases staged room are lane (option_map (with_staged unit) (lease_of s lane)) unit (λ other e. just_staged unit other (lease_of s lane) e);
  }

  publishes : (unit : UnitValue) → slice_index_or staged lane None ≡ Some unit → (pending : Option ℕ)
      → Follows (kept.publishing name_of (slice_index_or staged lane None) (of_state s staged)) (publishing (dropped s lane) (model.Put (name_of unit.output) (stored_unit s unit)) pending)
  publishes unit last pending =
      subst (λ (o : Option UnitValue). Follows (kept.publishing name_of o (of_state s staged)) (publishing (dropped s lane) (model.Put (name_of unit.output) (stored_unit s unit)) pending)) (sym last)
      (record { publications = refl; records = refl; current = refl; room = drops.room; staged = drops.staged })

  changes : (unit : UnitValue) → slice_index_or staged lane None ≡ Some unit
      → Ends (Goes given.Publish) (change (dropped s lane) (dropped s lane) (model.Put (name_of unit.output) (stored_unit s unit)))
  changes unit last = record {
    plain = publishes unit last None;
    fault = drops;
    lost = λ name. drops;
    damaged = λ name. drops;
    unsynced = publishes unit last (Some (length s.publications));
  }

  publishes_over : (unit : UnitValue) → slice_index_or staged lane None ≡ Some unit → (o : Option StoredUnit) → Ends (Goes given.Publish) (publish_over s lane (name_of unit.output) unit o)
  publishes_over unit last None = changes unit last
  publishes_over unit last (Some other) =
      let Q = Goes given.Publish in
      either Q (bytes_eq other.unit.output unit.output) (change (dropped s lane) (dropped s lane) (model.Put (name_of unit.output) (stored_unit s unit))) (sure Clash (dropped s lane))
      (changes unit last) (sure_ends Q Clash (dropped s lane) drops)

  publishes_staged : (o : Option UnitValue) → staged_by s lane ≡ o → IfSome (option_map (λ unit. publish_unit s lane (name_of unit.output) unit) o) (Ends (Goes given.Publish))
  publishes_staged None e = tt
  publishes_staged (Some unit) e = publishes_over unit (are lane unit e) (unit_named (name_of unit.output) (visible s))

  removes : (output : List ℕ) (o : Option (List ℕ)) → name_with_output output (visible s) ≡ o → Ends (Goes (given.Remove output)) (remove_named s o)
  removes output None e = sure_ends (Goes (given.Remove output)) NoUnit s stays
  removes output (Some name) e =
      let gone : (pending : Option ℕ) → Follows (kept.removing (name_with_output output (visible s)) (of_state s staged)) (publishing s (model.Gone name) pending) =
      λ pending. subst (λ (o : Option (List ℕ)). Follows (kept.removing o (of_state s staged)) (publishing s (model.Gone name) pending)) (sym e)
      (record { publications = refl; records = refl; current = refl; room = room; staged = are }) in
      record { plain = gone None; fault = stays; lost = λ name. stays; damaged = λ name. stays; unsynced = gone (Some (length s.publications)) }

  -- a state with the same publications, records, current mark and leases
  import_only : (i : Option state.Import) → Follows (of_state s staged) (record s { import = i })
  import_only i = record { publications = refl; records = refl; current = refl; room = room; staged = are }

  scans : Ends (Goes given.Scan) (scan s lane)
  scans = record {
    plain = import_only (Some (record { lane = lane; mark = length s.publications }));
    fault = import_only None;
    lost = λ name. import_only None;
    damaged = λ name. import_only None;
    unsynced = tt;
  }

  load_fails : (purpose : Purpose) → Follows (of_state s staged) (load_failed s purpose)
  load_fails Import = import_only None
  load_fails Ask = stays

  loads : (name : List ℕ) (purpose : Purpose) → Ends (Goes (given.Load name purpose)) (load s name purpose)
  loads name purpose = record { plain = stays; fault = load_fails purpose; lost = λ other. load_fails purpose; damaged = λ other. load_fails purpose; unsynced = tt }

  installs : (o : Option state.Import) → IfSome (install_import s lane o) (Ends (Goes given.Install))
  installs None = tt
  installs (Some opened) =
      let Q = Goes given.Install in
      where_so Q (opened.lane == lane) (install_mark s lane opened.mark)
      (sure_ends Q (At opened.mark) (holding (record s { import = None; current = opened.mark }) lane (Some opened.mark))
      (record { publications = refl; records = refl; current = refl; room = room; staged = are }))

  holds : (mark : Option ℕ) → Follows (of_state s staged) (holding s lane mark)
  holds mark = record { publications = refl; records = refl; current = refl; room = room; staged = are }

  collects : (names : List (List ℕ)) → Goes given.Collect (collect_first s names).outcome (collect_first s names).state
  collects [] = record { publications = refl; records = refl; current = refl; room = room; staged = are }
  collects (name ∷ names) = record { publications = refl; records = refl; current = refl; room = room; staged = are }

  rows : (g : Given) → IfSome (row name_of s lane g) (Ends (Goes g))
  rows (given.Lease names) =
      sure_ends (Goes (given.Lease names)) Done (with_lease s lane (Some (record { names = names; put = []; staged = None })))
      (with_lease_follows s staged room are lane (Some (record { names = names; put = []; staged = None })) (λ unit e. absurd (cc)))
  rows (given.Put body) = puts_over body (lookup (is_at (text_cmp body.name)) s.records)
  rows (given.Stage unit) =
      faults (Goes (given.Stage unit)) Done (with_lease s lane (option_map (with_staged unit) (lease_of s lane))) (dropped s lane) (stages unit) drops (λ name. drops) (λ name. drops)
  rows given.Publish = publishes_staged (staged_by s lane) refl
  rows (given.Remove output) = removes output (name_with_output output (visible s)) refl
  rows given.Scan = scans
  rows (given.Load name purpose) = loads name purpose
  rows given.Install = installs s.import
  rows given.Adopt = sure_ends (Goes given.Adopt) (At s.current) (holding s lane (Some s.current)) (holds (Some s.current))
  rows given.Release = sure_ends (Goes given.Release) Done (holding s lane None) (holds None)
  rows given.Collect = record { plain = collects (loose s); fault = stays; lost = λ name. stays; damaged = λ name. stays; unsynced = tt }

pub step_follows : (name_of : List ℕ → List ℕ) (k : Kept) (s : State) → Follows k s → (lane : ℕ) (g : Given) (flag : Outcome) (stepped : Stepped)
    → step name_of s lane g flag ≡ Some stepped → Follows (kept_after name_of lane g stepped.outcome k) stepped.state
step_follows name_of k s f lane g flag stepped e =
    let same : k ≡ of_state s k.staged = λ i. record { publications = f.publications i; records = f.records i; current = f.current i; staged = k.staged } in
    let Q = λ (outcome : Outcome) (t : State). Follows (kept_after name_of lane g outcome (of_state s k.staged)) t in
    let there = subst (λ (o : Option Stepped). IfSome o (λ stepped. Q stepped.outcome stepped.state)) e (row_ends Q (row name_of s lane g) flag (rows name_of s k.staged f.room f.staged lane g)) in
    subst (λ (k : Kept). Follows (kept_after name_of lane g stepped.outcome k) stepped.state) (sym same) there
