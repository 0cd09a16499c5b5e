-- What a lane's next call leaves of its lease and of the open import is what its progress says once it is told how the call ended.
use Rattle.std.proofs.Common.{◌≡◌, ℕ, zero, suc, ◌<◌, ◌==◌, if◌then◌else◌, Bool, true, false, List, [], ◌∷◌, ◌++◌, length, map, take, drop, Option, Some, None, IfSome, option_map, option_and_then, slice_get, slice_set, get_or, refl, sym, ap, ◌∙◌}
use Rattle.std.specs.Str.{bytes_eq}
use Rattle.std.specs.Map.{lookup}
use Rattle.std.specs.BTreeMap.{is_at}
use Rattle.std.proofs.lemmas.List.{get_or-set_same, length-set}
use Rattle.ix_types.specs.Row.{text_cmp}
use Rattle.ix_types.specs.declared.row.Query.{Query}
use Rattle.ix_record.specs.declared.body.Body.{Body}
use Rattle.ix_unit.specs.declared.value.UnitValue.{UnitValue}
use Rattle.ix_model.specs.declared.publication.Publication.TheVariants as model
use Rattle.ix_model.specs.declared.publication.StoredUnit.{StoredUnit}
use Rattle.ix_model.specs.Units.{Units, unit_named}
use Rattle.ix_answers.specs.Needs.{next_need}
use Rattle.ix_machine.specs.declared.event.Outcome.{Outcome}
use Rattle.ix_machine.specs.declared.event.Outcome.TheVariants.{Done, Written, Shared, Clash, Synced, Unsynced, NoUnit, At, Removed, Nothing, Fault, Lost, Damaged}
use Rattle.ix_machine.specs.declared.event.Purpose.TheVariants.{Import, Ask}
use Rattle.ix_machine.specs.Given.{Given}
use Rattle.ix_machine.specs.Given as given
use Rattle.ix_machine.specs.Needs.{loose, is_guarded, visible}
use Rattle.ix_machine.specs.State as state
use Rattle.ix_machine.specs.State.{State, lease_of, with_put, with_staged}
use Rattle.ix_machine.specs.Step.{Row, ended, flagged, step, staged_by, dropped, publish_over, publish_unit, change, sure, may_fault, noted, write, put_over, stored_unit, remove_named, name_with_output, install_import, install_mark, collect_first, stage, lease, scan, load, adopt, release, collect}
use Rattle.ix_jobs.specs.Made.{Made}
use Rattle.ix_lanes.specs.declared.doing.Doing.{Doing}
use Rattle.ix_lanes.specs.declared.doing.Doing.TheVariants.{Begun, Putting, Staged, Importing}
use Rattle.ix_lanes.specs.declared.answered.Answered.{Answered}
use Rattle.ix_lanes.specs.Tasks.{Task}
use Rattle.ix_lanes.specs.Tasks as task
use Rattle.ix_lanes.specs.Calls.{next_call, call_for, fresh_in, load_or_install, put_or_stage}
use Rattle.ix_lanes.specs.Progress.{Progress, told, goes_on, build_goes_on, ask_told, adopted}
use Rattle.ix_allowed.specs.Agree.{build_lease, lease_at, lease_in, import_at, import_in, IsUnderWay}

-- ---- before a task's first call

pub lease_begun : (tasks : List Task) → lease_at tasks Begun ≡ None
lease_begun [] = refl
lease_begun (task.Build job ∷ tasks) = refl
lease_begun (task.Remove output ∷ tasks) = refl
lease_begun (task.Poll ∷ tasks) = refl
lease_begun (task.Refresh ∷ tasks) = refl
lease_begun (task.Ask query ∷ tasks) = refl
lease_begun (task.Release ∷ tasks) = refl
lease_begun (task.Collect ∷ tasks) = refl

pub import_begun : (lane : ℕ) (tasks : List Task) → import_at lane tasks Begun ≡ None
import_begun lane [] = refl
import_begun lane (task.Build job ∷ tasks) = refl
import_begun lane (task.Remove output ∷ tasks) = refl
import_begun lane (task.Poll ∷ tasks) = refl
import_begun lane (task.Refresh ∷ tasks) = refl
import_begun lane (task.Ask query ∷ tasks) = refl
import_begun lane (task.Release ∷ tasks) = refl
import_begun lane (task.Collect ∷ tasks) = refl

-- ---- the files that are put

pub one_more_put : (bodies : List Body) (files : ℕ) (body : Body) → slice_get bodies files ≡ Some body
    → map (λ (b : Body). b.name) (take files bodies) ++ body.name ∷ [] ≡ map (λ (b : Body). b.name) (take (suc files) bodies)
one_more_put [] files body e = absurd (cc)
one_more_put (b ∷ bodies) zero body e = let same : b ≡ body = cc in ap (λ (x : Body). x.name ∷ []) (sym same)
one_more_put (b ∷ bodies) (suc files) body e = ap (λ (names : List (List ℕ)). b.name ∷ names) (one_more_put bodies files body e)

pub all_put : (bodies : List Body) (files : ℕ) → slice_get bodies files ≡ None → map (λ (b : Body). b.name) (take files bodies) ≡ map (λ (b : Body). b.name) bodies
all_put [] zero e = refl
all_put [] (suc files) e = refl
all_put (b ∷ bodies) zero e = absurd (cc)
all_put (b ∷ bodies) (suc files) e = ap (λ (names : List (List ℕ)). b.name ∷ names) (all_put bodies files e)

-- ---- however a call ends

pub record Ends (Q : Outcome → State → Type 0) (r : Row) : Type 0 where
  pub plain : Q r.plain.outcome r.plain.state
  pub fault : IfSome r.faulted (Q Fault)
  pub lost : (name : List ℕ) → IfSome r.faulted (Q (Lost name))
  pub damaged : (name : List ℕ) → IfSome r.faulted (Q (Damaged name))
  pub unsynced : IfSome r.unsynced (Q Unsynced)

module _ (Q : Outcome → State → Type 0) where
  behind : (outcome : Outcome) (o : Option State) → IfSome o (Q outcome) → IfSome (option_map (ended outcome) o) (λ stepped. Q stepped.outcome stepped.state)
  behind outcome None q = tt
  behind outcome (Some t) q = q

  missed : (b : Bool) (outcome : Outcome) (o : Option State) → IfSome o (Q outcome) → IfSome (if b then option_map (ended outcome) o else None) (λ stepped. Q stepped.outcome stepped.state)
  missed true outcome o q = behind outcome o q
  missed false outcome o q = tt

  flagged_ends : (r : Row) → Ends Q r → (flag : Outcome) → IfSome (flagged r flag) (λ stepped. Q stepped.outcome stepped.state)
  flagged_ends r e Done = e.plain
  flagged_ends r e Written = tt
  flagged_ends r e Shared = tt
  flagged_ends r e Clash = tt
  flagged_ends r e Synced = tt
  flagged_ends r e Unsynced = behind Unsynced r.unsynced e.unsynced
  flagged_ends r e NoUnit = tt
  flagged_ends r e (At mark) = tt
  flagged_ends r e (Removed name) = tt
  flagged_ends r e Nothing = tt
  flagged_ends r e Fault = behind Fault r.faulted e.fault
  flagged_ends r e (Lost name) = missed (r.misses name) (Lost name) r.faulted (e.lost name)
  flagged_ends r e (Damaged name) = missed (r.misses name) (Damaged name) r.faulted (e.damaged name)

  pub row_ends : (o : Option Row) (flag : Outcome) → IfSome o (Ends Q) → IfSome (option_and_then (λ r. flagged r flag) o) (λ stepped. Q stepped.outcome stepped.state)
  row_ends None flag e = tt
  row_ends (Some r) flag e = flagged_ends r e flag

-- a call that can't fail
sure_ends : (Q : Outcome → State → Type 0) (outcome : Outcome) (t : State) → Q outcome t → Ends Q (sure outcome t)
sure_ends Q outcome t q = record { plain = q; fault = tt; lost = λ name. tt; damaged = λ name. tt; unsynced = tt }

-- ---- the lane's own call

-- no poll is under way
abbrev pub IsNoPoll : List Task → Type 0
IsNoPoll [] = Unit {0}
IsNoPoll (task.Build job ∷ tasks) = Unit {0}
IsNoPoll (task.Remove output ∷ tasks) = Unit {0}
IsNoPoll (task.Poll ∷ tasks) = ⊥
IsNoPoll (task.Refresh ∷ tasks) = Unit {0}
IsNoPoll (task.Ask query ∷ tasks) = Unit {0}
IsNoPoll (task.Release ∷ tasks) = Unit {0}
IsNoPoll (task.Collect ∷ tasks) = Unit {0}

abbrev pub at : List Task → Doing → Option ℕ → List (List ℕ) → List Answered → Progress
at tasks doing held loaded answers = record { tasks = tasks; doing = doing; held = held; loaded = loaded; answers = answers }

-- from a state and a progress to a later state and a later progress: the lease is what the later progress says, so is the import where it was, and
-- another task than a poll leaves it
pub record Along (s : State) (lane : ℕ) (p q : Progress) (t : State) : Type 0 where
  pub room : length t.leases ≡ length s.leases
  pub lease : lease_of t lane ≡ lease_in q
  pub import : s.import ≡ import_in lane p → t.import ≡ import_in lane q
  pub other : IsNoPoll p.tasks → t.import ≡ s.import

module _ (s : State) (lane : ℕ) (here : lane < length s.leases) where
  -- how a progress and a state go on by an outcome
  abbrev On : Progress → Outcome → State → Type 0
  On p outcome t = Along s lane p (told outcome p) t

  -- what the lane's lease is after it was set
  set_lease : (lease : Option state.Lease) → get_or (slice_set s.leases lane lease) lane None ≡ lease
  set_lease lease = get_or-set_same s.leases lane lease None here

  -- ---- a build

  module _ (job : Made) (tasks : List Task) (held : Option ℕ) (loaded : List (List ℕ)) (answers : List Answered) where
    abbrev next_lease : Option Doing → Option state.Lease
    next_lease None = None
    next_lease (Some doing) = build_lease job doing

    abbrev building : Doing → Progress
    building doing = at (task.Build job ∷ tasks) doing held loaded answers

    built : (doing : Doing) (next : Option Doing) (t : State) → length t.leases ≡ length s.leases → lease_of t lane ≡ next_lease next → t.import ≡ s.import → Along s lane (building doing) (goes_on next (building doing)) t
    built doing None t r l i = record { room = r; lease = l ∙ sym (lease_begun tasks); import = λ e. i ∙ (e ∙ sym (import_begun lane tasks)); other = λ n. i }
    built doing (Some next) t r l i = record { room = r; lease = l; import = λ e. i ∙ e; other = λ n. i }

    -- a state with the lane's lease set
    builds : (doing : Doing) (outcome : Outcome) (t : State) (lease : Option state.Lease) → t.leases ≡ slice_set s.leases lane lease → lease ≡ next_lease (build_goes_on outcome doing) → t.import ≡ s.import → On (building doing) outcome t
    builds doing outcome t lease leases is i =
        built doing (build_goes_on outcome doing) t (ap (λ (ls : List (Option state.Lease)). length ls) leases ∙ length-set s.leases lane lease)
        (ap (λ (ls : List (Option state.Lease)). get_or ls lane None) leases ∙ (set_lease lease ∙ is)) i

    -- the lease was dropped, and the build is over
    drops : (doing : Doing) (outcome : Outcome) (t : State) → t.leases ≡ slice_set s.leases lane None → build_goes_on outcome doing ≡ None → t.import ≡ s.import → On (building doing) outcome t
    drops doing outcome t leases is i = builds doing outcome t None leases (sym (ap next_lease is)) i

    lease_ends : Ends (On (building Begun)) (lease s lane job.names)
    lease_ends = sure_ends (On (building Begun)) Done _ (builds Begun Done _ (Some (record { names = job.names; put = []; staged = None })) refl refl refl)

    module _ (files : ℕ) (agree : lease_of s lane ≡ build_lease job (Putting files)) where
      noted_lease : (body : Body) → slice_get job.bodies files ≡ Some body → option_map (with_put body.name) (lease_of s lane) ≡ build_lease job (Putting (suc files))
      noted_lease body is =
          ap (option_map (with_put body.name)) agree
          ∙ ap (λ (names : List (List ℕ)). Some (record { names = job.names; put = names; staged = None })) (one_more_put job.bodies files body is)

      -- a put that was made, and one that failed
      puts : (outcome : Outcome) (made : State) → On (building (Putting files)) outcome made → Ends (On (building (Putting files))) (may_fault outcome made (dropped s lane))
      puts outcome made q = record {
        plain = q;
        fault = drops (Putting files) Fault (dropped s lane) refl refl refl;
        lost = λ name. drops (Putting files) (Lost name) (dropped s lane) refl refl refl;
        damaged = λ name. drops (Putting files) (Damaged name) (dropped s lane) refl refl refl;
        unsynced = tt;
      }

      module _ (body : Body) (is : slice_get job.bodies files ≡ Some body) where
        writes : Ends (On (building (Putting files))) (write s lane body)
        writes = puts Written _ (builds (Putting files) Written _ _ refl (noted_lease body is) refl)

        put_ends : (o : Option (List ℕ)) → Ends (On (building (Putting files))) (put_over s lane body o)
        put_ends None = writes
        put_ends (Some bytes) =
            elim (bytes_eq bytes body.bytes) as (λ b. Ends (On (building (Putting files))) (if b then may_fault Shared (noted s lane body.name) (dropped s lane) else (if is_guarded s lane body.name then may_fault Clash (dropped s lane) (dropped s lane) else write s lane body))) [
              | true ↦ puts Shared _ (builds (Putting files) Shared _ _ refl (noted_lease body is) refl)
              | false ↦ elim (is_guarded s lane body.name) as (λ b. Ends (On (building (Putting files))) (if b then may_fault Clash (dropped s lane) (dropped s lane) else write s lane body)) [
                | true ↦ puts Clash (dropped s lane) (drops (Putting files) Clash (dropped s lane) refl refl refl)
                | false ↦ writes
              ]
            ]

      stage_ends : slice_get job.bodies files ≡ None → Ends (On (building (Putting files))) (stage s lane job.unit)
      stage_ends is = puts Done _ (builds (Putting files) Done _ _ refl
          (ap (option_map (with_staged job.unit)) agree
          ∙ ap (λ (names : List (List ℕ)). Some (record { names = job.names; put = names; staged = Some job.unit })) (all_put job.bodies files is))
          refl)

    changes : (name : List ℕ) (unit : UnitValue) → Ends (On (building Staged)) (change (dropped s lane) (dropped s lane) (model.Put name (stored_unit s unit)))
    changes name unit = record {
      plain = drops Staged Synced _ refl refl refl;
      fault = drops Staged Fault _ refl refl refl;
      lost = λ other. drops Staged (Lost other) _ refl refl refl;
      damaged = λ other. drops Staged (Damaged other) _ refl refl refl;
      unsynced = drops Staged Unsynced _ refl refl refl;
    }

    publish_ends : (name : List ℕ) (unit : UnitValue) (o : Option StoredUnit) → Ends (On (building Staged)) (publish_over s lane name unit o)
    publish_ends name unit None = changes name unit
    publish_ends name unit (Some other) =
        elim (bytes_eq other.unit.output unit.output) as (λ b. Ends (On (building Staged)) (if b then change (dropped s lane) (dropped s lane) (model.Put name (stored_unit s unit)) else sure Clash (dropped s lane))) [
          | true ↦ changes name unit
          | false ↦ sure_ends (On (building Staged)) Clash (dropped s lane) (drops Staged Clash (dropped s lane) refl refl refl)
        ]

    staged_ends : (name_of : List ℕ → List ℕ) (o : Option UnitValue) → IfSome (option_map (λ unit. publish_unit s lane (name_of unit.output) unit) o) (Ends (On (building Staged)))
    staged_ends name_of None = tt
    staged_ends name_of (Some unit) = publish_ends (name_of unit.output) unit (unit_named (name_of unit.output) (visible s))

    build_along : (name_of : List ℕ → List ℕ) (seen : ℕ → Units) (current : ℕ) (doing : Doing) (flag : Outcome) → IsUnderWay (task.Build job ∷ tasks) doing → lease_of s lane ≡ build_lease job doing
        → IfSome (next_call seen current (building doing)) (λ g. IfSome (step name_of s lane g flag) (λ stepped. On (building doing) stepped.outcome stepped.state))
    build_along name_of seen current Begun flag way agree = flagged_ends (On (building Begun)) (lease s lane job.names) lease_ends flag
    build_along name_of seen current (Putting files) flag way agree =
        (elim (slice_get job.bodies files) as (λ o. slice_get job.bodies files ≡ o → IfSome (call_for seen current (building (Putting files)) (put_or_stage job o)) (λ g. IfSome (step name_of s lane g flag) (λ stepped. On (building (Putting files)) stepped.outcome stepped.state))) [
          | None ↦ λ is. flagged_ends (On (building (Putting files))) (stage s lane job.unit) (stage_ends files agree is) flag
          | Some body ↦ λ is. flagged_ends (On (building (Putting files))) _ (put_ends files agree body is (lookup (is_at (text_cmp body.name)) s.records)) flag
        ]) refl
    build_along name_of seen current Staged flag way agree = row_ends (On (building Staged)) _ flag (staged_ends name_of (staged_by s lane))
    build_along name_of seen current (Importing mark records) flag way agree = absurd way

  -- ---- a poll

  module _ (tasks : List Task) (held : Option ℕ) (loaded : List (List ℕ)) (answers : List Answered) (agree : lease_of s lane ≡ None) where
    abbrev polling : Doing → Progress
    polling doing = at (task.Poll ∷ tasks) doing held loaded answers

    -- a poll that is over, with no import open
    polled : (doing : Doing) (q : Progress) (t : State) → q.tasks ≡ tasks → q.doing ≡ Begun → t.leases ≡ s.leases → t.import ≡ None → Along s lane (polling doing) q t
    polled doing q t at_tasks at_begun l i = record {
      room = ap (λ (ls : List (Option state.Lease)). length ls) l;
      lease = ap (λ (ls : List (Option state.Lease)). get_or ls lane None) l ∙ (agree ∙ (sym (lease_begun tasks) ∙ (λ k. lease_at (sym at_tasks k) (sym at_begun k))));
      import = λ e. i ∙ (sym (import_begun lane tasks) ∙ (λ k. import_at lane (sym at_tasks k) (sym at_begun k)));
      other = λ n. absurd n;
    }

    scan_ends : Ends (On (polling Begun)) (scan s lane)
    scan_ends = record {
      plain = record { room = refl; lease = agree; import = λ e. refl; other = λ n. absurd n };
      fault = polled Begun _ _ refl refl refl refl;
      lost = λ name. polled Begun _ _ refl refl refl refl;
      damaged = λ name. polled Begun _ _ refl refl refl refl;
      unsynced = tt;
    }

    load_ends : (mark records : ℕ) (name : List ℕ) → Ends (On (polling (Importing mark records))) (load s name Import)
    load_ends mark records name = record {
      plain = record { room = refl; lease = agree; import = λ e. e; other = λ n. absurd n };
      fault = polled (Importing mark records) _ _ refl refl refl refl;
      lost = λ other. polled (Importing mark records) _ _ refl refl refl refl;
      damaged = λ other. polled (Importing mark records) _ _ refl refl refl refl;
      unsynced = tt;
    }

    install_ends : (mark records : ℕ) (o : Option state.Import) → IfSome (install_import s lane o) (Ends (On (polling (Importing mark records))))
    install_ends mark records None = tt
    install_ends mark records (Some i) =
        elim (i.lane == lane) as (λ b. IfSome (if b then Some (install_mark s lane i.mark) else None) (Ends (On (polling (Importing mark records))))) [
          | true ↦ sure_ends (On (polling (Importing mark records))) (At i.mark) _ (polled (Importing mark records) _ _ refl refl refl refl)
          | false ↦ tt
        ]

    poll_along : (name_of : List ℕ → List ℕ) (seen : ℕ → Units) (current : ℕ) (doing : Doing) (flag : Outcome) → IsUnderWay (task.Poll ∷ tasks) doing
        → IfSome (next_call seen current (polling doing)) (λ g. IfSome (step name_of s lane g flag) (λ stepped. On (polling doing) stepped.outcome stepped.state))
    poll_along name_of seen current Begun flag way = flagged_ends (On (polling Begun)) (scan s lane) scan_ends flag
    poll_along name_of seen current (Putting files) flag way = absurd way
    poll_along name_of seen current Staged flag way = absurd way
    poll_along name_of seen current (Importing mark records) flag way =
        elim (slice_get (fresh_in (seen current) (seen mark)) records) as (λ o. IfSome (step name_of s lane (load_or_install o) flag) (λ stepped. On (polling (Importing mark records)) stepped.outcome stepped.state)) [
          | None ↦ row_ends (On (polling (Importing mark records))) _ flag (install_ends mark records s.import)
          | Some name ↦ flagged_ends (On (polling (Importing mark records))) (load s name Import) (load_ends mark records name) flag
        ]

  -- ---- calls that touch neither a lease nor the import

  record IsStill (t : State) : Type 0 where
    leases : t.leases ≡ s.leases
    import : t.import ≡ s.import

  record AreStill (r : Row) : Type 0 where
    plain : IsStill r.plain.state
    faulted : IfSome r.faulted IsStill
    unsynced : IfSome r.unsynced IsStill

  still : IsStill s
  still = record { leases = refl; import = refl }

  -- a progress that says of neither
  record IsQuiet (p : Progress) : Type 0 where
    lease : lease_in p ≡ None
    import : import_in lane p ≡ None

  quiet_over : (tasks : List Task) (p : Progress) → p.tasks ≡ tasks → p.doing ≡ Begun → IsQuiet p
  quiet_over tasks p at_tasks at_begun = record {
    lease = (λ k. lease_at (at_tasks k) (at_begun k)) ∙ lease_begun tasks;
    import = (λ k. import_at lane (at_tasks k) (at_begun k)) ∙ import_begun lane tasks;
  }

  module _ (p : Progress) (agree : lease_of s lane ≡ None) (quiet : IsQuiet p) (goes : (outcome : Outcome) → IsQuiet (told outcome p)) where
    still_along : (outcome : Outcome) (t : State) → IsStill t → On p outcome t
    still_along outcome t same = record {
      room = ap (λ (ls : List (Option state.Lease)). length ls) same.leases;
      lease = ap (λ (ls : List (Option state.Lease)). get_or ls lane None) same.leases ∙ (agree ∙ sym (goes outcome).lease);
      import = λ e. same.import ∙ (e ∙ (quiet.import ∙ sym (goes outcome).import));
      other = λ n. same.import;
    }

    over_states : (outcome : Outcome) (o : Option State) → IfSome o IsStill → IfSome o (On p outcome)
    over_states outcome None same = tt
    over_states outcome (Some t) same = still_along outcome t same

    still_ends : (r : Row) → AreStill r → Ends (On p) r
    still_ends r same = record {
      plain = still_along r.plain.outcome r.plain.state same.plain;
      fault = over_states Fault r.faulted same.faulted;
      lost = λ name. over_states (Lost name) r.faulted same.faulted;
      damaged = λ name. over_states (Damaged name) r.faulted same.faulted;
      unsynced = over_states Unsynced r.unsynced same.unsynced;
    }

    still_flagged : (r : Row) → AreStill r → (flag : Outcome) → IfSome (flagged r flag) (λ stepped. On p stepped.outcome stepped.state)
    still_flagged r same flag = flagged_ends (On p) r (still_ends r same) flag

  remove_still : (o : Option (List ℕ)) → AreStill (remove_named s o)
  remove_still None = record { plain = still; faulted = tt; unsynced = tt }
  remove_still (Some name) = record { plain = record { leases = refl; import = refl }; faulted = still; unsynced = record { leases = refl; import = refl } }

  collect_still : (names : List (List ℕ)) → IsStill (collect_first s names).state
  collect_still [] = record { leases = refl; import = refl }
  collect_still (name ∷ names) = record { leases = refl; import = refl }

  -- ---- an ask

  module _ (query : Query) (tasks : List Task) (doing : Doing) (held : Option ℕ) (loaded : List (List ℕ)) (answers : List Answered) where
    abbrev asking : Progress
    asking = at (task.Ask query ∷ tasks) doing held loaded answers

    quiet_ask : (outcome : Outcome) → IsQuiet (ask_told outcome asking)
    quiet_ask Done = record { lease = refl; import = refl }
    quiet_ask Written = record { lease = refl; import = refl }
    quiet_ask Shared = record { lease = refl; import = refl }
    quiet_ask Clash = record { lease = refl; import = refl }
    quiet_ask Synced = record { lease = refl; import = refl }
    quiet_ask Unsynced = record { lease = refl; import = refl }
    quiet_ask NoUnit = record { lease = refl; import = refl }
    quiet_ask (At mark) = record { lease = refl; import = refl }
    quiet_ask (Removed name) = record { lease = refl; import = refl }
    quiet_ask Nothing = record { lease = refl; import = refl }
    quiet_ask Fault = quiet_over tasks _ refl refl
    quiet_ask (Lost name) = quiet_over tasks _ refl refl
    quiet_ask (Damaged name) = quiet_over tasks _ refl refl

  ask_along : (name_of : List ℕ → List ℕ) (seen : ℕ → Units) (current : ℕ) (query : Query) (tasks : List Task) (doing : Doing) (held : Option ℕ) (loaded : List (List ℕ)) (answers : List Answered) (flag : Outcome) → lease_of s lane ≡ None
      → IfSome (next_call seen current (at (task.Ask query ∷ tasks) doing held loaded answers)) (λ g. IfSome (step name_of s lane g flag) (λ stepped. On (at (task.Ask query ∷ tasks) doing held loaded answers) stepped.outcome stepped.state))
  ask_along name_of seen current query tasks doing None loaded answers flag agree = tt
  ask_along name_of seen current query tasks doing (Some mark) loaded answers flag agree =
      elim (next_need query (seen mark) loaded) as (λ o. IfSome (option_map (λ name. given.Load name Ask) o) (λ g. IfSome (step name_of s lane g flag) (λ stepped. On (at (task.Ask query ∷ tasks) doing (Some mark) loaded answers) stepped.outcome stepped.state))) [
        | None ↦ tt
        | Some name ↦ still_flagged (at (task.Ask query ∷ tasks) doing (Some mark) loaded answers) agree (record { lease = refl; import = refl }) (quiet_ask query tasks doing (Some mark) loaded answers)
            (load s name Ask) (record { plain = still; faulted = still; unsynced = tt }) flag
      ]

  -- ---- each task

  pub next_along : (name_of : List ℕ → List ℕ) (seen : ℕ → Units) (current : ℕ) (tasks : List Task) (doing : Doing) (held : Option ℕ) (loaded : List (List ℕ)) (answers : List Answered) (flag : Outcome) → IsUnderWay tasks doing → lease_of s lane ≡ lease_at tasks doing
      → IfSome (next_call seen current (at tasks doing held loaded answers)) (λ g. IfSome (step name_of s lane g flag) (λ stepped. Along s lane (at tasks doing held loaded answers) (told stepped.outcome (at tasks doing held loaded answers)) stepped.state))
  next_along name_of seen current [] doing held loaded answers flag way agree = tt
  next_along name_of seen current (task.Build job ∷ tasks) doing held loaded answers flag way agree = build_along job tasks held loaded answers name_of seen current doing flag way agree
  next_along name_of seen current (task.Remove output ∷ tasks) doing held loaded answers flag way agree =
      still_flagged (at (task.Remove output ∷ tasks) doing held loaded answers) agree (record { lease = refl; import = refl }) (λ outcome. quiet_over tasks _ refl refl) _ (remove_still (name_with_output output (visible s))) flag
  next_along name_of seen current (task.Poll ∷ tasks) doing held loaded answers flag way agree = poll_along tasks held loaded answers agree name_of seen current doing flag way
  next_along name_of seen current (task.Refresh ∷ tasks) doing held loaded answers flag way agree =
      still_flagged (at (task.Refresh ∷ tasks) doing held loaded answers) agree (record { lease = refl; import = refl })
      (λ outcome. quiet_over (drop 1 (adopted outcome (at (task.Refresh ∷ tasks) doing held loaded answers)).tasks) _ refl refl) (adopt s lane) (record { plain = record { leases = refl; import = refl }; faulted = tt; unsynced = tt }) flag
  next_along name_of seen current (task.Ask query ∷ tasks) doing held loaded answers flag way agree = ask_along name_of seen current query tasks doing held loaded answers flag agree
  next_along name_of seen current (task.Release ∷ tasks) doing held loaded answers flag way agree =
      still_flagged (at (task.Release ∷ tasks) doing held loaded answers) agree (record { lease = refl; import = refl }) (λ outcome. quiet_over tasks _ refl refl) (release s lane) (record { plain = record { leases = refl; import = refl }; faulted = tt; unsynced = tt }) flag
  next_along name_of seen current (task.Collect ∷ tasks) doing held loaded answers flag way agree =
      still_flagged (at (task.Collect ∷ tasks) doing held loaded answers) agree (record { lease = refl; import = refl }) (λ outcome. quiet_over tasks _ refl refl) (collect s) (record { plain = collect_still (loose s); faulted = still; unsynced = tt }) flag
