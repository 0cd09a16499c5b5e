-- What a lane's progress says that it holds is what the machine's state says.
use Rattle.std.proofs.Common.{◌≡◌, ℕ, ◌<◌, ◌==◌, if◌then◌else◌, Bool, true, false, List, [], ◌∷◌, length, Option, Some, None, IfSome, option_map, option_and_then, slice_get, get_or, refl, sym, ap, ◌∙◌}
use Rattle.std.specs.Str.{bytes_eq}
use Rattle.std.specs.Map.{lookup}
use Rattle.std.specs.BTreeMap.{is_at}
use Rattle.std.proofs.lemmas.List.{get_or-set_same}
use Rattle.ix_types.specs.Row.{text_cmp}
use Rattle.ix_types.specs.declared.row.Query.{Query}
use Rattle.ix_record.specs.declared.body.Body.{Body}
use Rattle.ix_unit.specs.declared.value.UnitValue.{UnitValue}
use Rattle.ix_model.specs.declared.publication.Publication.TheVariants as model
use Rattle.ix_model.specs.declared.publication.StoredUnit.{StoredUnit}
use Rattle.ix_model.specs.Units.{Units, unit_named}
use Rattle.ix_answers.specs.Needs.{next_need}
use Rattle.ix_machine.specs.declared.event.Outcome.{Outcome}
use Rattle.ix_machine.specs.declared.event.Outcome.TheVariants.{Done, Written, Shared, Clash, Synced, Unsynced, NoUnit, At, Removed, Nothing, Fault, Lost, Damaged}
use Rattle.ix_machine.specs.declared.event.Purpose.{Purpose}
use Rattle.ix_machine.specs.declared.event.Purpose.TheVariants.{Import, Ask}
use Rattle.ix_machine.specs.Given.{Given}
use Rattle.ix_machine.specs.Given as given
use Rattle.ix_machine.specs.Needs.{loose, is_guarded, visible}
use Rattle.ix_machine.specs.State as state
use Rattle.ix_machine.specs.State.{State, held_by}
use Rattle.ix_machine.specs.Step.{Stepped, Row, ended, flagged, row, step, staged_by, dropped, publish_over, publish_unit, change, sure, may_fault, noted, write, put_over, stored_unit, remove_named, name_with_output, install_import, install_mark, collect_first, adopt, release, scan, load}
use Rattle.ix_jobs.specs.Made.{Made}
use Rattle.ix_lanes.specs.declared.doing.Doing.{Doing}
use Rattle.ix_lanes.specs.declared.doing.Doing.TheVariants.{Begun, Putting, Staged, Importing}
use Rattle.ix_lanes.specs.Tasks.{Task}
use Rattle.ix_lanes.specs.Tasks as task
use Rattle.ix_lanes.specs.Calls.{next_call, call_for, fresh_in, load_or_install, put_or_stage}
use Rattle.ix_lanes.specs.declared.answered.Answered.{Answered}
use Rattle.ix_lanes.specs.Progress.{Progress, told, goes_on, build_goes_on, poll_told, ask_told, imported}

-- ---- calls that leave what is held

-- no lane holds another version
record Keeps (s : State) (r : Row) : Type 0 where
  plain : r.plain.state.held ≡ s.held
  faulted : IfSome r.faulted (λ t. t.held ≡ s.held)
  unsynced : IfSome r.unsynced (λ t. t.held ≡ s.held)

module _ (s : State) (r : Row) (k : Keeps s r) where
  behind : (outcome : Outcome) (o : Option State) → IfSome o (λ t. t.held ≡ s.held) → IfSome (option_map (ended outcome) o) (λ stepped. stepped.state.held ≡ s.held)
  behind outcome None p = tt
  behind outcome (Some t) p = p

  missed : (b : Bool) (outcome : Outcome) → IfSome (if b then option_map (ended outcome) r.faulted else None) (λ stepped. stepped.state.held ≡ s.held)
  missed true outcome = behind outcome r.faulted k.faulted
  missed false outcome = tt

  flagged_keeps : (flag : Outcome) → IfSome (flagged r flag) (λ stepped. stepped.state.held ≡ s.held)
  flagged_keeps Done = k.plain
  flagged_keeps Written = tt
  flagged_keeps Shared = tt
  flagged_keeps Clash = tt
  flagged_keeps Synced = tt
  flagged_keeps Unsynced = behind Unsynced r.unsynced k.unsynced
  flagged_keeps NoUnit = tt
  flagged_keeps (At mark) = tt
  flagged_keeps (Removed name) = tt
  flagged_keeps Nothing = tt
  flagged_keeps Fault = behind Fault r.faulted k.faulted
  flagged_keeps (Lost name) = missed (r.misses name) (Lost name)
  flagged_keeps (Damaged name) = missed (r.misses name) (Damaged name)

-- a call that takes no version up and lets none go
abbrev pub KeepsHeld : Given → Type 0
KeepsHeld (given.Lease names) = Unit {0}
KeepsHeld (given.Put body) = Unit {0}
KeepsHeld (given.Stage unit) = Unit {0}
KeepsHeld given.Publish = Unit {0}
KeepsHeld (given.Remove output) = Unit {0}
KeepsHeld given.Scan = Unit {0}
KeepsHeld (given.Load name purpose) = Unit {0}
KeepsHeld given.Install = ⊥
KeepsHeld given.Adopt = ⊥
KeepsHeld given.Release = ⊥
KeepsHeld given.Collect = Unit {0}

module _ (s : State) (lane : ℕ) where
  put_keeps : (body : Body) (o : Option (List ℕ)) → Keeps s (put_over s lane body o)
  put_keeps body None = record { plain = refl; faulted = refl; unsynced = tt }
  put_keeps body (Some bytes) =
      elim (bytes_eq bytes body.bytes) as (λ b. Keeps s (if b then may_fault Shared (noted s lane body.name) (dropped s lane) else (if is_guarded s lane body.name then may_fault Clash (dropped s lane) (dropped s lane) else write s lane body))) [
        | true ↦ record { plain = refl; faulted = refl; unsynced = tt }
        | false ↦ elim (is_guarded s lane body.name) as (λ b. Keeps s (if b then may_fault Clash (dropped s lane) (dropped s lane) else write s lane body)) [
          | true ↦ record { plain = refl; faulted = refl; unsynced = tt }
          | false ↦ record { plain = refl; faulted = refl; unsynced = tt }
        ]
      ]

  publish_keeps : (name : List ℕ) (unit : UnitValue) (o : Option StoredUnit) → Keeps s (publish_over s lane name unit o)
  publish_keeps name unit None = record { plain = refl; faulted = refl; unsynced = refl }
  publish_keeps name unit (Some other) =
      elim (bytes_eq other.unit.output unit.output) as (λ b. Keeps s (if b then change (dropped s lane) (dropped s lane) (model.Put name (stored_unit s unit)) else sure Clash (dropped s lane))) [
        | true ↦ record { plain = refl; faulted = refl; unsynced = refl }
        | false ↦ record { plain = refl; faulted = tt; unsynced = tt }
      ]

  staged_keeps : (name_of : List ℕ → List ℕ) (o : Option UnitValue) → IfSome (option_map (λ unit. publish_unit s lane (name_of unit.output) unit) o) (Keeps s)
  staged_keeps name_of None = tt
  staged_keeps name_of (Some unit) = publish_keeps (name_of unit.output) unit (unit_named (name_of unit.output) (visible s))

  remove_keeps : (o : Option (List ℕ)) → Keeps s (remove_named s o)
  remove_keeps None = record { plain = refl; faulted = tt; unsynced = tt }
  remove_keeps (Some name) = record { plain = refl; faulted = refl; unsynced = refl }

  load_keeps : (name : List ℕ) (purpose : Purpose) → Keeps s (load s name purpose)
  load_keeps name Import = record { plain = refl; faulted = refl; unsynced = tt }
  load_keeps name Ask = record { plain = refl; faulted = refl; unsynced = tt }

  collect_keeps : (names : List (List ℕ)) → (collect_first s names).state.held ≡ s.held
  collect_keeps [] = refl
  collect_keeps (name ∷ names) = refl

  row_keeps : (name_of : List ℕ → List ℕ) (g : Given) → KeepsHeld g → IfSome (row name_of s lane g) (Keeps s)
  row_keeps name_of (given.Lease names) k = record { plain = refl; faulted = tt; unsynced = tt }
  row_keeps name_of (given.Put body) k = put_keeps body (lookup (is_at (text_cmp body.name)) s.records)
  row_keeps name_of (given.Stage unit) k = record { plain = refl; faulted = refl; unsynced = tt }
  row_keeps name_of given.Publish k = staged_keeps name_of (staged_by s lane)
  row_keeps name_of (given.Remove output) k = remove_keeps (name_with_output output (visible s))
  row_keeps name_of given.Scan k = record { plain = refl; faulted = refl; unsynced = tt }
  row_keeps name_of (given.Load name purpose) k = load_keeps name purpose
  row_keeps name_of given.Install k = absurd k
  row_keeps name_of given.Adopt k = absurd k
  row_keeps name_of given.Release k = absurd k
  row_keeps name_of given.Collect k = record { plain = collect_keeps (loose s); faulted = refl; unsynced = tt }

  rows_keep : (o : Option Row) (flag : Outcome) → IfSome o (Keeps s) → IfSome (option_and_then (λ r. flagged r flag) o) (λ stepped. stepped.state.held ≡ s.held)
  rows_keep None flag k = tt
  rows_keep (Some r) flag k = flagged_keeps s r k flag

  pub step_keeps : (name_of : List ℕ → List ℕ) (g : Given) (flag : Outcome) → KeepsHeld g → IfSome (step name_of s lane g flag) (λ stepped. stepped.state.held ≡ s.held)
  step_keeps name_of g flag k = rows_keep (row name_of s lane g) flag (row_keeps name_of g k)

-- ---- how the lane's progress goes along

stays : (next : Option Doing) (p : Progress) → (goes_on next p).held ≡ p.held
stays None p = refl
stays (Some doing) p = refl

pub ask_stays : (outcome : Outcome) (p : Progress) → (ask_told outcome p).held ≡ p.held
ask_stays Done p = refl
ask_stays Written p = refl
ask_stays Shared p = refl
ask_stays Clash p = refl
ask_stays Synced p = refl
ask_stays Unsynced p = refl
ask_stays NoUnit p = refl
ask_stays (At mark) p = refl
ask_stays (Removed name) p = refl
ask_stays Nothing p = refl
ask_stays Fault p = refl
ask_stays (Lost name) p = refl
ask_stays (Damaged name) p = refl

loads : (doing : Doing) (p : Progress) → (imported doing p).held ≡ p.held
loads Begun p = refl
loads (Putting files) p = refl
loads Staged p = refl
loads (Importing mark records) p = refl

-- a poll that is to scan
abbrev IsScan : Doing → Type 0
IsScan Begun = Unit {0}
IsScan (Putting files) = Unit {0}
IsScan Staged = Unit {0}
IsScan (Importing mark records) = ⊥

-- ---- the two together

module _ (name_of : List ℕ → List ℕ) (seen : ℕ → Units) (s : State) (lane : ℕ) (here : lane < length s.held) where
  -- what the state holds behind a step is what the progress holds once it is told
  abbrev Along : Progress → Stepped → Type 0
  Along p stepped = held_by stepped.state lane ≡ (told stepped.outcome p).held

  kept : (p : Progress) (stepped : Stepped) → held_by s lane ≡ p.held → stepped.state.held ≡ s.held → (told stepped.outcome p).held ≡ p.held → Along p stepped
  kept p stepped agree same stay = ap (λ (hs : List (Option ℕ)). get_or hs lane None) same ∙ (agree ∙ sym stay)

  -- a call that keeps what is held, of a task whose progress keeps it too
  keeping : (p : Progress) (g : Given) (flag : Outcome) → held_by s lane ≡ p.held → KeepsHeld g → ((outcome : Outcome) → (told outcome p).held ≡ p.held) → IfSome (step name_of s lane g flag) (Along p)
  keeping p g flag agree k stay = over (step name_of s lane g flag) (step_keeps s lane name_of g flag k)
    where
      over : (o : Option Stepped) → IfSome o (λ stepped. stepped.state.held ≡ s.held) → IfSome o (Along p)
      over None h = tt
      over (Some stepped) h = kept p stepped agree h (stay stepped.outcome)

  -- the fields of a progress
  abbrev at : List Task → Doing → Option ℕ → List (List ℕ) → List Answered → Progress
  at tasks doing held loaded answers = record { tasks = tasks; doing = doing; held = held; loaded = loaded; answers = answers }

  build_along : (job : Made) (tasks : List Task) (doing : Doing) (held : Option ℕ) (loaded : List (List ℕ)) (answers : List Answered) (g : Given) (flag : Outcome)
      → held_by s lane ≡ held → KeepsHeld g → IfSome (step name_of s lane g flag) (Along (at (task.Build job ∷ tasks) doing held loaded answers))
  build_along job tasks doing held loaded answers g flag agree k =
      keeping (at (task.Build job ∷ tasks) doing held loaded answers) g flag agree k (λ outcome. stays (build_goes_on outcome doing) (at (task.Build job ∷ tasks) doing held loaded answers))

  -- ---- a poll: its scan, its loads and its install

  scan_held : (n : ℕ) (tasks : List Task) (doing : Doing) (held : Option ℕ) (loaded : List (List ℕ)) (answers : List Answered) → IsScan doing → held_by s lane ≡ held
      → held_by s lane ≡ (poll_told (At n) (at (task.Poll ∷ tasks) doing held loaded answers)).held
  scan_held n tasks Begun held loaded answers is agree = agree
  scan_held n tasks (Putting files) held loaded answers is agree = agree
  scan_held n tasks Staged held loaded answers is agree = agree
  scan_held n tasks (Importing mark records) held loaded answers is agree = absurd is

  missing : (b : Bool) (outcome : Outcome) (tasks : List Task) (doing : Doing) (held : Option ℕ) (loaded : List (List ℕ)) (answers : List Answered) → held_by s lane ≡ held
      → (poll_told outcome (at (task.Poll ∷ tasks) doing held loaded answers)).held ≡ held
      → IfSome (if b then option_map (ended outcome) (Some (record s { import = None })) else None) (Along (at (task.Poll ∷ tasks) doing held loaded answers))
  missing true outcome tasks doing held loaded answers agree same = agree ∙ sym same
  missing false outcome tasks doing held loaded answers agree same = tt

  scan_along : (tasks : List Task) (doing : Doing) (held : Option ℕ) (loaded : List (List ℕ)) (answers : List Answered) → IsScan doing → held_by s lane ≡ held → (flag : Outcome)
      → IfSome (flagged (scan s lane) flag) (Along (at (task.Poll ∷ tasks) doing held loaded answers))
  scan_along tasks doing held loaded answers is agree Done = scan_held (length s.publications) tasks doing held loaded answers is agree
  scan_along tasks doing held loaded answers is agree Written = tt
  scan_along tasks doing held loaded answers is agree Shared = tt
  scan_along tasks doing held loaded answers is agree Clash = tt
  scan_along tasks doing held loaded answers is agree Synced = tt
  scan_along tasks doing held loaded answers is agree Unsynced = tt
  scan_along tasks doing held loaded answers is agree NoUnit = tt
  scan_along tasks doing held loaded answers is agree (At mark) = tt
  scan_along tasks doing held loaded answers is agree (Removed name) = tt
  scan_along tasks doing held loaded answers is agree Nothing = tt
  scan_along tasks doing held loaded answers is agree Fault = agree
  scan_along tasks doing held loaded answers is agree (Lost name) = agree
  scan_along tasks doing held loaded answers is agree (Damaged name) = agree

  load_along : (tasks : List Task) (doing : Doing) (held : Option ℕ) (loaded : List (List ℕ)) (answers : List Answered) (name : List ℕ) → held_by s lane ≡ held → (flag : Outcome)
      → IfSome (flagged (load s name Import) flag) (Along (at (task.Poll ∷ tasks) doing held loaded answers))
  load_along tasks doing held loaded answers name agree Done = agree ∙ sym (loads doing (at (task.Poll ∷ tasks) doing held loaded answers))
  load_along tasks doing held loaded answers name agree Written = tt
  load_along tasks doing held loaded answers name agree Shared = tt
  load_along tasks doing held loaded answers name agree Clash = tt
  load_along tasks doing held loaded answers name agree Synced = tt
  load_along tasks doing held loaded answers name agree Unsynced = tt
  load_along tasks doing held loaded answers name agree NoUnit = tt
  load_along tasks doing held loaded answers name agree (At mark) = tt
  load_along tasks doing held loaded answers name agree (Removed other) = tt
  load_along tasks doing held loaded answers name agree Nothing = tt
  load_along tasks doing held loaded answers name agree Fault = agree
  load_along tasks doing held loaded answers name agree (Lost other) = missing (bytes_eq name other) (Lost other) tasks doing held loaded answers agree refl
  load_along tasks doing held loaded answers name agree (Damaged other) = missing (bytes_eq name other) (Damaged other) tasks doing held loaded answers agree refl

  install_flags : (tasks : List Task) (mark records : ℕ) (held : Option ℕ) (loaded : List (List ℕ)) (answers : List Answered) (n : ℕ) (flag : Outcome)
      → IfSome (flagged (install_mark s lane n) flag) (Along (at (task.Poll ∷ tasks) (Importing mark records) held loaded answers))
  install_flags tasks mark records held loaded answers n Done = get_or-set_same s.held lane (Some n) None here
  install_flags tasks mark records held loaded answers n Written = tt
  install_flags tasks mark records held loaded answers n Shared = tt
  install_flags tasks mark records held loaded answers n Clash = tt
  install_flags tasks mark records held loaded answers n Synced = tt
  install_flags tasks mark records held loaded answers n Unsynced = tt
  install_flags tasks mark records held loaded answers n NoUnit = tt
  install_flags tasks mark records held loaded answers n (At other) = tt
  install_flags tasks mark records held loaded answers n (Removed name) = tt
  install_flags tasks mark records held loaded answers n Nothing = tt
  install_flags tasks mark records held loaded answers n Fault = tt
  install_flags tasks mark records held loaded answers n (Lost name) = tt
  install_flags tasks mark records held loaded answers n (Damaged name) = tt

  install_along : (tasks : List Task) (mark records : ℕ) (held : Option ℕ) (loaded : List (List ℕ)) (answers : List Answered) (flag : Outcome) (o : Option state.Import)
      → IfSome (option_and_then (λ r. flagged r flag) (install_import s lane o)) (Along (at (task.Poll ∷ tasks) (Importing mark records) held loaded answers))
  install_along tasks mark records held loaded answers flag None = tt
  install_along tasks mark records held loaded answers flag (Some i) =
      elim (i.lane == lane) as (λ b. IfSome (option_and_then (λ r. flagged r flag) (if b then Some (install_mark s lane i.mark) else None)) (Along (at (task.Poll ∷ tasks) (Importing mark records) held loaded answers))) [
        | true ↦ install_flags tasks mark records held loaded answers i.mark flag
        | false ↦ tt
      ]

  adopt_along : (tasks : List Task) (doing : Doing) (held : Option ℕ) (loaded : List (List ℕ)) (answers : List Answered) (flag : Outcome)
      → IfSome (flagged (adopt s lane) flag) (Along (at (task.Refresh ∷ tasks) doing held loaded answers))
  adopt_along tasks doing held loaded answers Done = get_or-set_same s.held lane (Some s.current) None here
  adopt_along tasks doing held loaded answers Written = tt
  adopt_along tasks doing held loaded answers Shared = tt
  adopt_along tasks doing held loaded answers Clash = tt
  adopt_along tasks doing held loaded answers Synced = tt
  adopt_along tasks doing held loaded answers Unsynced = tt
  adopt_along tasks doing held loaded answers NoUnit = tt
  adopt_along tasks doing held loaded answers (At mark) = tt
  adopt_along tasks doing held loaded answers (Removed name) = tt
  adopt_along tasks doing held loaded answers Nothing = tt
  adopt_along tasks doing held loaded answers Fault = tt
  adopt_along tasks doing held loaded answers (Lost name) = tt
  adopt_along tasks doing held loaded answers (Damaged name) = tt

  release_along : (tasks : List Task) (doing : Doing) (held : Option ℕ) (loaded : List (List ℕ)) (answers : List Answered) (flag : Outcome)
      → IfSome (flagged (release s lane) flag) (Along (at (task.Release ∷ tasks) doing held loaded answers))
  release_along tasks doing held loaded answers Done = get_or-set_same s.held lane None None here
  release_along tasks doing held loaded answers Written = tt
  release_along tasks doing held loaded answers Shared = tt
  release_along tasks doing held loaded answers Clash = tt
  release_along tasks doing held loaded answers Synced = tt
  release_along tasks doing held loaded answers Unsynced = tt
  release_along tasks doing held loaded answers NoUnit = tt
  release_along tasks doing held loaded answers (At mark) = tt
  release_along tasks doing held loaded answers (Removed name) = tt
  release_along tasks doing held loaded answers Nothing = tt
  release_along tasks doing held loaded answers Fault = tt
  release_along tasks doing held loaded answers (Lost name) = tt
  release_along tasks doing held loaded answers (Damaged name) = tt

  -- ---- each task

  poll_along : (current : ℕ) (tasks : List Task) (doing : Doing) (held : Option ℕ) (loaded : List (List ℕ)) (answers : List Answered) (flag : Outcome) → held_by s lane ≡ held
      → IfSome (next_call seen current (at (task.Poll ∷ tasks) doing held loaded answers)) (λ g. IfSome (step name_of s lane g flag) (Along (at (task.Poll ∷ tasks) doing held loaded answers)))
  poll_along current tasks Begun held loaded answers flag agree = scan_along tasks Begun held loaded answers tt agree flag
  poll_along current tasks (Putting files) held loaded answers flag agree = scan_along tasks (Putting files) held loaded answers tt agree flag
  poll_along current tasks Staged held loaded answers flag agree = scan_along tasks Staged held loaded answers tt agree flag
  poll_along current tasks (Importing mark records) held loaded answers flag agree =
      elim (slice_get (fresh_in (seen current) (seen mark)) records) as (λ o. IfSome (step name_of s lane (load_or_install o) flag) (Along (at (task.Poll ∷ tasks) (Importing mark records) held loaded answers))) [
        | None ↦ install_along tasks mark records held loaded answers flag s.import
        | Some name ↦ load_along tasks (Importing mark records) held loaded answers name agree flag
      ]

  build_calls : (current : ℕ) (job : Made) (tasks : List Task) (doing : Doing) (held : Option ℕ) (loaded : List (List ℕ)) (answers : List Answered) (flag : Outcome) → held_by s lane ≡ held
      → IfSome (next_call seen current (at (task.Build job ∷ tasks) doing held loaded answers)) (λ g. IfSome (step name_of s lane g flag) (Along (at (task.Build job ∷ tasks) doing held loaded answers)))
  build_calls current job tasks Begun held loaded answers flag agree = build_along job tasks Begun held loaded answers (given.Lease job.names) flag agree tt
  build_calls current job tasks (Putting files) held loaded answers flag agree =
      elim (slice_get job.bodies files) as (λ o. IfSome (call_for seen current (at (task.Build job ∷ tasks) (Putting files) held loaded answers) (put_or_stage job o)) (λ g. IfSome (step name_of s lane g flag) (Along (at (task.Build job ∷ tasks) (Putting files) held loaded answers)))) [
        | None ↦ build_along job tasks (Putting files) held loaded answers (given.Stage job.unit) flag agree tt
        | Some body ↦ build_along job tasks (Putting files) held loaded answers (given.Put body) flag agree tt
      ]
  build_calls current job tasks Staged held loaded answers flag agree = build_along job tasks Staged held loaded answers given.Publish flag agree tt
  build_calls current job tasks (Importing mark records) held loaded answers flag agree = build_along job tasks (Importing mark records) held loaded answers given.Publish flag agree tt

  ask_calls : (current : ℕ) (query : Query) (tasks : List Task) (doing : Doing) (held : Option ℕ) (loaded : List (List ℕ)) (answers : List Answered) (flag : Outcome) → held_by s lane ≡ held
      → IfSome (next_call seen current (at (task.Ask query ∷ tasks) doing held loaded answers)) (λ g. IfSome (step name_of s lane g flag) (Along (at (task.Ask query ∷ tasks) doing held loaded answers)))
  ask_calls current query tasks doing None loaded answers flag agree = tt
  ask_calls current query tasks doing (Some mark) loaded answers flag agree =
      elim (next_need query (seen mark) loaded) as (λ o. IfSome (option_map (λ name. given.Load name Ask) o) (λ g. IfSome (step name_of s lane g flag) (Along (at (task.Ask query ∷ tasks) doing (Some mark) loaded answers)))) [
        | None ↦ tt
        | Some name ↦ keeping (at (task.Ask query ∷ tasks) doing (Some mark) loaded answers) (given.Load name Ask) flag agree tt (λ outcome. ask_stays outcome (at (task.Ask query ∷ tasks) doing (Some mark) loaded answers))
      ]

  pub next_along : (current : ℕ) (tasks : List Task) (doing : Doing) (held : Option ℕ) (loaded : List (List ℕ)) (answers : List Answered) (flag : Outcome) → held_by s lane ≡ held
      → IfSome (next_call seen current (at tasks doing held loaded answers)) (λ g. IfSome (step name_of s lane g flag) (Along (at tasks doing held loaded answers)))
  next_along current [] doing held loaded answers flag agree = tt
  next_along current (task.Build job ∷ tasks) doing held loaded answers flag agree = build_calls current job tasks doing held loaded answers flag agree
  next_along current (task.Remove output ∷ tasks) doing held loaded answers flag agree = keeping (at (task.Remove output ∷ tasks) doing held loaded answers) (given.Remove output) flag agree tt (λ outcome. refl)
  next_along current (task.Poll ∷ tasks) doing held loaded answers flag agree = poll_along current tasks doing held loaded answers flag agree
  next_along current (task.Refresh ∷ tasks) doing held loaded answers flag agree = adopt_along tasks doing held loaded answers flag
  next_along current (task.Ask query ∷ tasks) doing held loaded answers flag agree = ask_calls current query tasks doing held loaded answers flag agree
  next_along current (task.Release ∷ tasks) doing held loaded answers flag agree = release_along tasks doing held loaded answers flag
  next_along current (task.Collect ∷ tasks) doing held loaded answers flag agree = keeping (at (task.Collect ∷ tasks) doing held loaded answers) given.Collect flag agree tt (λ outcome. refl)
