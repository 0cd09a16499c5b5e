-- Along a run of one lane: it comes to the build, through it, and over the poll to the ask.
use Rattle.std.proofs.Common.{◌≡◌, ◌≢◌, ◌⊎◌, inl, inr, ℕ, zero, suc, List, [], ◌∷◌, ◌++◌, length, map, drop, false, Option, Some, None, is_some, option_map, option_and_then, slice_get, append_assoc, refl, sym, ap, ◌∙◌, subst, arith}
use Rattle.std.specs.List.{AllByRecursion, AllZip}
use Rattle.std.proofs.lemmas.List.{append-nil, append_cancel_left, length-append}
use Rattle.ix_types.specs.Name.{IsFileName}
use Rattle.ix_record.specs.declared.body.Body.{Body}
use Rattle.ix_types.specs.declared.row.Query.{Query}
use Rattle.ix_model.specs.Units.{Units}
use Rattle.ix_plan.specs.declared.plan.Step.{Step}
use Rattle.ix_plan.specs.Keeps.{IsAccepted}
use Rattle.ix_jobs.specs.Made.{Made}
use Rattle.ix_machine.specs.declared.event.Call.{Call}
use Rattle.ix_machine.specs.declared.event.Call.TheVariants as call
use Rattle.ix_machine.specs.declared.event.Event.{Event}
use Rattle.ix_machine.specs.declared.event.Outcome.{Outcome}
use Rattle.ix_machine.specs.declared.event.Outcome.TheVariants.{Done, Clash, Synced}
use Rattle.ix_machine.specs.Given.{Given}
use Rattle.ix_machine.specs.Given as given
use Rattle.ix_machine.specs.Needs.{seen_at, visible}
use Rattle.ix_machine.specs.Run.{IsSoundOpening, Opening}
use Rattle.ix_machine.specs.State.{Files, State}
use Rattle.ix_machine.specs.Step.{Stepped, step}
use Rattle.ix_lanes.specs.declared.doing.Doing.{Doing}
use Rattle.ix_lanes.specs.declared.doing.Doing.TheVariants.{Begun, Staged}
use Rattle.ix_lanes.specs.declared.answered.Answered.{Answered}
use Rattle.ix_lanes.specs.Calls.{next_call}
use Rattle.ix_lanes.specs.Laws.{AreAnswersTo, IsAnswerTo, asks_of}
use Rattle.ix_lanes.specs.Progress.{Progress, after_event, begun, noted, settled, told}
use Rattle.ix_lanes.specs.Tasks.{Task, tasks_of}
use Rattle.ix_lanes.specs.Tasks as task
use Rattle.ix_replays.specs.Laws.{RunFits}
use Rattle.ix_replays.specs.Run.{Run, call_of, extended, fresh, next_of, own_events, progress_of, with_event}
use Rattle.ix_allowed.specs.Agree.{IsTaskOf, lease_in}
use Rattle.ix_allowed.specs.Laws.{Comes}
use Rattle.ix_one_lane.specs.Below.{Below}
use Rattle.ix_one_lane.specs.Sees.{AsksSeeBuild, HaveBuilt, NoneFailed, answer_now, one_lane}
use Rattle.ix_one_lane.proofs.Goes.{Adds, Ahead, at, event_ahead, goes_told, settled_ahead, settled_keeps}
use Rattle.ix_one_lane.proofs.Built as built
use Rattle.ix_one_lane.proofs.Polled as polled

some_same : {A : Type 0} (a b : A) → Some a ≡ Some b → a ≡ b
some_same a b p = cc

none_some : {A : Type 0} (a : A) → None ≡ Some a → ⊥
none_some a p = absurd (cc)

as_progress : (p : Progress) (tasks : List Task) (doing : Doing) → p.tasks ≡ tasks → p.doing ≡ doing → p ≡ at tasks doing p.held p.loaded p.answers
as_progress p tasks doing t d = λ i. record { tasks = t i; doing = d i; held = p.held; loaded = p.loaded; answers = p.answers }

no_cell : {A : Type 0} (xs : List A) (y : A) (ys : List A) → xs ≡ y ∷ ys → xs ≡ [] → ⊥
no_cell xs y ys e n = let both : y ∷ ys ≡ [] = sym e ∙ n in absurd (cc)

empty_by : {A : Type 0} (xs : List A) → is_some (slice_get xs 0) ≡ false → xs ≡ []
empty_by [] e = refl
empty_by (x ∷ xs) e = absurd (cc)

at_length : {A : Type 0} (xs : List A) (x : A) (more : List A) → slice_get ((xs ++ x ∷ []) ++ more) (length xs) ≡ Some x
at_length [] x more = refl
at_length (y ∷ ys) x more = at_length ys x more

one_cell : (x y : Event) → x ∷ [] ≡ y ∷ [] → x ≡ y
one_cell x y e = cc

-- ---- an event more

abbrev shown : (List ℕ → List ℕ) → Run → Given → Stepped → Event
shown name_of run g stepped = record { lane = 0; call = call_of name_of run.state 0 g; outcome = stepped.outcome }

-- it is that of the call that the lane makes next
pub record Added (name_of : List ℕ → List ℕ) (tasks : List Task) (run : Run) (flag : Outcome) (longer : Run) : Type 0 where
  pub named : Given
  pub calls : next_call (seen_at run.state) run.state.current (progress_of run 0 tasks) ≡ Some named
  pub stepped : Stepped
  pub taken : step name_of run.state 0 named flag ≡ Some stepped
  pub is : with_event name_of run 0 named stepped ≡ longer

module _ (name_of : List ℕ → List ℕ) (tasks : List Task) (run : Run) (flag : Outcome) (longer : Run) where
  by_step : (g : Given) → next_call (seen_at run.state) run.state.current (progress_of run 0 tasks) ≡ Some g
      → (o : Option Stepped) → step name_of run.state 0 g flag ≡ o → option_map (with_event name_of run 0 g) o ≡ Some longer → Added name_of tasks run flag longer
  by_step g calls None is e = absurd (none_some longer e)
  by_step g calls (Some stepped) is e =
      record { named = g; calls = calls; stepped = stepped; taken = is; is = some_same (with_event name_of run 0 g stepped) longer e }

  by_call : (o : Option Given) → next_call (seen_at run.state) run.state.current (progress_of run 0 tasks) ≡ o
      → option_and_then (λ g. option_map (with_event name_of run 0 g) (step name_of run.state 0 g flag)) o ≡ Some longer → Added name_of tasks run flag longer
  by_call None is e = absurd (none_some longer e)
  by_call (Some g) is e = by_step g is (step name_of run.state 0 g flag) refl e

  added : (lane : ℕ) → extended name_of (tasks ∷ []) run lane flag ≡ Some longer → Added name_of tasks run flag longer
  added zero e = by_call (next_call (seen_at run.state) run.state.current (progress_of run 0 tasks)) refl e
  added (suc lane) e = absurd (none_some longer e)

-- ---- the asks before

asks_join : (xs ys : List Task) → asks_of (xs ++ ys) ≡ asks_of xs ++ asks_of ys
asks_join [] ys = refl
asks_join (task.Build job ∷ xs) ys = asks_join xs ys
asks_join (task.Remove output ∷ xs) ys = asks_join xs ys
asks_join (task.Poll ∷ xs) ys = asks_join xs ys
asks_join (task.Refresh ∷ xs) ys = asks_join xs ys
asks_join (task.Ask query ∷ xs) ys = ap (λ (qs : List Query). query ∷ qs) (asks_join xs ys)
asks_join (task.Release ∷ xs) ys = asks_join xs ys
asks_join (task.Collect ∷ xs) ys = asks_join xs ys

-- where a build, a poll and an ask are left of which the last two are left, the asks before are answered
asks_before : (seen : ℕ → Units) (tasks front : List Task) (job : Made) (query : Query) (behind : List Task) (answers : List Answered) (left : List Task)
    → tasks ≡ front ++ task.Build job ∷ task.Poll ∷ task.Ask query ∷ behind → left ≡ task.Poll ∷ task.Ask query ∷ behind
    → AreAnswersTo seen (asks_of tasks) answers left → length answers ≡ length (asks_of front)
asks_before seen tasks front job query behind answers left split is a =
    let rest = query ∷ asks_of behind in
    let all : asks_of front ++ rest ≡ a.done ++ rest =
    sym (asks_join front (task.Build job ∷ task.Poll ∷ task.Ask query ∷ behind)) ∙ (sym (ap (λ (ts : List Task). asks_of ts) split) ∙ (a.order ∙ ap (λ (ts : List Task). a.done ++ asks_of ts) is)) in
    let lengths : length (asks_of front ++ rest) ≡ length (a.done ++ rest) = ap (λ (qs : List Query). length qs) all in
    let first = length-append (asks_of front) rest in
    let second = length-append a.done rest in
    let each : length a.done ≡ length answers = zipped a.done answers a.each in
    sym each ∙ omega (arith, lengths, first, second)
  where
    zipped : (qs : List Query) (said : List Answered) → AllZip (IsAnswerTo seen) qs said → length qs ≡ length said
    zipped [] [] z = refl
    zipped [] (b ∷ said) z = absurd z
    zipped (q ∷ qs) [] z = absurd z
    zipped (q ∷ qs) (b ∷ said) z = ap (λ (n : ℕ). suc n) (zipped qs said z.1)

-- ---- a run goes on

module _ (name_of : List ℕ → List ℕ) (tasks : List Task) where
  one_more : (order : List ℕ) (flags : List Outcome) (start run longer : Run) (lane : ℕ) (flag : Outcome) → Comes name_of (tasks ∷ []) start order flags run
      → extended name_of (tasks ∷ []) run lane flag ≡ Some longer → Comes name_of (tasks ∷ []) start (order ++ lane ∷ []) (flags ++ flag ∷ []) longer
  one_more [] [] start run longer lane flag comes e = (longer, subst (λ (r : Run). extended name_of (tasks ∷ []) r lane flag ≡ Some longer) (sym comes) e, refl)
  one_more [] (f ∷ flags) start run longer lane flag comes e = absurd comes
  one_more (l ∷ order) [] start run longer lane flag comes e = absurd comes
  one_more (l ∷ order) (f ∷ flags) start run longer lane flag comes e = (comes.0, comes.1, one_more order flags comes.0 run longer lane flag comes.2 e)

  event_shown : (run longer : Run) (flag : Outcome) (a : Added name_of tasks run flag longer) → longer.events ≡ run.events ++ shown name_of run a.named a.stepped ∷ []
  event_shown run longer flag a = sym (ap (λ (r : Run). r.events) a.is)

  grows : (order : List ℕ) (flags : List Outcome) (run end : Run) → Comes name_of (tasks ∷ []) run order flags end → (more : List Event) × (end.events ≡ run.events ++ more)
  grows [] [] run end comes = ([], ap (λ (r : Run). r.events) (sym comes) ∙ sym (append-nil run.events))
  grows [] (flag ∷ flags) run end comes = absurd comes
  grows (lane ∷ order) [] run end comes = absurd comes
  grows (lane ∷ order) (flag ∷ flags) run end comes =
      let rest = grows order flags comes.0 end comes.2 in
      let a = added name_of tasks run flag comes.0 lane comes.1 in
      let made = shown name_of run a.named a.stepped in
      (made ∷ rest.0, rest.1 ∙ (ap (λ (es : List Event). es ++ rest.0) (event_shown run comes.0 flag a) ∙ append_assoc run.events (made ∷ []) rest.0))

-- ---- a run of a script of one lane

-- the run comes to it from the run before the first event, and nothing fails
pub record IsAt (name_of : List ℕ → List ℕ) (steps : List Step) (turns : List ℕ) (opening : Opening) (run : Run) : Type 0 where
  pub order : List ℕ
  pub flags : List Outcome
  pub comes : Comes name_of (tasks_of name_of steps ∷ []) (fresh name_of (one_lane steps turns) opening) order flags run

module _ (below : Below) (name_of : List ℕ → List ℕ) (steps : List Step) (turns : List ℕ) (opening : Opening) (naming : (bytes : List ℕ) → IsFileName (name_of bytes)) (accepted : IsAccepted (one_lane steps turns)) where
  abbrev pub all : List Task
  all = tasks_of name_of steps

  abbrev pub now : Run → Progress
  now run = progress_of run 0 all

  abbrev pub Here : Run → Type 0
  Here run = IsAt name_of steps turns opening run

  further : (run longer : Run) (lane : ℕ) (flag : Outcome) → Here run → extended name_of (all ∷ []) run lane flag ≡ Some longer → Here longer
  further run longer lane flag here e = record {
    order = here.order ++ lane ∷ [];
    flags = here.flags ++ flag ∷ [];
    comes = one_more name_of all here.order here.flags (fresh name_of (one_lane steps turns) opening) run longer lane flag here.comes e;
  }

  fits : (run : Run) → Here run → RunFits run
  fits run here =
      let r = below.ready name_of (one_lane steps turns) naming accepted in
      (below.agrees name_of r.0 (one_lane steps turns) opening here.order here.flags run r.1 here.comes).fits

  -- what holds of the state and the progress that the lane's call leaves holds of the longer run
  carried : (P : State → Progress → Type 0) (run longer : Run) → Here run → (a : Added name_of all run Done longer)
      → P a.stepped.state (after_event (seen_at a.stepped.state) (now run) (shown name_of run a.named a.stepped)) → P longer.state (now longer)
  carried P run longer here a p =
      let own = below.own name_of (all ∷ []) run 0 all a.named Done a.stepped (fits run here) refl a.calls a.taken in
      subst (λ (r : Run). P r.state (now r)) a.is (subst (P a.stepped.state) (sym own) p)

  no_task_left : (end : Run) → next_of name_of (all ∷ []) end 0 ≡ None → (now end).tasks ≡ []
  no_task_left end none = empty_by (now end).tasks (sym (below.calls name_of (all ∷ []) end 0 all refl) ∙ ap (λ (o : Option Given). is_some o) none)

  plainly : (run longer : Run) (lane : ℕ) (flag : Outcome) → flag ≡ Done → extended name_of (all ∷ []) run lane flag ≡ Some longer → Added name_of all run Done longer
  plainly run longer lane flag done e = added name_of all run Done longer lane (subst (λ (f : Outcome). extended name_of (all ∷ []) run lane f ≡ Some longer) done e)

  -- ---- from the poll on

  module _ (query : Query) (behind : List Task) (run : Run) where
    abbrev pub Phase : State → Progress → Type 0
    Phase s p = polled.Phase name_of query behind (now run).answers run.state.publications s p

    polled_on : (order : List ℕ) (flags : List Outcome) (later end : Run) → Here later → NoneFailed flags → Comes name_of (all ∷ []) later order flags end
        → Phase later.state (now later) → Phase end.state (now end)
    polled_on [] [] later end here none comes phase = subst (λ (r : Run). Phase r.state (now r)) comes phase
    polled_on [] (flag ∷ flags) later end here none comes phase = absurd comes
    polled_on (lane ∷ order) [] later end here none comes phase = absurd comes
    polled_on (lane ∷ order) (flag ∷ flags) later end here none comes phase =
        let a = plainly later comes.0 lane flag none.0 comes.1 in
        polled_on order flags comes.0 end (further later comes.0 lane flag here comes.1) none.1 comes.2
        (carried Phase later comes.0 here a (polled.goes_on name_of query behind (now run).answers run.state.publications later.state (now later) a.named a.stepped phase a.calls a.taken))

    -- the ask behind the poll is answered over what is visible before it
    pub asks_see : (order : List ℕ) (flags : List Outcome) (end : Run) → Here run → NoneFailed flags → Comes name_of (all ∷ []) run order flags end → next_of name_of (all ∷ []) end 0 ≡ None
        → (now run).tasks ≡ task.Poll ∷ task.Ask query ∷ behind → (now run).doing ≡ Begun
        → slice_get (now end).answers (length (now run).answers) ≡ Some (answer_now query run.state)
    asks_see order flags end here none comes ended t d =
        let first = polled.scanning name_of query behind (now run).answers run.state.publications run.state (now run) (now run).held (now run).loaded (as_progress (now run) (task.Poll ∷ task.Ask query ∷ behind) Begun t d) refl in
        let adds : Adds ((now run).answers ++ answer_now query run.state ∷ []) (now end).answers =
        polled.at_end name_of query behind (now run).answers run.state.publications end.state (now end) (polled_on order flags run end here none comes first) (no_task_left end ended) in
        ap (λ (said : List Answered). slice_get said (length (now run).answers)) adds.1 ∙ at_length (now run).answers (answer_now query run.state) adds.0

  -- ---- a build

  module _ (sound : IsSoundOpening name_of opening) (job : Made) (rest : List Task) where
    abbrev Building : State → Progress → Type 0
    Building s p = built.Building below name_of job rest s p

    -- where the build's unit is staged, the lane's lease has it
    staged : (run : Run) → Here run → (b : Building run.state (now run)) → b.so_far ≡ Staged → built.HasStaged below name_of job rest run.state
    staged run here b is =
        let r = below.ready name_of (one_lane steps turns) naming accepted in
        let agrees = below.agrees name_of r.0 (one_lane steps turns) opening here.order here.flags run r.1 here.comes in
        let p : now run ≡ at (task.Build job ∷ rest) Staged b.holds b.has b.told_so = b.is ∙ ap (λ (d : Doing). at (task.Build job ∷ rest) d b.holds b.has b.told_so) is in
        record {
          sound = below.sound name_of (one_lane steps turns) opening here.order here.flags run naming accepted sound here.comes;
          lease = record { names = job.names; put = map (λ (body : Body). body.name) job.bodies; staged = Some job.unit };
          leased = agrees.leases 0 all refl ∙ ap (λ (q : Progress). lease_in q) p;
          is_staged = refl;
        }

    builds_on : (run longer : Run) → Here run → Building run.state (now run) → (a : Added name_of all run Done longer) → built.Next below name_of job rest run.state (now run) a.named a.stepped
    builds_on run longer here b a =
        let r = below.ready name_of (one_lane steps turns) naming accepted in
        let left = below.left name_of r.0 (all ∷ []) run 0 all r.1 refl in
        let ours = subst (λ (p : Progress). AllByRecursion (IsTaskOf name_of r.0 0) p.tasks) b.is left in
        built.builds_on below name_of job rest run.state (now run) ours.0.written b (staged run here b) a.named a.stepped a.calls a.taken

  -- ---- the files of a build under way

  -- where a build is under way, the files that it has put stand
  abbrev FilesAt : Files → List Task → Doing → Type 0
  FilesAt records [] doing = Unit {0}
  FilesAt records (task.Build job ∷ rest) doing = built.FilesStand below name_of job rest records doing
  FilesAt records (task.Remove output ∷ rest) doing = Unit {0}
  FilesAt records (task.Poll ∷ rest) doing = Unit {0}
  FilesAt records (task.Refresh ∷ rest) doing = Unit {0}
  FilesAt records (task.Ask query ∷ rest) doing = Unit {0}
  FilesAt records (task.Release ∷ rest) doing = Unit {0}
  FilesAt records (task.Collect ∷ rest) doing = Unit {0}

  begun_files : (records : Files) (tasks : List Task) → FilesAt records tasks Begun
  begun_files records [] = tt
  begun_files records (task.Build job ∷ rest) = tt
  begun_files records (task.Remove output ∷ rest) = tt
  begun_files records (task.Poll ∷ rest) = tt
  begun_files records (task.Refresh ∷ rest) = tt
  begun_files records (task.Ask query ∷ rest) = tt
  begun_files records (task.Release ∷ rest) = tt
  begun_files records (task.Collect ∷ rest) = tt

  abbrev FilesOf : State → Progress → Type 0
  FilesOf s p = FilesAt s.records p.tasks p.doing

  settled_files : (s : State) (seen : ℕ → Units) (q : Progress) → FilesOf s q → FilesOf s (settled seen q)
  settled_files s seen q f = settled_keeps (λ tasks doing answers. FilesAt s.records tasks doing) (λ query tasks doing answers one b. begun_files s.records tasks) seen q f

  -- an event of another task
  other_files : (s : State) (seen : ℕ → Units) (p : Progress) (event : Event) (tasks : List Task) → p.tasks ≡ tasks → ((doing : Doing) → FilesAt s.records tasks doing) → FilesOf s (after_event seen p event)
  other_files s seen p event tasks is any =
      let q = told event.outcome (noted event p) in
      settled_files s seen q (by_tasks q (goes_told event p.tasks p.doing p.held p.loaded p.answers).tasks)
    where
      by_tasks : (q : Progress) → (q.tasks ≡ p.tasks) ⊎ ((q.tasks ≡ drop 1 p.tasks) × (q.doing ≡ Begun)) → FilesOf s q
      by_tasks q (inl same) = subst (λ (ts : List Task). FilesAt s.records ts q.doing) (sym (same ∙ is)) (any q.doing)
      by_tasks q (inr next) = subst (λ (d : Doing). FilesAt s.records q.tasks d) (sym next.1) (begun_files s.records q.tasks)

  module _ (sound : IsSoundOpening name_of opening) (run longer : Run) (here : Here run) (a : Added name_of all run Done longer) where
    abbrev made : Event
    made = shown name_of run a.named a.stepped

    build_files : (job : Made) (rest : List Task) → built.Next below name_of job rest run.state (now run) a.named a.stepped → FilesOf a.stepped.state (after_event (seen_at a.stepped.state) (now run) made)
    build_files job rest (inl b) = subst (FilesOf a.stepped.state) (sym b.is) b.stand
    build_files job rest (inr over) =
        subst (FilesOf a.stepped.state) (sym over.left)
        (settled_files a.stepped.state (seen_at a.stepped.state) (at rest Begun over.holds over.has over.told_so) (begun_files a.stepped.state.records rest))

    files_on : (tasks : List Task) → (now run).tasks ≡ tasks → FilesOf run.state (now run) → FilesOf a.stepped.state (after_event (seen_at a.stepped.state) (now run) made)
    files_on [] is f = other_files a.stepped.state (seen_at a.stepped.state) (now run) made [] is (λ doing. tt)
    files_on (task.Build job ∷ rest) is f =
        build_files job rest (builds_on sound job rest run longer here (record {
          so_far = (now run).doing;
          holds = (now run).held;
          has = (now run).loaded;
          told_so = (now run).answers;
          is = as_progress (now run) (task.Build job ∷ rest) (now run).doing is refl;
          stand = subst (λ (ts : List Task). FilesAt run.state.records ts (now run).doing) is f;
        }) a)
    files_on (task.Remove output ∷ rest) is f = other_files a.stepped.state (seen_at a.stepped.state) (now run) made (task.Remove output ∷ rest) is (λ doing. tt)
    files_on (task.Poll ∷ rest) is f = other_files a.stepped.state (seen_at a.stepped.state) (now run) made (task.Poll ∷ rest) is (λ doing. tt)
    files_on (task.Refresh ∷ rest) is f = other_files a.stepped.state (seen_at a.stepped.state) (now run) made (task.Refresh ∷ rest) is (λ doing. tt)
    files_on (task.Ask query ∷ rest) is f = other_files a.stepped.state (seen_at a.stepped.state) (now run) made (task.Ask query ∷ rest) is (λ doing. tt)
    files_on (task.Release ∷ rest) is f = other_files a.stepped.state (seen_at a.stepped.state) (now run) made (task.Release ∷ rest) is (λ doing. tt)
    files_on (task.Collect ∷ rest) is f = other_files a.stepped.state (seen_at a.stepped.state) (now run) made (task.Collect ∷ rest) is (λ doing. tt)

    files_kept : FilesOf run.state (now run) → FilesOf longer.state (now longer)
    files_kept f = carried FilesOf run longer here a (files_on (now run).tasks refl f)

  files_along : IsSoundOpening name_of opening → (order : List ℕ) (flags : List Outcome) (run end : Run) → Here run → NoneFailed flags → Comes name_of (all ∷ []) run order flags end
      → FilesOf run.state (now run) → FilesOf end.state (now end)
  files_along sound [] [] run end here none comes f = subst (λ (r : Run). FilesOf r.state (now r)) comes f
  files_along sound [] (flag ∷ flags) run end here none comes f = absurd comes
  files_along sound (lane ∷ order) [] run end here none comes f = absurd comes
  files_along sound (lane ∷ order) (flag ∷ flags) run end here none comes f =
      files_along sound order flags comes.0 end (further run comes.0 lane flag here comes.1) none.1 comes.2
      (files_kept sound run comes.0 here (plainly run comes.0 lane flag none.0 comes.1) f)

  abbrev pub start : Run
  start = fresh name_of (one_lane steps turns) opening

  files_now : IsSoundOpening name_of opening → (order : List ℕ) (flags : List Outcome) (run : Run) → NoneFailed flags → Comes name_of (all ∷ []) start order flags run → FilesOf run.state (now run)
  files_now sound order flags run none comes =
      files_along sound order flags start run (record { order = []; flags = []; comes = refl }) none comes
      (settled_files start.state (seen_at start.state) (begun all) (begun_files start.state.records all))

  -- a publish that doesn't clash makes the build's unit visible
  pub published : IsSoundOpening name_of opening → (order : List ℕ) (flags : List Outcome) (run longer : Run) (lane : ℕ) (event : Event) (job : Made) (rest : List Task) → NoneFailed flags
      → Comes name_of (all ∷ []) start order flags run → extended name_of (all ∷ []) run lane Done ≡ Some longer → longer.events ≡ run.events ++ event ∷ []
      → (now run).tasks ≡ task.Build job ∷ rest → (now run).doing ≡ Staged → event.outcome ≢ Clash → HaveBuilt name_of job (visible longer.state)
  published sound order flags run longer lane event job rest none comes e shows t d apart =
      let here : Here run = record { order = order; flags = flags; comes = comes } in
      let a = added name_of all run Done longer lane e in
      let p : now run ≡ at (task.Build job ∷ rest) Staged (now run).held (now run).loaded (now run).answers = as_progress (now run) (task.Build job ∷ rest) Staged t d in
      let f = subst (FilesOf run.state) p (files_now sound order flags run none comes) in
      let b : built.Building below name_of job rest run.state (now run) = record { so_far = Staged; holds = (now run).held; has = (now run).loaded; told_so = (now run).answers; is = p; stand = f } in
      let r = below.ready name_of (one_lane steps turns) naming accepted in
      let ours = subst (λ (q : Progress). AllByRecursion (IsTaskOf name_of r.0 0) q.tasks) p (below.left name_of r.0 (all ∷ []) run 0 all r.1 refl) in
      let known = staged sound job rest run here b refl in
      let calls : Some given.Publish ≡ Some a.named = sym (ap (λ (q : Progress). next_call (seen_at run.state) run.state.current q) p) ∙ a.calls in
      let publish = some_same given.Publish a.named calls in
      let taken = subst (λ (g : Given). step name_of run.state 0 g Done ≡ Some a.stepped) (sym publish) a.taken in
      let same = append_cancel_left run.events (event ∷ []) (shown name_of run a.named a.stepped ∷ []) (sym shows ∙ event_shown name_of all run longer Done a) in
      let outcome = ap (λ (x : Event). x.outcome) (one_cell event (shown name_of run a.named a.stepped) same) in
      subst (λ (t : State). HaveBuilt name_of job (visible t)) (ap (λ (x : Run). x.state) a.is)
      (built.has_built below name_of job rest run.state f ours.0.written known a.stepped taken (λ c. apart (outcome ∙ c)))

  -- ---- a build, a poll and an ask

  why_built : (job : Made) (shown_call : Call) (outcome : Outcome) (t : State) → (outcome ≡ Clash) ⊎ ((shown_call ≡ call.Publish (name_of job.unit.output)) × (outcome ≡ Synced) × HaveBuilt name_of job (visible t))
      → (outcome ≡ Clash) ⊎ ((◌≡◌ {A = Event} (record { lane = 0; call = shown_call; outcome = outcome }) (record { lane = 0; call = call.Publish (name_of job.unit.output); outcome = Synced })) × HaveBuilt name_of job (visible t))
  why_built job shown_call outcome t (inl clash) = inl clash
  why_built job shown_call outcome t (inr made) = inr ((λ i. record { lane = 0; call = made.0 i; outcome = made.1 i }), made.2)

  module _ (sound : IsSoundOpening name_of opening) (job : Made) (query : Query) (behind front : List Task) (split : all ≡ front ++ task.Build job ∷ task.Poll ∷ task.Ask query ∷ behind) where
    abbrev left : List Task
    left = task.Poll ∷ task.Ask query ∷ behind

    abbrev pub Sees : Run → Type 0
    Sees end = AsksSeeBuild name_of all start end job query behind (length (asks_of front))

    abbrev Walking : Run → Type 0
    Walking run = Ahead job left (now run).tasks (now run).doing ⊎ built.Building below name_of job left run.state (now run)

    abbrev Over : Run → Given → Stepped → State → Progress → Type 0
    Over run g t s q = built.IsOver below name_of job left (call_of name_of run.state 0 g) s t.outcome q

    tasks_left : (run : Run) → Walking run → (now run).tasks ≡ [] → ⊥
    tasks_left run (inl ahead) none = by_front ahead.front ahead.is
      where
        by_front : (first : List Task) → (now run).tasks ≡ first ++ task.Build job ∷ left → ⊥
        by_front [] is = no_cell (now run).tasks (task.Build job) left is none
        by_front (t ∷ ts) is = no_cell (now run).tasks t (ts ++ task.Build job ∷ left) is none
    tasks_left run (inr b) none = no_cell (now run).tasks (task.Build job) left (ap (λ (p : Progress). p.tasks) b.is) none

    module _ (run longer end : Run) (lane : ℕ) (order : List ℕ) (flags : List Outcome) (here : Here run) (there : Here longer) (e : extended name_of (all ∷ []) run lane Done ≡ Some longer)
        (none : NoneFailed flags) (comes : Comes name_of (all ∷ []) longer order flags end) (ended : next_of name_of (all ∷ []) end 0 ≡ None) (a : Added name_of all run Done longer) where
      seen_behind : (b : built.Building below name_of job left run.state (now run)) → Over run a.named a.stepped longer.state (now longer) → Sees end
      seen_behind b over =
          let event = shown name_of run a.named a.stepped in
          let more = grows name_of all order flags longer end comes in
          let is : now longer ≡ at left Begun over.holds over.has over.told_so = over.left in
          let asked = asks_before (seen_at longer.state) all front job query behind (now longer).answers (now longer).tasks split (ap (λ (p : Progress). p.tasks) is)
          (below.answered (seen_at longer.state) all (own_events 0 longer.events)) in
          record {
            before = run.events;
            event = event;
            after = more.0;
            events = more.1 ∙ (ap (λ (es : List Event). es ++ more.0) (event_shown name_of all run longer Done a) ∙ append_assoc run.events (event ∷ []) more.0);
            moment = record {
              order = here.order;
              flags = here.flags;
              earlier = run;
              comes = here.comes;
              events = refl;
              lane = lane;
              flag = Done;
              longer = longer;
              goes_on = e;
              shows = event_shown name_of all run longer Done a;
            };
            building = ap (λ (p : Progress). p.tasks) b.is;
            polling = ap (λ (p : Progress). p.tasks) is;
            built = why_built job (call_of name_of run.state 0 a.named) a.stepped.outcome longer.state over.why;
            answers = subst (λ (n : ℕ). slice_get (now end).answers n ≡ Some (answer_now query longer.state)) asked
                (asks_see query behind longer order flags end there none comes ended (ap (λ (p : Progress). p.tasks) is) (ap (λ (p : Progress). p.doing) is));
          }

      module _ (on : Walking longer → Sees end) where
        by_next : (b : built.Building below name_of job left run.state (now run)) → built.Next below name_of job left run.state (now run) a.named a.stepped → Sees end
        by_next b (inl next) = on (inr (carried (built.Building below name_of job left) run longer here a next))
        by_next b (inr over) = seen_behind b (carried (Over run a.named a.stepped) run longer here a over)

        from_build : built.Building below name_of job left run.state (now run) → Sees end
        from_build b = by_next b (builds_on sound job left run longer here b a)

        from_front : (first : List Task) → (now run).tasks ≡ first ++ task.Build job ∷ left → (first ≡ [] → (now run).doing ≡ Begun) → Sees end
        from_front [] is begins = from_build (record {
          so_far = Begun;
          holds = (now run).held;
          has = (now run).loaded;
          told_so = (now run).answers;
          is = as_progress (now run) (task.Build job ∷ left) Begun is (begins refl);
          stand = tt;
        })
        from_front (t ∷ ts) is begins =
            on (inl (carried (λ (s : State) (p : Progress). Ahead job left p.tasks p.doing) run longer here a
            (event_ahead job left (seen_at a.stepped.state) (now run) (shown name_of run a.named a.stepped) t ts is)))

        step_on : Walking run → Sees end
        step_on (inl ahead) = from_front ahead.front ahead.is ahead.begun
        step_on (inr b) = from_build b

    walks : (order : List ℕ) (flags : List Outcome) (run end : Run) → Here run → NoneFailed flags → Comes name_of (all ∷ []) run order flags end → next_of name_of (all ∷ []) end 0 ≡ None
        → Walking run → Sees end
    walks [] [] run end here none comes ended w = absurd (tasks_left run w (subst (λ (r : Run). (now r).tasks ≡ []) (sym comes) (no_task_left end ended)))
    walks [] (flag ∷ flags) run end here none comes ended w = absurd comes
    walks (lane ∷ order) [] run end here none comes ended w = absurd comes
    walks (lane ∷ order) (flag ∷ flags) run end here none comes ended w =
        let e = subst (λ (f : Outcome). extended name_of (all ∷ []) run lane f ≡ Some comes.0) none.0 comes.1 in
        let there = further run comes.0 lane flag here comes.1 in
        step_on run comes.0 end lane order flags here there e none.1 comes.2 ended (plainly run comes.0 lane flag none.0 comes.1) (λ w2. walks order flags comes.0 end there none.1 comes.2 ended w2) w

    pub of_run : (order : List ℕ) (flags : List Outcome) (run : Run) → NoneFailed flags → Comes name_of (all ∷ []) start order flags run → next_of name_of (all ∷ []) run 0 ≡ None → Sees run
    of_run order flags run none comes ended =
        walks order flags start run (record { order = []; flags = []; comes = refl }) none comes ended
        (inl (settled_ahead job left (seen_at start.state) (begun all) (record { front = front; is = split; begun = λ n. refl })))
