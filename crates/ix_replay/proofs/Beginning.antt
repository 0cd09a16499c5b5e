-- Before its first event a run's lanes are begun, and hold nothing.
use Rattle.std.proofs.Common.{◌≡◌, ◌∙◌, ℕ, List, [], ◌∷◌, Option, Some, None, length, map, slice_get, unwrap_or, option_map, option_and_then, refl, ap, sym, subst}
use Rattle.std.specs.List.{AllByRecursion}
use Rattle.std.proofs.lemmas.List.{length-map}
use Rattle.std.proofs.lemmas.Option.{slice_get-map}
use Rattle.ix_dir.specs.State.{DirState}
use Rattle.ix_shelf.specs.Shelf.{OnShelf}
use Rattle.ix_model.specs.Units.{Units}
use Rattle.ix_machine.specs.Needs.{seen_at}
use Rattle.ix_machine.specs.Run as machine
use Rattle.ix_machine.specs.Run.{Opening}
use Rattle.ix_plan.specs.declared.plan.Script.{Script}
use Rattle.ix_ledger.specs.Books.{Books}
use Rattle.ix_import.specs.Importing.{Importing}
use Rattle.ix_library.specs.declared.known.KnownStamps.{KnownStamps}
use Rattle.ix_library.specs.StandsFor.{StandsFor}
use Rattle.ix_lanes.specs.declared.doing.Doing.{Doing}
use Rattle.ix_lanes.specs.declared.doing.Doing.TheVariants.{Begun}
use Rattle.ix_lanes.specs.declared.answered.AskResult.{AskResult}
use Rattle.ix_lanes.specs.Progress.{Progress, answered, begun, ended_at, settled, settled_over}
use Rattle.ix_lanes.specs.Tasks.{Task, tasks_of, Build, Remove, Poll, Refresh, Ask, Release, Collect}
use Rattle.ix_lanes.specs.Views.{Under}
use Rattle.ix_replays.specs.Run.{fresh, lanes_of}
use Rattle.ix_seats.specs.Seated.{Seated}
use Rattle.ix_seats.specs.Seats.{IsSeat}
use Rattle.ix_polls.specs.Following.{IsImporting, IsUnderWay}
use Rattle.ix_allowed.specs.Agree.{AreTasksOf, LanesAgree}
use Rattle.ix_replay.specs.Runs.{IsRun}
use Rattle.ix_replay.proofs.Lists.{all_each, at_place}

-- answers of asks leave a lane at the beginning of a task
after_an_ask : (seen : ℕ → Units) (tasks : List Task) (p : Progress) (o : Option AskResult) → p.doing ≡ Begun → ((ended : AskResult) → (settled_over seen tasks (answered ended p)).doing ≡ Begun)
    → (unwrap_or (option_map (λ ended. settled_over seen tasks (answered ended p)) o) p).doing ≡ Begun
after_an_ask seen tasks p None so rest = so
after_an_ask seen tasks p (Some ended) so rest = rest ended

settled_begun : (seen : ℕ → Units) (tasks : List Task) (p : Progress) → p.doing ≡ Begun → (settled_over seen tasks p).doing ≡ Begun
settled_begun seen [] p so = so
settled_begun seen (Build job ∷ tasks) p so = so
settled_begun seen (Remove output ∷ tasks) p so = so
settled_begun seen (Poll ∷ tasks) p so = so
settled_begun seen (Refresh ∷ tasks) p so = so
settled_begun seen (Ask query ∷ tasks) p so = after_an_ask seen tasks p (ended_at seen query p.held p.loaded) so (λ ended. settled_begun seen tasks (answered ended p) refl)
settled_begun seen (Release ∷ tasks) p so = so
settled_begun seen (Collect ∷ tasks) p so = so

-- what is held at a place
held_there : Option Progress → Option ℕ
held_there o = option_and_then (λ (p : Progress). p.held) o

none_held : (o : Option (List Task)) → held_there (option_map begun o) ≡ None
unfolding held_there
none_held None = refl
none_held (Some tasks) = refl

-- lanes that are begun
module _ (lanes : List Under) (tasks : List (List Task)) (are : map (λ (lane : Under). lane.progress) lanes ≡ map begun tasks) where
  shown : (k : ℕ) (lane : Under) → slice_get lanes k ≡ Some lane → Some lane.progress ≡ option_map begun (slice_get tasks k)
  shown k lane there =
      sym (slice_get-map (λ (l : Under). l.progress) lanes k ∙ ap (option_map (λ (l : Under). l.progress)) there) ∙ (ap (λ (ps : List Progress). slice_get ps k) are ∙ slice_get-map begun tasks k)

  pub all_idle : AllByRecursion (λ (lane : Under). lane.progress.held ≡ None) lanes
  unfolding held_there
  all_idle = all_each (λ (lane : Under). lane.progress.held ≡ None) lanes (λ k lane there. ap held_there (shown k lane there) ∙ none_held (slice_get tasks k))

  pub as_many : length lanes ≡ length tasks
  as_many = sym (length-map lanes (λ (l : Under). l.progress)) ∙ (ap length are ∙ length-map tasks begun)

  pub is_begun : (k : ℕ) (own : List Task) (lane : Under) → slice_get tasks k ≡ Some own → slice_get lanes k ≡ Some lane → lane.progress ≡ begun own
  is_begun k own lane there lane_there = ap (λ (o : Option Progress). unwrap_or o lane.progress) (shown k lane lane_there ∙ ap (option_map begun) there)

-- a script's lanes are as many as its lists of steps
pub lanes_counted : (name_of : List ℕ → List ℕ) (script : Script) (lanes : List Under) → map (λ (lane : Under). lane.progress) lanes ≡ map begun (lanes_of name_of script) → length lanes ≡ length script.lanes
lanes_counted name_of script lanes are = as_many lanes (lanes_of name_of script) are ∙ length-map script.lanes (tasks_of name_of)

-- the run of a script with no event, of lanes that are begun in their seats
module _ (name_of : List ℕ → List ℕ) (script : Script) (opening : Opening) where
  pub run_begins : (poller : ℕ) (books : Books) (shelf : OnShelf) (known : KnownStamps) (dir : DirState) (importer : Importing) (lanes : List Under) (seats : List Seated)
      → AreTasksOf name_of poller (lanes_of name_of script) → LanesAgree poller (lanes_of name_of script) (fresh name_of script opening)
      → StandsFor name_of (machine.begun opening (length script.lanes)) books.kept shelf known dir → books.events ≡ []
      → IsImporting (machine.begun opening (length script.lanes)) importer → map (λ (lane : Under). lane.progress) lanes ≡ map begun (lanes_of name_of script)
      → map (λ (seat : Seated). seat.lane) seats ≡ lanes
      → (AllByRecursion (λ (lane : Under). lane.progress.held ≡ None) lanes → AllByRecursion (IsSeat (seen_at (machine.begun opening (length script.lanes)))) seats)
      → IsRun name_of (lanes_of name_of script) (fresh name_of script opening) books shelf known dir importer seats
  run_begins poller books shelf known dir importer lanes seats tasks agrees stands none follows are own sit =
      let start = machine.begun opening (length script.lanes) in
      let sits = sit (all_idle lanes (lanes_of name_of script) are) in
      record {
        poller = poller;
        tasks = tasks;
        agrees = agrees;
        stands = stands;
        events = none;
        imports = follows;
        count = sym (length-map seats (λ (seat : Seated). seat.lane)) ∙ (ap length own ∙ as_many lanes (lanes_of name_of script) are);
        seated = λ lane mine seat there seated.
            let at : slice_get lanes lane ≡ Some seat.lane = sym (ap (λ (ls : List Under). slice_get ls lane) own) ∙ (slice_get-map (λ (s : Seated). s.lane) seats lane ∙ ap (option_map (λ (s : Seated). s.lane)) seated) in
            let same : seat.lane.progress ≡ begun mine = is_begun lanes (lanes_of name_of script) are lane mine seat.lane there at in
            record {
              sits = at_place (IsSeat (seen_at start)) seats lane seat sits seated;
              progress = ap (settled (seen_at start)) same;
              way = subst (λ (doing : Doing). IsUnderWay start lane doing importer) (sym (settled_begun (seen_at start) mine (begun mine) refl)) tt;
            };
      }
