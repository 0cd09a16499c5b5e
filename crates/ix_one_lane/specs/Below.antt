-- The laws of crates below that the laws here stand on.
use Rattle.std.specs.Prelude.{◌≡◌, ◌≢◌, ℕ, ◌<◌, List, [], ◌∷◌, ◌++◌, length, slice_get, Some, None, is_some}
use Rattle.std.specs.List.{AllByRecursion}
use Rattle.std.specs.Map.{lookup}
use Rattle.std.specs.BTreeMap.{is_at}
use Rattle.ix_types.specs.Name.{IsFileName}
use Rattle.ix_types.specs.Row.{text_cmp}
use Rattle.ix_record.specs.declared.body.Body.{Body}
use Rattle.ix_record.specs.declared.value.RecordValue.{RecordValue}
use Rattle.ix_unit.specs.declared.value.UnitValue.{UnitValue}
use Rattle.ix_plan.specs.declared.plan.Script.{Script}
use Rattle.ix_plan.specs.Keeps.{IsAccepted}
use Rattle.ix_model.specs.declared.publication.Publication.{Publication}
use Rattle.ix_model.specs.declared.publication.Publication.TheVariants as model
use Rattle.ix_model.specs.declared.publication.StoredUnit.{StoredUnit}
use Rattle.ix_model.specs.Units.{Units, unit_named, units_after_last}
use Rattle.ix_machine.specs.declared.event.Event.{Event}
use Rattle.ix_machine.specs.declared.event.Outcome.{Outcome}
use Rattle.ix_machine.specs.declared.event.Outcome.TheVariants.{Done, Clash}
use Rattle.ix_machine.specs.Given.{Given, Put, Publish}
use Rattle.ix_machine.specs.Needs.{seen_at}
use Rattle.ix_machine.specs.Run.{IsSoundOpening, Opening}
use Rattle.ix_machine.specs.Sound.{IsSound, ValuesStand}
use Rattle.ix_machine.specs.State.{State, lease_of}
use Rattle.ix_machine.specs.State as state
use Rattle.ix_machine.specs.Step.{Stepped, step}
use Rattle.ix_lanes.specs.Laws.{AreAnswersTo, asks_of}
use Rattle.ix_lanes.specs.Calls.{next_call}
use Rattle.ix_lanes.specs.Progress.{after_event, progress_after}
use Rattle.ix_lanes.specs.Tasks.{Task}
use Rattle.ix_replays.specs.Laws.{RunFits}
use Rattle.ix_replays.specs.Run.{Run, call_of, fresh, has_call, lanes_of, next_of, progress_of, run_of, with_event}
use Rattle.ix_allowed.specs.Agree.{AreTasksOf, IsTaskOf, LanesAgree}
use Rattle.ix_allowed.specs.Laws.{Comes}

pub record Below : Type 0 where
  pub latest : (earlier : List Publication) (name : List ℕ) (unit : StoredUnit) → unit_named name (units_after_last earlier (model.Put name unit)) ≡ Some unit
  pub put_stands : (name_of : List ℕ → List ℕ) (s : State) (lane : ℕ) (body : Body) (stepped : Stepped) → step name_of s lane (Put body) Done ≡ Some stepped → stepped.outcome ≢ Clash
      → lookup (is_at (text_cmp body.name)) stepped.state.records ≡ Some body.bytes
  pub put_others : (name_of : List ℕ → List ℕ) (s : State) (lane : ℕ) (body : Body) (flag : Outcome) (stepped : Stepped) (other : List ℕ) → step name_of s lane (Put body) flag ≡ Some stepped
      → body.name ≢ other → lookup (is_at (text_cmp other)) stepped.state.records ≡ lookup (is_at (text_cmp other)) s.records
  pub published : (name_of : List ℕ → List ℕ) (s : State) (lane : ℕ) (lease : state.Lease) (unit : UnitValue) (stepped : Stepped) → IsSound name_of s → lease_of s lane ≡ Some lease
      → lease.staged ≡ Some unit → step name_of s lane Publish Done ≡ Some stepped → stepped.outcome ≢ Clash
      → (values : List RecordValue) × (stepped.state.publications ≡ s.publications ++ model.Put (name_of unit.output) (record { unit = unit; values = values }) ∷ []) × ValuesStand name_of s.records unit.records values
  pub answered : (seen : ℕ → Units) (tasks : List Task) (events : List Event) → AreAnswersTo seen (asks_of tasks) (progress_after seen tasks events).answers (progress_after seen tasks events).tasks
  pub own : (name_of : List ℕ → List ℕ) (lanes : List (List Task)) (run : Run) (lane : ℕ) (tasks : List Task) (given : Given) (flag : Outcome) (stepped : Stepped) → RunFits run
      → slice_get lanes lane ≡ Some tasks → next_call (seen_at run.state) run.state.current (progress_of run lane tasks) ≡ Some given
      → step name_of run.state lane given flag ≡ Some stepped
      → progress_of (with_event name_of run lane given stepped) lane tasks ≡ after_event (seen_at stepped.state) (progress_of run lane tasks) (record { lane = lane; call = call_of name_of run.state lane given; outcome = stepped.outcome })
  pub ended : (name_of : List ℕ → List ℕ) (script : Script) (opening : Opening) (order : List ℕ) (flags : List Outcome) (run : Run) (lane : ℕ) → run_of name_of script opening order flags ≡ Some run
      → lane < length (lanes_of name_of script) → next_of name_of (lanes_of name_of script) run lane ≡ None
  pub calls : (name_of : List ℕ → List ℕ) (lanes : List (List Task)) (run : Run) (lane : ℕ) (tasks : List Task) → slice_get lanes lane ≡ Some tasks
      → has_call name_of lanes run lane ≡ is_some (slice_get (progress_of run lane tasks).tasks 0)
  pub ready : (name_of : List ℕ → List ℕ) (script : Script) → ((bytes : List ℕ) → IsFileName (name_of bytes)) → IsAccepted script → (poller : ℕ) × AreTasksOf name_of poller (lanes_of name_of script)
  pub comes : (name_of : List ℕ → List ℕ) (script : Script) (opening : Opening) (order : List ℕ) (flags : List Outcome) (run : Run) → run_of name_of script opening order flags ≡ Some run
      → Comes name_of (lanes_of name_of script) (fresh name_of script opening) order flags run
  pub agrees : (name_of : List ℕ → List ℕ) (poller : ℕ) (script : Script) (opening : Opening) (order : List ℕ) (flags : List Outcome) (run : Run) → AreTasksOf name_of poller (lanes_of name_of script)
      → Comes name_of (lanes_of name_of script) (fresh name_of script opening) order flags run → LanesAgree poller (lanes_of name_of script) run
  pub left : (name_of : List ℕ → List ℕ) (poller : ℕ) (lanes : List (List Task)) (run : Run) (lane : ℕ) (tasks : List Task) → AreTasksOf name_of poller lanes
      → slice_get lanes lane ≡ Some tasks → AllByRecursion (IsTaskOf name_of poller lane) (progress_of run lane tasks).tasks
  pub sound : (name_of : List ℕ → List ℕ) (script : Script) (opening : Opening) (order : List ℕ) (flags : List Outcome) (run : Run) → ((bytes : List ℕ) → IsFileName (name_of bytes)) → IsAccepted script
      → IsSoundOpening name_of opening → Comes name_of (lanes_of name_of script) (fresh name_of script opening) order flags run → IsSound name_of run.state
