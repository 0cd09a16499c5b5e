-- What an event more does to the progress of each lane.
use Rattle.std.proofs.Common.{◌≡◌, ◌≢◌, ℕ, ◌≤◌, ◌==◌, true, false, List, [], ◌∷◌, ◌++◌, length, Some, refl, sym, ap, ◌∙◌}
use Rattle.std.proofs.lemmas.Bool.Decides.{Decides-eqb}
use Rattle.ix_model.specs.declared.publication.Publication.{Publication}
use Rattle.ix_model.specs.Units.{Units, units_at}
use Rattle.ix_machine.specs.declared.event.Event.{Event}
use Rattle.ix_machine.specs.declared.event.Outcome.{Outcome}
use Rattle.ix_machine.specs.Needs.{seen_at}
use Rattle.ix_lanes.specs.Laws.{AgreeAt}
use Rattle.ix_lanes.specs.Progress.{after_event, progress_after}
use Rattle.ix_lanes.specs.Tasks.{Task}
use Rattle.ix_replays.specs.Laws.{RunFits}
use Rattle.ix_replays.specs.Run.{Run, call_of, extended, progress_of}
use Rattle.ix_replays.proofs.Runs.{added, next_fits, others_stay, own_goes_on}

apart_false : (a b : ℕ) → a ≢ b → (a == b) ≡ false
apart_false a b apart =
    (elim (a == b) as (λ r. (a == b) ≡ r → (a == b) ≡ false) [
      | true ↦ λ e. absurd (apart ((Decides-eqb a b).0 e))
      | false ↦ λ e. e
    ]) refl

module _ (prefix : (earlier later : List Publication) (n : ℕ) → n ≤ length earlier → units_at (earlier ++ later) n ≡ units_at earlier n)
    (same : (seen other : ℕ → Units) (tasks : List Task) (events : List Event) → AgreeAt seen other events → progress_after seen tasks events ≡ progress_after other tasks events)
    (name_of : List ℕ → List ℕ) (lanes : List (List Task)) (run longer : Run) where
  event_of : (lane : ℕ) (flag : Outcome) → extended name_of lanes run lane flag ≡ Some longer → (event : Event) × (event.lane ≡ lane) × (longer.events ≡ run.events ++ event ∷ [])
  event_of lane flag e =
      let a = added name_of lanes run lane flag longer e in
      (record { lane = lane; call = call_of name_of run.state lane a.given; outcome = a.stepped.outcome }, refl, sym (ap (λ (r : Run). r.events) a.is))

  pub other_lane : (lane other : ℕ) (flag : Outcome) (tasks : List Task) → RunFits run → extended name_of lanes run lane flag ≡ Some longer → lane ≢ other → progress_of longer other tasks ≡ progress_of run other tasks
  other_lane lane other flag tasks fits e apart =
      let ev = event_of lane flag e in
      others_stay prefix same run longer ev.0 fits (next_fits name_of lanes run lane flag longer fits e).falls ev.2 other tasks
      (ap (λ (n : ℕ). n == other) ev.1 ∙ apart_false lane other apart)

  pub own_lane : (lane : ℕ) (flag : Outcome) (tasks : List Task) → RunFits run → extended name_of lanes run lane flag ≡ Some longer
      → (event : Event) × (longer.events ≡ run.events ++ event ∷ []) × (progress_of longer lane tasks ≡ after_event (seen_at longer.state) (progress_of run lane tasks) event)
  own_lane lane flag tasks fits e =
      let ev = event_of lane flag e in
      (ev.0, ev.2, own_goes_on prefix same run longer ev.0 fits (next_fits name_of lanes run lane flag longer fits e).falls ev.2 lane tasks ((Decides-eqb ev.0.lane lane).1 ev.1))
