-- A lane one event further.
use Rattle.std.proofs.Common.{◌≡◌, ℕ, ◌+◌, ◌<◌, ◌==◌, Bool, true, false, if◌then◌else◌, List, [], ◌∷◌, ◌++◌, length, take, get_or, fold, filter, refl, sym, ap, ◌∙◌, subst}
use Rattle.std.proofs.lemmas.List.Elements.{filter-append}
use Rattle.std.proofs.lemmas.List.Sums.{fold-append}
use Rattle.std.proofs.lemmas.List.{take_more}
use Rattle.ix_model.specs.Units.{Units}
use Rattle.ix_machine.specs.declared.event.Event.{Event}
use Rattle.ix_lanes.specs.Progress.{Progress, after_event, begun, progress_after, settled}
use Rattle.ix_lanes.specs.Tasks.{Task}
use Rattle.ix_replays.specs.Run.{own_events}

module _ (seen : ℕ → Units) (tasks : List Task) (lane : ℕ) where
  -- whether the event is its own or another's
  ends_with : (b : Bool) (earlier : List Event) (event : Event) → (event.lane == lane) ≡ b
      → progress_after seen tasks (own_events lane (earlier ++ event ∷ [])) ≡ (if b then after_event seen (progress_after seen tasks (own_events lane earlier)) event else progress_after seen tasks (own_events lane earlier))
  ends_with true earlier event e =
      ap (progress_after seen tasks) (filter-append (λ (each : Event). each.lane == lane) earlier (event ∷ []) ∙ ap (λ (b : Bool). own_events lane earlier ++ (if b then event ∷ [] else [])) e)
      ∙ fold-append (after_event seen) (settled seen (begun tasks)) (own_events lane earlier) (event ∷ [])
  ends_with false earlier event e =
      ap (progress_after seen tasks) (filter-append (λ (each : Event). each.lane == lane) earlier (event ∷ []) ∙ ap (λ (b : Bool). own_events lane earlier ++ (if b then event ∷ [] else [])) e)
      ∙ fold-append (after_event seen) (settled seen (begun tasks)) (own_events lane earlier) []

  pub own_next : (p q : Progress) (events : List Event) (i : ℕ) (d event : Event) → i < length events → event ≡ get_or events i d → event.lane ≡ lane
      → p ≡ progress_after seen tasks (own_events lane (take i events)) → q ≡ after_event seen p event → q ≡ progress_after seen tasks (own_events lane (take (i + 1) events))
  own_next p q events i d event within is own before after =
      after ∙ ap (λ (p : Progress). after_event seen p event) before
      ∙ sym (ends_with true (take i events) event (Rattle.std.proofs.Common.eq-eqb event.lane lane own))
      ∙ ap (λ (xs : List Event). progress_after seen tasks (own_events lane xs)) (ap (λ (e : Event). take i events ++ e ∷ []) is ∙ sym (take_more events i d within))

  pub other_next : (p : Progress) (events : List Event) (i : ℕ) (d event : Event) → i < length events → event ≡ get_or events i d → (event.lane == lane) ≡ false
      → p ≡ progress_after seen tasks (own_events lane (take i events)) → p ≡ progress_after seen tasks (own_events lane (take (i + 1) events))
  other_next p events i d event within is other before =
      before
      ∙ sym (ends_with false (take i events) event other)
      ∙ ap (λ (xs : List Event). progress_after seen tasks (own_events lane xs)) (ap (λ (e : Event). take i events ++ e ∷ []) is ∙ sym (take_more events i d within))
