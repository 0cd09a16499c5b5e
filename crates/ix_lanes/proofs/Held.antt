-- What a lane holds after an event, and that it depends on no other mark than those that its events name.
use Rattle.std.proofs.Common.{◌≡◌, inl, inr, ℕ, true, false, if◌then◌else◌, List, [], ◌∷◌, Option, Some, None, IfSome, is_none, unwrap_or, option_map, fold, refl, sym, ap, ◌∙◌, subst}
use Rattle.ix_types.specs.declared.row.Query.{Query}
use Rattle.ix_model.specs.Units.{Units}
use Rattle.ix_answers.specs.Answers.{answer}
use Rattle.ix_answers.specs.Needs.{next_need}
use Rattle.ix_machine.specs.declared.event.Event.{Event}
use Rattle.ix_machine.specs.declared.event.Outcome.{Outcome}
use Rattle.ix_machine.specs.declared.event.Outcome.TheVariants.{Done, Written, Shared, Clash, Synced, Unsynced, NoUnit, At, Removed, Nothing, Fault, Lost, Damaged}
use Rattle.ix_lanes.specs.declared.answered.AskResult.{AskResult}
use Rattle.ix_lanes.specs.declared.answered.AskResult.TheVariants as result
use Rattle.ix_lanes.specs.declared.doing.Doing.{Doing}
use Rattle.ix_lanes.specs.declared.doing.Doing.TheVariants.{Begun, Putting, Staged, Importing}
use Rattle.ix_lanes.specs.declared.doing.Kind.{Kind}
use Rattle.ix_lanes.specs.declared.doing.Kind.TheVariants as kind
use Rattle.ix_lanes.specs.Tasks.{Task, Build, Remove, Poll, Refresh, Ask, Release, Collect, kind_of}
use Rattle.ix_lanes.specs.Progress.{Progress, told, told_by, goes_on, build_goes_on, scanned, imported, poll_told, adopted, ask_told, answered, settled, settled_over, ended_at, noted, with_some, is_asking, loaded_by, after_event, progress_after, begun}
use Rattle.ix_machine.specs.Outcomes.{is_done}
use Rattle.ix_lanes.specs.Laws.{IsHeldAfter, AgreeAt}

stays : (next : Option Doing) (p : Progress) → (goes_on next p).held ≡ p.held
stays None p = refl
stays (Some doing) p = refl

imports : (doing : Doing) (p : Progress) → (imported doing p).held ≡ p.held
imports Begun p = refl
imports (Putting files) p = refl
imports Staged p = refl
imports (Importing mark records) p = refl

scans : (mark : ℕ) (doing : Doing) (p : Progress) → IsHeldAfter (At mark) p.held (scanned mark doing p).held
scans mark Begun p = inl refl
scans mark (Putting files) p = inl refl
scans mark Staged p = inl refl
scans mark (Importing opened records) p = inr (inr (mark, refl, refl))

poll_held : (outcome : Outcome) (p : Progress) → IsHeldAfter outcome p.held (poll_told outcome p).held
poll_held Done p = inl (imports p.doing p)
poll_held Written p = inl refl
poll_held Shared p = inl refl
poll_held Clash p = inl refl
poll_held Synced p = inl refl
poll_held Unsynced p = inl refl
poll_held NoUnit p = inl refl
poll_held (At mark) p = scans mark p.doing p
poll_held (Removed name) p = inl refl
poll_held Nothing p = inl refl
poll_held Fault p = inl refl
poll_held (Lost name) p = inl refl
poll_held (Damaged name) p = inl refl

adopt_held : (outcome : Outcome) (p : Progress) → IsHeldAfter outcome p.held (adopted outcome p).held
adopt_held Done p = inl refl
adopt_held Written p = inl refl
adopt_held Shared p = inl refl
adopt_held Clash p = inl refl
adopt_held Synced p = inl refl
adopt_held Unsynced p = inl refl
adopt_held NoUnit p = inl refl
adopt_held (At mark) p = inr (inr (mark, refl, refl))
adopt_held (Removed name) p = inl refl
adopt_held Nothing p = inl refl
adopt_held Fault p = inl refl
adopt_held (Lost name) p = inl refl
adopt_held (Damaged name) p = inl refl

ask_held : (outcome : Outcome) (p : Progress) → (ask_told outcome p).held ≡ p.held
ask_held Done p = refl
ask_held Written p = refl
ask_held Shared p = refl
ask_held Clash p = refl
ask_held Synced p = refl
ask_held Unsynced p = refl
ask_held NoUnit p = refl
ask_held (At mark) p = refl
ask_held (Removed name) p = refl
ask_held Nothing p = refl
ask_held Fault p = refl
ask_held (Lost name) p = refl
ask_held (Damaged name) p = refl

pub held_after : (kind : Kind) (outcome : Outcome) (p : Progress) → IsHeldAfter outcome p.held (told_by kind outcome p).held
held_after kind.Ended outcome p = inl refl
held_after kind.Build outcome p = inl (stays (build_goes_on outcome p.doing) p)
held_after kind.Remove outcome p = inl refl
held_after kind.Poll outcome p = poll_held outcome p
held_after kind.Refresh outcome p = adopt_held outcome p
held_after kind.Ask outcome p = inl (ask_held outcome p)
held_after kind.Release outcome p = inr (inl refl)
held_after kind.Collect outcome p = inl refl

some_held : (name : Option (List ℕ)) (p : Progress) → (with_some name p).held ≡ p.held
some_held None p = refl
some_held (Some name) p = refl

noted_held : (event : Event) (p : Progress) → (noted event p).held ≡ p.held
noted_held event p =
    elim (is_asking p) as (λ b. (if b then (if is_done event.outcome then with_some (loaded_by event.call) p else p) else p).held ≡ p.held) [
      | true ↦ elim (is_done event.outcome) as (λ b. (if b then with_some (loaded_by event.call) p else p).held ≡ p.held) [
        | true ↦ some_held (loaded_by event.call) p
        | false ↦ refl
      ]
      | false ↦ refl
    ]

-- ---- asks that are answered

module _ (seen : ℕ → Units) where
  settled_held : (tasks : List Task) (p : Progress) → (settled_over seen tasks p).held ≡ p.held
  settled_held [] p = refl
  settled_held (Build job ∷ tasks) p = refl
  settled_held (Remove output ∷ tasks) p = refl
  settled_held (Poll ∷ tasks) p = refl
  settled_held (Refresh ∷ tasks) p = refl
  settled_held (Ask query ∷ tasks) p =
      elim (ended_at seen query p.held p.loaded) as (λ o. (unwrap_or (option_map (λ ended. settled_over seen tasks (answered ended p)) o) p).held ≡ p.held) [
        | None ↦ refl
        | Some ended ↦ settled_held tasks (answered ended p)
      ]
  settled_held (Release ∷ tasks) p = refl
  settled_held (Collect ∷ tasks) p = refl

module _ (seen other : ℕ → Units) where
  -- the units at the mark that is held are seen alike
  abbrev Agrees : Option ℕ → Type 0
  Agrees held = IfSome held (λ mark. seen mark ≡ other mark)

  same_end : (query : Query) (held : Option ℕ) (loaded : List (List ℕ)) → Agrees held → ended_at seen query held loaded ≡ ended_at other query held loaded
  same_end query None loaded a = refl
  same_end query (Some mark) loaded a = ap (λ (units : Units). if is_none (next_need query units loaded) then Some (result.Rows (answer query units)) else None) a

  same_settled : (tasks : List Task) (p : Progress) → Agrees p.held → settled_over seen tasks p ≡ settled_over other tasks p
  same_settled [] p a = refl
  same_settled (Build job ∷ tasks) p a = refl
  same_settled (Remove output ∷ tasks) p a = refl
  same_settled (Poll ∷ tasks) p a = refl
  same_settled (Refresh ∷ tasks) p a = refl
  same_settled (Ask query ∷ tasks) p a =
      elim (ended_at seen query p.held p.loaded) as (λ o. unwrap_or (option_map (λ ended. settled_over seen tasks (answered ended p)) o) p ≡ unwrap_or (option_map (λ ended. settled_over other tasks (answered ended p)) o) p) [
        | None ↦ refl
        | Some ended ↦ same_settled tasks (answered ended p) a
      ]
      ∙ ap (λ (o : Option AskResult). unwrap_or (option_map (λ ended. settled_over other tasks (answered ended p)) o) p) (same_end query p.held p.loaded a)
  same_settled (Release ∷ tasks) p a = refl
  same_settled (Collect ∷ tasks) p a = refl

  agrees_after : (outcome : Outcome) (before after : Option ℕ) → IsHeldAfter outcome before after → Agrees before → ((mark : ℕ) → outcome ≡ At mark → seen mark ≡ other mark) → Agrees after
  agrees_after outcome before after (inl e) a at = subst Agrees (sym e) a
  agrees_after outcome before after (inr (inl e)) a at = subst Agrees (sym e) tt
  agrees_after outcome before after (inr (inr m)) a at = subst Agrees (sym m.2) (at m.0 m.1)

  told_agrees : (event : Event) (p : Progress) → Agrees p.held → ((mark : ℕ) → event.outcome ≡ At mark → seen mark ≡ other mark) → Agrees (told event.outcome (noted event p)).held
  told_agrees event p a at =
      let q = noted event p in
      agrees_after event.outcome q.held (told event.outcome q).held (held_after (kind_of q.tasks) event.outcome q) (subst Agrees (sym (noted_held event p)) a) at

  same_after : (events : List Event) (p : Progress) → Agrees p.held → AgreeAt seen other events → fold (after_event seen) p events ≡ fold (after_event other) p events
  same_after [] p a at = refl
  same_after (event ∷ events) p a at =
      let q = told event.outcome (noted event p) in
      let agrees : Agrees q.held = told_agrees event p a at.0 in
      same_after events (settled seen q) (subst Agrees (sym (settled_held seen q.tasks q)) agrees) at.1
      ∙ ap (λ (r : Progress). fold (after_event other) r events) (same_settled q.tasks q agrees)

  pub same_progress : (tasks : List Task) (events : List Event) → AgreeAt seen other events → progress_after seen tasks events ≡ progress_after other tasks events
  same_progress tasks events at =
      same_after events (settled seen (begun tasks)) (subst Agrees (sym (settled_held seen tasks (begun tasks))) tt) at
      ∙ ap (λ (r : Progress). fold (after_event other) r events) (same_settled tasks (begun tasks) tt)
