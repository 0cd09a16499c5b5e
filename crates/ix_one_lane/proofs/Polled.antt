-- A poll and the ask behind it, call after call: the ask is answered over the units that were visible where the poll began.
use Rattle.std.proofs.Common.{◌≡◌, ◌⊎◌, inl, inr, ℕ, suc, if◌then◌else◌, true, false, List, [], ◌∷◌, ◌++◌, length, Option, Some, None, IfSome, is_none, unwrap_or, option_map, option_and_then, slice_get, slice_set, refl, sym, ap, ◌∙◌, subst}
use Rattle.std.proofs.lemmas.List.{append-nil}
use Rattle.ix_types.specs.Row.{text_cmp}
use Rattle.ix_types.specs.declared.row.Query.{Query}
use Rattle.ix_model.specs.declared.publication.Publication.{Publication}
use Rattle.ix_model.specs.SortedSet.{add_once}
use Rattle.ix_model.specs.Units.{units_at}
use Rattle.ix_answers.specs.Answers.{answer}
use Rattle.ix_answers.specs.Needs.{next_need}
use Rattle.ix_machine.specs.declared.event.Event.{Event}
use Rattle.ix_machine.specs.declared.event.Outcome.TheVariants.{Done}
use Rattle.ix_machine.specs.declared.event.Purpose.TheVariants as purpose
use Rattle.ix_machine.specs.Given.{Given}
use Rattle.ix_machine.specs.Given as given
use Rattle.ix_machine.specs.Needs.{seen_at}
use Rattle.ix_machine.specs.State as state
use Rattle.ix_machine.specs.State.{State}
use Rattle.ix_machine.specs.Step.{Stepped, flagged, step, install_import}
use Rattle.ix_lanes.specs.declared.doing.Doing.{Doing}
use Rattle.ix_lanes.specs.declared.doing.Doing.TheVariants.{Begun, Importing}
use Rattle.ix_lanes.specs.declared.answered.Answered.{Answered}
use Rattle.ix_lanes.specs.declared.answered.AskResult.TheVariants.{Rows}
use Rattle.ix_lanes.specs.Tasks.{Task}
use Rattle.ix_lanes.specs.Tasks as task
use Rattle.ix_lanes.specs.Calls.{next_call, fresh_in, load_or_install}
use Rattle.ix_lanes.specs.Progress.{Progress, after_event, answered, settled, settled_over}
use Rattle.ix_replays.specs.Run.{call_of}
use Rattle.ix_one_lane.proofs.Goes.{at, Adds, adds_on, event_adds, settled_adds}

module _ (name_of : List ℕ → List ℕ) (query : Query) (behind : List Task) (earlier : List Answered) (pubs : List Publication) where
  abbrev pub polling : Doing → Option ℕ → List (List ℕ) → Progress
  polling doing held loaded = at (task.Poll ∷ task.Ask query ∷ behind) doing held loaded earlier

  abbrev pub asking : List (List ℕ) → Progress
  asking loaded = at (task.Ask query ∷ behind) Begun (Some (length pubs)) loaded earlier

  abbrev pub opened_at : ℕ → Option state.Import
  opened_at mark = Some (record { lane = 0; mark = mark })

  -- the answer over the units after the publications
  abbrev pub the_answer : Answered
  the_answer = record { mark = Some (length pubs); result = Rows (answer query (units_at pubs (length pubs))) }

  -- before the scan
  pub record Scanning (s : State) (p : Progress) : Type 0 where
    pub holds : Option ℕ
    pub has : List (List ℕ)
    pub is : p ≡ polling Begun holds has
    pub same : s.publications ≡ pubs

  -- its records are loaded
  pub record Loading (s : State) (p : Progress) : Type 0 where
    pub holds : Option ℕ
    pub has : List (List ℕ)
    pub many : ℕ
    pub is : p ≡ polling (Importing (length pubs) many) holds has
    pub same : s.publications ≡ pubs
    pub open_at : s.import ≡ opened_at (length pubs)

  -- the ask is under way
  pub record Asking (s : State) (p : Progress) : Type 0 where
    pub has : List (List ℕ)
    pub is : p ≡ asking has
    pub same : s.publications ≡ pubs

  -- behind the ask there is its answer, and maybe more
  abbrev pub Answers : Progress → Type 0
  Answers p = Adds (earlier ++ the_answer ∷ []) p.answers

  abbrev pub Phase : State → Progress → Type 0
  Phase s p = Scanning s p ⊎ (Loading s p ⊎ (Asking s p ⊎ Answers p))

  pub scanning : (s : State) (p : Progress) (holds : Option ℕ) (has : List (List ℕ)) → p ≡ polling Begun holds has → s.publications ≡ pubs → Phase s p
  scanning s p holds has is same = inl (record { holds = holds; has = has; is = is; same = same })

  -- where a call leads
  abbrev pub Next : State → Progress → Given → Stepped → Type 0
  Next s p g t = Phase t.state (after_event (seen_at t.state) p (record { lane = 0; call = call_of name_of s 0 g; outcome = t.outcome }))

  abbrev On : State → Progress → Type 0
  On s p = IfSome (next_call (seen_at s) s.current p) (λ g. IfSome (step name_of s 0 g Done) (λ t. Next s p g t))

  -- the ask is answered, or a record is lacking
  settles_at : (s : State) (has : List (List ℕ)) → s.publications ≡ pubs → Phase s (settled (λ (mark : ℕ). units_at pubs mark) (asking has))
  settles_at s has same =
      let seen = λ (mark : ℕ). units_at pubs mark in
      elim (is_none (next_need query (units_at pubs (length pubs)) has)) as (λ b. Phase s (unwrap_or (option_map (λ ended. settled_over seen behind (answered ended (asking has))) (if b then Some (Rows (answer query (units_at pubs (length pubs)))) else None)) (asking has))) [
        | true ↦ inr (inr (inr (settled_adds seen (answered (Rows (answer query (units_at pubs (length pubs)))) (asking has)) (earlier ++ the_answer ∷ []) ([], sym (append-nil (earlier ++ the_answer ∷ []))))))
        | false ↦ inr (inr (inl (record { has = has; is = refl; same = same })))
      ]

  settles : (s : State) (has : List (List ℕ)) → s.publications ≡ pubs → Phase s (settled (seen_at s) (asking has))
  settles s has same = subst (λ (ps : List Publication). Phase s (settled (λ (mark : ℕ). units_at ps mark) (asking has))) (sym same) (settles_at s has same)

  scan_on : (s : State) (holds : Option ℕ) (has : List (List ℕ)) → s.publications ≡ pubs → On s (polling Begun holds has)
  scan_on s holds has same = inr (inl (record {
    holds = holds;
    has = has;
    many = 0;
    is = ap (λ (ps : List Publication). polling (Importing (length ps) 0) holds has) same;
    same = same;
    open_at = ap (λ (ps : List Publication). opened_at (length ps)) same;
  }))

  install_on : (s : State) (many : ℕ) (holds : Option ℕ) (has : List (List ℕ)) → s.publications ≡ pubs
      → IfSome (option_and_then (λ r. flagged r Done) (install_import s 0 (opened_at (length pubs)))) (λ t. Next s (polling (Importing (length pubs) many) holds has) given.Install t)
  install_on s many holds has same = settles (record s { import = None; current = length pubs; held = slice_set s.held 0 (Some (length pubs)) }) [] same

  load_on : (s : State) (many : ℕ) (holds : Option ℕ) (has : List (List ℕ)) → s.publications ≡ pubs → s.import ≡ opened_at (length pubs) → On s (polling (Importing (length pubs) many) holds has)
  load_on s many holds has same open_at =
      elim (slice_get (fresh_in (seen_at s s.current) (seen_at s (length pubs))) many) as (λ o. IfSome (step name_of s 0 (load_or_install o) Done) (λ t. Next s (polling (Importing (length pubs) many) holds has) (load_or_install o) t)) [
        | None ↦ subst (λ (o : Option state.Import). IfSome (option_and_then (λ r. flagged r Done) (install_import s 0 o)) (λ t. Next s (polling (Importing (length pubs) many) holds has) given.Install t)) (sym open_at) (install_on s many holds has same)
        | Some name ↦ inr (inl (record { holds = holds; has = has; many = suc many; is = refl; same = same; open_at = open_at }))
      ]

  ask_on : (s : State) (has : List (List ℕ)) → s.publications ≡ pubs → On s (asking has)
  ask_on s has same =
      elim (next_need query (seen_at s (length pubs)) has) as (λ o. IfSome (option_map (λ name. given.Load name purpose.Ask) o) (λ g. IfSome (step name_of s 0 g Done) (λ t. Next s (asking has) g t))) [
        | None ↦ tt
        | Some name ↦ settles s (add_once text_cmp name has) same
      ]

  whatever : {A : Type 0} (P : A → Type 0) → ((a : A) → P a) → (o : Option A) → IfSome o P
  whatever P f None = tt
  whatever P f (Some a) = f a

  answers_on : (s : State) (p : Progress) → Answers p → On s p
  answers_on s p a =
      whatever (λ (g : Given). IfSome (step name_of s 0 g Done) (λ t. Next s p g t)) (λ g.
      whatever (λ (t : Stepped). Next s p g t) (λ t.
      let event : Event = record { lane = 0; call = call_of name_of s 0 g; outcome = t.outcome } in
      inr (inr (inr (adds_on (earlier ++ the_answer ∷ []) p.answers (after_event (seen_at t.state) p event).answers a (event_adds (seen_at t.state) p event)))))
      (step name_of s 0 g Done)) (next_call (seen_at s) s.current p)

  on : (s : State) (p : Progress) → Phase s p → On s p
  on s p (inl x) = subst (On s) (sym x.is) (scan_on s x.holds x.has x.same)
  on s p (inr (inl x)) = subst (On s) (sym x.is) (load_on s x.many x.holds x.has x.same x.open_at)
  on s p (inr (inr (inl x))) = subst (On s) (sym x.is) (ask_on s x.has x.same)
  on s p (inr (inr (inr x))) = answers_on s p x

  pub goes_on : (s : State) (p : Progress) (g : Given) (t : Stepped) → Phase s p → next_call (seen_at s) s.current p ≡ Some g → step name_of s 0 g Done ≡ Some t → Next s p g t
  goes_on s p g t phase calls taken =
      subst (λ (o : Option Stepped). IfSome o (λ x. Next s p g x)) taken
      (subst (λ (o : Option Given). IfSome o (λ h. IfSome (step name_of s 0 h Done) (λ x. Next s p h x))) calls (on s p phase))

  -- where no task is left, the ask is answered
  none_left : (p : Progress) (first : Task) (rest : List Task) → p.tasks ≡ first ∷ rest → p.tasks ≡ [] → ⊥
  none_left p first rest e n = let both : first ∷ rest ≡ [] = sym e ∙ n in absurd (cc)

  pub at_end : (s : State) (p : Progress) → Phase s p → p.tasks ≡ [] → Answers p
  at_end s p (inl x) n = absurd (none_left p task.Poll (task.Ask query ∷ behind) (ap (λ (q : Progress). q.tasks) x.is) n)
  at_end s p (inr (inl x)) n = absurd (none_left p task.Poll (task.Ask query ∷ behind) (ap (λ (q : Progress). q.tasks) x.is) n)
  at_end s p (inr (inr (inl x))) n = absurd (none_left p (task.Ask query) behind (ap (λ (q : Progress). q.tasks) x.is) n)
  at_end s p (inr (inr (inr x))) n = x
