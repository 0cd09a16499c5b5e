-- Each event of a run was made at some moment of it.
use Rattle.std.proofs.Common.{◌≡◌, ℕ, List, [], ◌∷◌, ◌++◌, length, Some, append_assoc, refl, sym, ap, ◌∙◌, arith}
use Rattle.std.proofs.lemmas.List.{append_cancel_left, append-nil, length-append}
use Rattle.ix_machine.specs.declared.event.Event.{Event}
use Rattle.ix_machine.specs.declared.event.Outcome.{Outcome}
use Rattle.ix_lanes.specs.Tasks.{Task}
use Rattle.ix_replays.specs.Run.{Run, call_of, extended}
use Rattle.ix_allowed.specs.Laws.{Comes, Moment}
use Rattle.ix_allowed.proofs.Runs.{added}

module _ (name_of : List ℕ → List ℕ) (lanes : List (List Task)) where
  -- the event that was made
  one_more : (run longer : Run) (lane : ℕ) (flag : Outcome) → extended name_of lanes run lane flag ≡ Some longer → (made : Event) × (longer.events ≡ run.events ++ made ∷ [])
  one_more run longer lane flag e =
      let a = added name_of lanes run lane flag longer e in
      (record { lane = lane; call = call_of name_of run.state lane a.given; outcome = a.stepped.outcome }, sym (ap (λ (r : Run). r.events) a.is))

  -- events are only added
  grows : (order : List ℕ) (flags : List Outcome) (run end : Run) → Comes name_of lanes run order flags end → (more : List Event) × (end.events ≡ run.events ++ more)
  grows [] [] run end comes = ([], ap (λ (r : Run). r.events) (sym comes) ∙ sym (append-nil run.events))
  grows [] (flag ∷ flags) run end comes = absurd comes
  grows (lane ∷ order) [] run end comes = absurd comes
  grows (lane ∷ order) (flag ∷ flags) run end comes =
      let rest = grows order flags comes.0 end comes.2 in
      let m = one_more run comes.0 lane flag comes.1 in
      (m.0 ∷ rest.0, rest.1 ∙ (ap (λ (es : List Event). es ++ rest.0) m.1 ∙ append_assoc run.events (m.0 ∷ []) rest.0))

  too_long : (events before after : List Event) (event : Event) → events ≡ events ++ (before ++ event ∷ after) → ⊥
  too_long events before after event e =
      let all = length-append events (before ++ event ∷ after) in
      let rest = length-append before (event ∷ after) in
      let same = ap (λ (es : List Event). length es) e in
      omega (arith, all, rest, same)

  pub moment : (order : List ℕ) (flags : List Outcome) (run end : Run) → Comes name_of lanes run order flags end → (before after : List Event) (event : Event) → end.events ≡ run.events ++ (before ++ event ∷ after) → Moment name_of lanes run before event
  moment [] [] run end comes before after event e = absurd (too_long run.events before after event (ap (λ (r : Run). r.events) comes ∙ e))
  moment [] (flag ∷ flags) run end comes before after event e = absurd comes
  moment (lane ∷ order) [] run end comes before after event e = absurd comes
  moment (lane ∷ order) (flag ∷ flags) run end comes [] after event e =
      let rest = grows order flags comes.0 end comes.2 in
      let m = one_more run comes.0 lane flag comes.1 in
      let both : run.events ++ event ∷ after ≡ run.events ++ m.0 ∷ rest.0 = sym e ∙ (rest.1 ∙ (ap (λ (es : List Event). es ++ rest.0) m.1 ∙ append_assoc run.events (m.0 ∷ []) rest.0)) in
      let cells : event ∷ after ≡ m.0 ∷ rest.0 = append_cancel_left run.events (event ∷ after) (m.0 ∷ rest.0) both in
      let same : event ≡ m.0 = cc in
      record {
        order = [];
        flags = [];
        earlier = run;
        comes = refl;
        events = sym (append-nil run.events);
        lane = lane;
        flag = flag;
        longer = comes.0;
        goes_on = comes.1;
        shows = m.1 ∙ ap (λ (x : Event). run.events ++ x ∷ []) (sym same);
      }
  moment (lane ∷ order) (flag ∷ flags) run end comes (first ∷ before) after event e =
      let rest = grows order flags comes.0 end comes.2 in
      let m = one_more run comes.0 lane flag comes.1 in
      let both : run.events ++ first ∷ (before ++ event ∷ after) ≡ run.events ++ m.0 ∷ rest.0 = sym e ∙ (rest.1 ∙ (ap (λ (es : List Event). es ++ rest.0) m.1 ∙ append_assoc run.events (m.0 ∷ []) rest.0)) in
      let cells : first ∷ (before ++ event ∷ after) ≡ m.0 ∷ rest.0 = append_cancel_left run.events (first ∷ (before ++ event ∷ after)) (m.0 ∷ rest.0) both in
      let same : first ≡ m.0 = cc in
      let longer_events : comes.0.events ≡ run.events ++ first ∷ [] = m.1 ∙ ap (λ (x : Event). run.events ++ x ∷ []) (sym same) in
      let on : end.events ≡ comes.0.events ++ (before ++ event ∷ after) =
      e ∙ (sym (append_assoc run.events (first ∷ []) (before ++ event ∷ after)) ∙ ap (λ (es : List Event). es ++ (before ++ event ∷ after)) (sym longer_events)) in
      let later = moment order flags comes.0 end comes.2 before after event on in
      record {
        order = lane ∷ later.order;
        flags = flag ∷ later.flags;
        earlier = later.earlier;
        comes = (comes.0, comes.1, later.comes);
        events = later.events ∙ (ap (λ (es : List Event). es ++ before) longer_events ∙ append_assoc run.events (first ∷ []) before);
        lane = later.lane;
        flag = later.flag;
        longer = later.longer;
        goes_on = later.goes_on;
        shows = later.shows;
      }
