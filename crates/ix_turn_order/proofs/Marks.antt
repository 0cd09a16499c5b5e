-- What an event leaves of the units that are seen, and of its own lane.
use Rattle.std.proofs.Common.{◌≡◌, ℕ, ◌≤◌, List, [], ◌∷◌, ◌++◌, length, get_or, slice_get, Option, Some, None, IfSome, refl, sym, ap, ◌∙◌, subst, arith}
use Rattle.ix_model.specs.declared.publication.Publication.{Publication}
use Rattle.ix_model.specs.Units.{units_at}
use Rattle.ix_machine.specs.declared.event.Event.{Event}
use Rattle.ix_machine.specs.Needs.{seen_at}
use Rattle.ix_lanes.specs.Progress.{after_event}
use Rattle.ix_lanes.specs.Tasks.{Task}
use Rattle.ix_replays.specs.Laws.{LanesHold, NoMarkFalls, RunFits}
use Rattle.ix_replays.specs.Run.{Run, progress_of}

at_end : {A : Type 0} (xs : List A) (x d : A) → get_or (xs ++ x ∷ []) (length xs) d ≡ x
at_end [] x d = refl
at_end (y ∷ xs) x d = at_end xs x d

last_same : (xs : List Event) (x y : Event) → xs ++ x ∷ [] ≡ xs ++ y ∷ [] → x ≡ y
last_same xs x y e = sym (at_end xs x x) ∙ (ap (λ (es : List Event). get_or es (length xs) x) e ∙ at_end xs y x)

-- the event that the lane is taken on by is this one
pub own_event : (run longer : Run) (lane : ℕ) (tasks : List Task) (event : Event) → longer.events ≡ run.events ++ event ∷ []
    → ((other : Event) × (longer.events ≡ run.events ++ other ∷ []) × (progress_of longer lane tasks ≡ after_event (seen_at longer.state) (progress_of run lane tasks) other))
    → progress_of longer lane tasks ≡ after_event (seen_at longer.state) (progress_of run lane tasks) event
own_event run longer lane tasks event is own =
    own.2 ∙ ap (λ (e : Event). after_event (seen_at longer.state) (progress_of run lane tasks) e) (last_same run.events own.0 event (sym own.1 ∙ is))

module _ (prefix : (earlier later : List Publication) (n : ℕ) → n ≤ length earlier → units_at (earlier ++ later) n ≡ units_at earlier n) (run longer : Run) (falls : NoMarkFalls run.state longer.state) where
  pub earlier_mark : (mark : ℕ) → mark ≤ length run.state.publications → seen_at longer.state mark ≡ seen_at run.state mark
  earlier_mark mark within = ap (λ (ps : List Publication). units_at ps mark) falls.publications ∙ prefix run.state.publications falls.more mark within

  same_held : RunFits run → (o : Option ℕ) → IfSome o (λ mark. mark ≤ run.state.current) → IfSome o (λ mark. seen_at run.state mark ≡ seen_at longer.state mark)
  same_held fits None low = tt
  same_held fits (Some mark) low = sym (earlier_mark mark (let most = fits.marks.current in omega (arith, low, most)))

  pub held_mark : (lanes : List (List Task)) (lane : ℕ) (tasks : List Task) → RunFits run → LanesHold lanes run → slice_get lanes lane ≡ Some tasks
      → IfSome (progress_of run lane tasks).held (λ mark. seen_at run.state mark ≡ seen_at longer.state mark)
  held_mark lanes lane tasks fits holds there =
      same_held fits (progress_of run lane tasks).held (subst (λ (o : Option ℕ). IfSome o (λ mark. mark ≤ run.state.current)) (holds.held lane tasks there) (fits.marks.held lane))
