-- What a seat has and lacks depends on the units at the mark that is held alone.
use Rattle.std.proofs.Common.{◌≡◌, ℕ, Bool, true, false, if◌then◌else◌, List, [], ◌∷◌, Option, Some, None, IfSome, option_map, unwrap_or, is_none, refl, ap, ◌∙◌, subst}
use Rattle.std.specs.Option.{option_and_then}
use Rattle.ix_types.specs.declared.row.Query.{Query}
use Rattle.ix_model.specs.Units.{Units, NamesRise}
use Rattle.ix_answers.specs.Answers.{answer}
use Rattle.ix_answers.specs.Needs.{next_need}
use Rattle.ix_lookups.specs.Loaded.{Loaded}
use Rattle.ix_machine.specs.Given as given
use Rattle.ix_machine.specs.declared.event.Purpose.TheVariants as purpose
use Rattle.ix_machine.specs.declared.event.Event.{Event}
use Rattle.ix_machine.specs.declared.event.Call.TheVariants as call
use Rattle.ix_machine.specs.declared.event.Outcome.TheVariants.{Done}
use Rattle.ix_needs.specs.Premises.{Holds}
use Rattle.ix_outline.specs.Known.{AreTables}
use Rattle.ix_tables.specs.declared.tables.Version.{Version}
use Rattle.ix_asking.specs.Open.{IsOpen}
use Rattle.ix_asking.specs.declared.open_ask.OpenAsk.{OpenAsk}
use Rattle.ix_lanes.specs.declared.answered.AskResult.{AskResult}
use Rattle.ix_lanes.specs.declared.answered.AskResult.TheVariants as result
use Rattle.ix_lanes.specs.declared.answered.Answered.{Answered}
use Rattle.ix_lanes.specs.declared.doing.Doing.{Doing}
use Rattle.ix_lanes.specs.Calls.{next_call, ask_call}
use Rattle.ix_lanes.specs.Tasks.{Task, Build, Remove, Poll, Refresh, Ask, Release, Collect}
use Rattle.ix_lanes.specs.Progress.{Progress, answered, ended_at, is_asking, loaded_by, noted, settled, settled_over, told, with_loaded, with_some}
use Rattle.ix_machine.specs.Outcomes.{is_done}
use Rattle.ix_seats.specs.Seated.{Seated, asked}
use Rattle.ix_seats.specs.Seats.{HasVersion, IsSeat, lacks}

module _ (seen other : ℕ → Units) where
  abbrev Agrees : Option ℕ → Type 0
  Agrees held = IfSome held (λ mark. seen mark ≡ other mark)

  same-version : (held : Option ℕ) (version : Option Version) → Agrees held → HasVersion seen held version → HasVersion other held version
  same-version None None a h = tt
  same-version None (Some version) a h = absurd h
  same-version (Some mark) None a h = absurd h
  same-version (Some mark) (Some version) a h = record {
    number = h.number;
    rises = subst (λ (units : Units). NamesRise units) a h.rises;
    tables = subst (λ (units : Units). AreTables units version.tables) a h.tables;
  }

  same-bodies : (held : Option ℕ) (bodies : Loaded) → Agrees held → IfSome held (λ mark. Holds (seen mark) bodies) → IfSome held (λ mark. Holds (other mark) bodies)
  same-bodies None bodies a h = tt
  same-bodies (Some mark) bodies a h = subst (λ (units : Units). Holds units bodies) a h

  same-asks : (ask : Option OpenAsk) (held : Option ℕ) (query : Option Query) (bodies : Loaded) → Agrees held
      → IfSome ask (λ opened. IfSome held (λ mark. IfSome query (λ query. IsOpen query (seen mark) bodies opened)))
      → IfSome ask (λ opened. IfSome held (λ mark. IfSome query (λ query. IsOpen query (other mark) bodies opened)))
  same-asks None held query bodies a o = tt
  same-asks (Some opened) None query bodies a o = tt
  same-asks (Some opened) (Some mark) None bodies a o = tt
  same-asks (Some opened) (Some mark) (Some query) bodies a o = subst (λ (units : Units). IsOpen query units bodies opened) a o

  pub same-seat : (seat : Seated) → Agrees seat.lane.progress.held → IsSeat seen seat → IsSeat other seat
  same-seat seat a is = record {
    version = same-version seat.lane.progress.held seat.version a is.version;
    bodies = same-bodies seat.lane.progress.held seat.lane.bodies a is.bodies;
    asks = same-asks seat.ask seat.lane.progress.held (asked seat.lane.progress) seat.lane.bodies a is.asks;
  }

  lacks-alike : (query : Option Query) (held : Option ℕ) (loaded : List (List ℕ)) → Agrees held
      → option_and_then (λ (q : Query). option_and_then (λ (mark : ℕ). next_need q (seen mark) loaded) held) query ≡ option_and_then (λ (q : Query). option_and_then (λ (mark : ℕ). next_need q (other mark) loaded) held) query
  lacks-alike None held loaded a = refl
  lacks-alike (Some query) None loaded a = refl
  lacks-alike (Some query) (Some mark) loaded a = ap (λ (units : Units). next_need query units loaded) a

  pub same-lacks : (p : Progress) → Agrees p.held → lacks seen p ≡ lacks other p
  same-lacks p a = lacks-alike (asked p) p.held p.loaded a

  same-end : (query : Query) (held : Option ℕ) (loaded : List (List ℕ)) → Agrees held → ended_at seen query held loaded ≡ ended_at other query held loaded
  same-end query None loaded a = refl
  same-end query (Some mark) loaded a = ap (λ (units : Units). if is_none (next_need query units loaded) then Some (result.Rows (answer query units)) else None) a

  settled-alike : (tasks : List Task) (p : Progress) → Agrees p.held → settled_over seen tasks p ≡ settled_over other tasks p
  settled-alike [] p a = refl
  settled-alike (Build job ∷ tasks) p a = refl
  settled-alike (Remove output ∷ tasks) p a = refl
  settled-alike (Poll ∷ tasks) p a = refl
  settled-alike (Refresh ∷ tasks) p a = refl
  settled-alike (Ask query ∷ tasks) p a =
      elim (ended_at seen query p.held p.loaded) as (λ o. unwrap_or (option_map (λ ended. settled_over seen tasks (answered ended p)) o) p ≡ unwrap_or (option_map (λ ended. settled_over other tasks (answered ended p)) o) p) [
        | None ↦ refl
        | Some ended ↦ settled-alike tasks (answered ended p) a
      ]
      ∙ ap (λ (o : Option AskResult). unwrap_or (option_map (λ ended. settled_over other tasks (answered ended p)) o) p) (same-end query p.held p.loaded a)
  settled-alike (Release ∷ tasks) p a = refl
  settled-alike (Collect ∷ tasks) p a = refl

  pub same-settled : (p : Progress) → Agrees p.held → settled seen p ≡ settled other p
  same-settled p a = settled-alike p.tasks p a

-- ---- the load of what is lacking

-- the fields of a progress
abbrev progress : List Task → Doing → Option ℕ → List (List ℕ) → List Answered → Progress
progress tasks doing held loaded answers = record { tasks = tasks; doing = doing; held = held; loaded = loaded; answers = answers }

load-of : (seen : ℕ → Units) (current : ℕ) (query : Query) (held : Option ℕ) (loaded : List (List ℕ))
    → ask_call seen current query held loaded ≡ option_map (λ (name : List ℕ). given.Load name purpose.Ask) (option_and_then (λ (mark : ℕ). next_need query (seen mark) loaded) held)
load-of seen current query None loaded = refl
load-of seen current query (Some mark) loaded = refl

loads : (seen : ℕ → Units) (current : ℕ) (tasks : List Task) (doing : Doing) (held : Option ℕ) (loaded : List (List ℕ)) (answers : List Answered)
    → is_asking (progress tasks doing held loaded answers) ≡ true
    → next_call seen current (progress tasks doing held loaded answers) ≡ option_map (λ (name : List ℕ). given.Load name purpose.Ask) (lacks seen (progress tasks doing held loaded answers))
loads seen current [] doing held loaded answers e = absurd (cc)
loads seen current (Build job ∷ tasks) doing held loaded answers e = absurd (cc)
loads seen current (Remove output ∷ tasks) doing held loaded answers e = absurd (cc)
loads seen current (Poll ∷ tasks) doing held loaded answers e = absurd (cc)
loads seen current (Refresh ∷ tasks) doing held loaded answers e = absurd (cc)
loads seen current (Ask query ∷ tasks) doing held loaded answers e = load-of seen current query held loaded
loads seen current (Release ∷ tasks) doing held loaded answers e = absurd (cc)
loads seen current (Collect ∷ tasks) doing held loaded answers e = absurd (cc)

pub loads-lacking : (seen : ℕ → Units) (current : ℕ) (p : Progress) → is_asking p ≡ true
    → next_call seen current p ≡ option_map (λ (name : List ℕ). given.Load name purpose.Ask) (lacks seen p)
loads-lacking seen current p e = loads seen current p.tasks p.doing p.held p.loaded p.answers e

-- ---- events

noted-load : (lane : ℕ) (name : List ℕ) (p : Progress) → is_asking p ≡ true → noted (record { lane = lane; call = call.Load name; outcome = Done }) p ≡ with_loaded name p
noted-load lane name p e = ap (λ (b : Bool). if◌then◌else◌ {A = Progress} b (with_loaded name p) p) e

done-told : (tasks : List Task) (doing : Doing) (held : Option ℕ) (loaded : List (List ℕ)) (answers : List Answered)
    → is_asking (progress tasks doing held loaded answers) ≡ true → told Done (progress tasks doing held loaded answers) ≡ progress tasks doing held loaded answers
done-told [] doing held loaded answers e = absurd (cc)
done-told (Build job ∷ tasks) doing held loaded answers e = absurd (cc)
done-told (Remove output ∷ tasks) doing held loaded answers e = absurd (cc)
done-told (Poll ∷ tasks) doing held loaded answers e = absurd (cc)
done-told (Refresh ∷ tasks) doing held loaded answers e = absurd (cc)
done-told (Ask query ∷ tasks) doing held loaded answers e = refl
done-told (Release ∷ tasks) doing held loaded answers e = absurd (cc)
done-told (Collect ∷ tasks) doing held loaded answers e = absurd (cc)

pub told-loaded : (lane : ℕ) (name : List ℕ) (p : Progress) → is_asking p ≡ true → told Done (noted (record { lane = lane; call = call.Load name; outcome = Done }) p) ≡ with_loaded name p
told-loaded lane name p e =
    let q = with_loaded name p in
    ap (λ (r : Progress). told Done r) (noted-load lane name p e) ∙ done-told q.tasks q.doing q.held q.loaded q.answers e

pub noted-failed : (event : Event) (p : Progress) → is_done event.outcome ≡ false → noted event p ≡ p
noted-failed event p e =
    ap (λ (b : Bool). if◌then◌else◌ {A = Progress} (is_asking p) (if◌then◌else◌ {A = Progress} b (with_some (loaded_by event.call) p) p) p) e
    ∙ elim (is_asking p) as (λ b. (if◌then◌else◌ {A = Progress} b p p) ≡ p) [
      | true ↦ refl
      | false ↦ refl
    ]

pub noted-other : (event : Event) (p : Progress) → is_asking p ≡ false → noted event p ≡ p
noted-other event p e = ap (λ (b : Bool). if◌then◌else◌ {A = Progress} b (if◌then◌else◌ {A = Progress} (is_done event.outcome) (with_some (loaded_by event.call) p) p) p) e
