-- Runs of a library, and the machine's own.
use Rattle.std.proofs.Common.{◌≡◌, ℕ, suc, ◌≤◌, List, [], ◌∷◌, ◌++◌, length, take, Option, Some, None, IfSome, option_map, option_and_then, refl, sym, ap, subst, ◌∙◌, append-nil}
use Rattle.std.proofs.lemmas.List.{append_assoc}
use Rattle.std.proofs.lemmas.Option.{same_Some}
use Rattle.ix_dir.specs.declared.moves.Move.{Move}
use Rattle.ix_dir.specs.Images.{Image, IsImage}
use Rattle.ix_dir.specs.WhatAChangeLeaves.{AddsTo, IfTold}
use Rattle.ix_model.specs.declared.publication.Publication.{Publication}
use Rattle.ix_machine.specs.declared.event.Call.{Call}
use Rattle.ix_machine.specs.declared.event.Call.TheVariants as call
use Rattle.ix_machine.specs.declared.event.Event.{Event}
use Rattle.ix_machine.specs.declared.event.Outcome.{Outcome}
use Rattle.ix_machine.specs.Given.{Given, Lease, Put, Stage, Publish, Remove, Scan, Load, Install, Adopt, Release, Collect}
use Rattle.ix_machine.specs.Run.{Turn}
use Rattle.ix_machine.specs.State.{State}
use Rattle.ix_machine.specs.Step.{Stepped, ended, step}
use Rattle.ix_ledger.specs.Books.{event}
use Rattle.ix_ledger.specs.Kept.{Kept}
use Rattle.ix_ledger.specs.OfState.{Keeps}
use Rattle.ix_library.specs.Endings.{flag_for, name_of_unit}
use Rattle.ix_library.specs.Growing.{Grows}
use Rattle.ix_library.specs.StandsFor.{Takes}
use Rattle.ix_changes.specs.Holds.{Waits}
use Rattle.ix_stops.specs.Prefixes.{CountsFrom, IsPrefixAt, LeavesPrefixes}
use Rattle.ix_facts.specs.Given.{StepLaws}
use Rattle.ix_facts.specs.Runs.{Called, IsAt, IsLibraryCall, AreLibraryCalls, Played, Store, after_call, after_calls, behind, named_call, event_of, played_of, shown, state_behind, turn, turns_taken}
use Rattle.ix_facts.proofs.Leases.{staged_same}

-- the library shows a call as the machine does
shown_alike : (name_of : List ℕ → List ℕ) (s : State) (kept : Kept) → Keeps name_of kept s → (lane : ℕ) (given : Given) → shown name_of kept lane given ≡ named_call name_of s lane given
shown_alike name_of s kept keeps lane (Lease names) = refl
shown_alike name_of s kept keeps lane (Put body) = refl
shown_alike name_of s kept keeps lane (Stage unit) = refl
shown_alike name_of s kept keeps lane Publish = ap (λ o. call.Publish (name_of_unit name_of o)) (staged_same name_of kept s keeps lane)
shown_alike name_of s kept keeps lane (Remove output) = refl
shown_alike name_of s kept keeps lane Scan = refl
shown_alike name_of s kept keeps lane (Load name purpose) = refl
shown_alike name_of s kept keeps lane Install = refl
shown_alike name_of s kept keeps lane Adopt = refl
shown_alike name_of s kept keeps lane Release = refl
shown_alike name_of s kept keeps lane Collect = refl

grows_on : (first second third : State) → Grows first second → Grows second third → Grows first third
grows_on first second third one two = record {
  more = one.more ++ two.more;
  grown = two.grown ∙ ap (λ (ps : List Publication). ps ++ two.more) one.grown ∙ append_assoc first.publications one.more two.more;
}

adds_nothing : (moves : Option (List Move)) → AddsTo moves moves
adds_nothing None = tt
adds_nothing (Some moves) = record { more = []; added = sym (append-nil moves) }

adds_both : (first second third : Option (List Move)) → AddsTo first second → AddsTo second third → AddsTo first third
adds_both None None None one two = tt
adds_both None None (Some n) one two = absurd two
adds_both None (Some m) third one two = absurd one
adds_both (Some b) None third one two = absurd one
adds_both (Some b) (Some m) None one two = absurd two
adds_both (Some b) (Some m) (Some n) one two = record { more = one.more ++ two.more; added = two.added ∙ ap (λ (ms : List Move). ms ++ two.more) one.added ∙ append_assoc b one.more two.more }

module _ (laws : StepLaws) (name_of : List ℕ → List ℕ) where
  -- what a run from a state comes to
  pub record PlaysTo (s : State) (first : Store) (calls : List Called) (last : Store) : Type 0 where
    pub run : Played
    pub played : played_of name_of s (turns_taken calls) ≡ Some run
    pub events : last.events ≡ first.events ++ run.events
    pub state : run.state ≡ after_calls name_of s calls
    pub each : length run.events ≡ length (turns_taken calls)
    pub stands : IsAt name_of (after_calls name_of s calls) last
    pub grows : Grows s (after_calls name_of s calls)
    pub adds : AddsTo first.dir.moves last.dir.moves
    pub leaves : IfTold first.dir.moves last.dir.moves (LeavesPrefixes name_of s.publications (after_calls name_of s calls).publications)
    pub waits : IfSome first.dir.moves (Waits s) → IfSome last.dir.moves (Waits (after_calls name_of s calls))

  none_called : (s : State) (first : Store) → IsAt name_of s first → PlaysTo s first [] first
  none_called s first at = record {
    run = record { events = []; state = s };
    played = refl;
    events = sym (append-nil first.events);
    state = refl;
    each = refl;
    stands = at;
    grows = record { more = []; grown = sym (append-nil s.publications) };
    adds = adds_nothing first.dir.moves;
    leaves = (laws.unmoved name_of s s first.shelf first.dir.moves at.holds (record { publications = refl; pending = refl; records = refl })).leaves;
    waits = λ waits. waits;
  }

  -- a call for which memory was wanting
  wanting : (s : State) (first between last : Store) (lane : ℕ) (given : Given) (calls : List Called) → between.events ≡ first.events → between.dir.moves ≡ first.dir.moves → PlaysTo s between calls last
      → PlaysTo s first (record { lane = lane; given = given; ending = None } ∷ calls) last
  wanting s first between last lane given calls events moves rest = record {
    run = rest.run;
    played = rest.played;
    events = rest.events ∙ ap (λ (es : List Event). es ++ rest.run.events) events;
    state = rest.state;
    each = rest.each;
    stands = rest.stands;
    grows = rest.grows;
    adds = subst (λ (o : Option (List Move)). AddsTo o last.dir.moves) moves rest.adds;
    leaves = subst (λ (o : Option (List Move)). IfTold o last.dir.moves (LeavesPrefixes name_of s.publications (after_calls name_of s calls).publications)) moves rest.leaves;
    waits = subst (λ (o : Option (List Move)). IfSome o (Waits s) → IfSome last.dir.moves (Waits (after_calls name_of s calls))) moves rest.waits;
  }

  -- a call that ended
  module _ (s : State) (first between last : Store) (lane : ℕ) (given : Given) (how : Outcome) (calls : List Called) (at : IsAt name_of s first)
      (takes : Takes name_of s lane given (flag_for how) how first.dir between.kept between.shelf between.known between.dir)
      (logged : between.events ≡ first.events ++ event lane (shown name_of first.kept lane given) how ∷ []) where
    abbrev pub this : Called
    this = record { lane = lane; given = given; ending = Some how }

    abbrev pub own : Event
    own = event lane (named_call name_of s lane given) how

    goes_to : after_call name_of s this ≡ takes.next
    goes_to = ap (state_behind s) takes.taken

    then_all : after_calls name_of s (this ∷ calls) ≡ after_calls name_of takes.next calls
    then_all = ap (λ (t : State). after_calls name_of t calls) goes_to

    pub made : PlaysTo takes.next between calls last → PlaysTo s first (this ∷ calls) last
    made rest =
        let grown : Grows s takes.next = laws.grows name_of s lane given (flag_for how) (ended how takes.next) takes.taken in
        let after : State = after_calls name_of takes.next calls in
        let leaves : IfTold first.dir.moves last.dir.moves (LeavesPrefixes name_of s.publications after.publications) =
        laws.joined name_of s.publications takes.next after first.dir.moves between.dir.moves last.dir.moves rest.grows takes.adds rest.adds takes.leaves rest.leaves in
        record {
          run = behind own rest.run;
          played =
              ap (option_and_then (λ (stepped : Stepped). option_map (behind (event_of name_of s (turn lane given (flag_for how)) stepped)) (played_of name_of stepped.state (turns_taken calls)))) takes.taken
              ∙ ap (option_map (behind own)) rest.played;
          events =
              rest.events
              ∙ ap (λ (es : List Event). es ++ rest.run.events) (logged ∙ ap (λ (c : Call). first.events ++ event lane c how ∷ []) (shown_alike name_of s first.kept at.keeps lane given))
              ∙ append_assoc first.events (own ∷ []) rest.run.events;
          state = rest.state ∙ sym then_all;
          each = ap suc rest.each;
          stands = subst (λ (t : State). IsAt name_of t last) (sym then_all) rest.stands;
          grows = subst (Grows s) (sym then_all) (grows_on s takes.next after grown rest.grows);
          adds = adds_both first.dir.moves between.dir.moves last.dir.moves takes.adds rest.adds;
          leaves = subst (λ (t : State). IfTold first.dir.moves last.dir.moves (LeavesPrefixes name_of s.publications t.publications)) (sym then_all) leaves;
          waits = subst (λ (t : State). IfSome first.dir.moves (Waits s) → IfSome last.dir.moves (Waits t)) (sym then_all) (λ waits. rest.waits (takes.waits waits));
        }

  -- ---- all of the calls

  abbrev AllPlayed : List Called → Type 0
  AllPlayed calls = (s : State) (first last : Store) → IsAt name_of s first → AreLibraryCalls name_of s first calls last → PlaysTo s first calls last

  by_ending : (calls : List Called) → AllPlayed calls → (s : State) (first between last : Store) → IsAt name_of s first → (lane : ℕ) (given : Given) (how : Option Outcome)
      → IsLibraryCall name_of s first (record { lane = lane; given = given; ending = how }) between
      → AreLibraryCalls name_of (after_call name_of s (record { lane = lane; given = given; ending = how })) between calls last
      → PlaysTo s first (record { lane = lane; given = given; ending = how } ∷ calls) last
  by_ending calls all s first between last at lane given None is run = wanting s first between last lane given calls is.logged (is.unmoved refl) (all s between last (is.again refl) run)
  by_ending calls all s first between last at lane given (Some how) is run =
      let takes : Takes name_of s lane given (flag_for how) how first.dir between.kept between.shelf between.known between.dir = is.takes in
      let rest : PlaysTo takes.next between calls last = all takes.next between last takes.stands (subst (λ (o : Option Stepped). AreLibraryCalls name_of (state_behind s o) between calls last) takes.taken run) in
      made s first between last lane given how calls at takes is.logged rest

  pub played_all : (calls : List Called) → AllPlayed calls
  played_all [] s first last at run = subst (λ (l : Store). PlaysTo s first [] l) run (none_called s first at)
  played_all (called ∷ calls) s first last at run = by_ending calls (played_all calls) s first run.0 last at called.lane called.given called.ending run.1 run.2

  pub image_at : (s : State) (first last : Store) (calls : List Called) (before now : List Move) (moment : ℕ) (image : Image) → PlaysTo s first calls last → first.dir.moves ≡ Some before → last.dir.moves ≡ Some now
      → CountsFrom (length before) (length s.publications) s.publications before → length before ≤ moment → moment ≤ length now → IsImage (take moment now) image
      → IsPrefixAt name_of (after_calls name_of s calls).publications (length before) (length s.publications) (take moment now) image
  image_at s first last calls before now moment image all was is counts since within left =
      let leaves : LeavesPrefixes name_of s.publications (after_calls name_of s calls).publications before now =
      subst (λ (o : Option (List Move)). IfTold (Some before) o (LeavesPrefixes name_of s.publications (after_calls name_of s calls).publications)) is
      (subst (λ (o : Option (List Move)). IfTold o last.dir.moves (LeavesPrefixes name_of s.publications (after_calls name_of s calls).publications)) was all.leaves) in
      leaves.left (length before) (length s.publications) counts moment image since within left

-- ---- runs go on

pub one_more : (name_of : List ℕ → List ℕ) (calls : List Called) (s : State) (first between last : Store) (called : Called) → AreLibraryCalls name_of s first calls between
    → IsLibraryCall name_of (after_calls name_of s calls) between called last → AreLibraryCalls name_of s first (calls ++ called ∷ []) last
one_more name_of [] s first between last called run is = (last, subst (λ (f : Store). IsLibraryCall name_of s f called last) (sym run) is, refl)
one_more name_of (c ∷ calls) s first between last called run is = (run.0, run.1, one_more name_of calls (after_call name_of s c) run.0 between last called run.2 is)

pub state_after : (name_of : List ℕ → List ℕ) (calls : List Called) (s : State) (called : Called) → after_calls name_of s (calls ++ called ∷ []) ≡ after_call name_of (after_calls name_of s calls) called
state_after name_of [] s called = refl
state_after name_of (c ∷ calls) s called = state_after name_of calls (after_call name_of s c) called

-- ---- runs of the machine

module _ (name_of : List ℕ → List ℕ) (s : State) (t : Turn) (earlier later : List Turn) (front rest : Played) where
  abbrev Joined : State → List Turn → Played → Type 0
  Joined from turns run = played_of name_of from (turns ++ later) ≡ Some (record { events = run.events ++ rest.events; state = rest.state })

  -- one step in front of runs that are joined
  behind_step : (stepped : Stepped) (o : Option Played) → played_of name_of stepped.state earlier ≡ o → ((r : Played) → played_of name_of stepped.state earlier ≡ Some r → played_of name_of r.state later ≡ Some rest → Joined stepped.state earlier r)
      → played_of name_of front.state later ≡ Some rest → option_map (behind (event_of name_of s t stepped)) o ≡ Some front
      → option_map (behind (event_of name_of s t stepped)) (played_of name_of stepped.state (earlier ++ later)) ≡ Some (record { events = front.events ++ rest.events; state = rest.state })
  behind_step stepped None was join then e = absurd (cc)
  behind_step stepped (Some r) was join then e =
      let same : behind (event_of name_of s t stepped) r ≡ front = same_Some (behind (event_of name_of s t stepped) r) front e in
      let state : r.state ≡ front.state = ap (λ (x : Played). x.state) same in
      let events : event_of name_of s t stepped ∷ r.events ≡ front.events = ap (λ (x : Played). x.events) same in
      ap (option_map (behind (event_of name_of s t stepped))) (join r was (subst (λ (x : State). played_of name_of x later ≡ Some rest) (sym state) then))
      ∙ ap (λ (es : List Event). Some (record { events = es ++ rest.events; state = rest.state })) events

  by_step : (o : Option Stepped) → ((stepped : Stepped) (r : Played) → played_of name_of stepped.state earlier ≡ Some r → played_of name_of r.state later ≡ Some rest → Joined stepped.state earlier r) → played_of name_of front.state later ≡ Some rest
      → option_and_then (λ (stepped : Stepped). option_map (behind (event_of name_of s t stepped)) (played_of name_of stepped.state earlier)) o ≡ Some front
      → option_and_then (λ (stepped : Stepped). option_map (behind (event_of name_of s t stepped)) (played_of name_of stepped.state (earlier ++ later))) o ≡ Some (record { events = front.events ++ rest.events; state = rest.state })
  by_step None join then e = absurd (cc)
  by_step (Some stepped) join then e = behind_step stepped (played_of name_of stepped.state earlier) refl (join stepped) then e

pub runs_join : (name_of : List ℕ → List ℕ) (earlier : List Turn) (s : State) (later : List Turn) (front rest : Played) → played_of name_of s earlier ≡ Some front → played_of name_of front.state later ≡ Some rest
    → played_of name_of s (earlier ++ later) ≡ Some (record { events = front.events ++ rest.events; state = rest.state })
runs_join name_of [] s later front rest is then =
    let same : record { events = []; state = s } ≡ front = same_Some (record { events = []; state = s }) front is in
    ap (λ (r : Played). played_of name_of r.state later) same ∙ then ∙ ap (λ (r : Played). Some (record { events = r.events ++ rest.events; state = rest.state })) same
runs_join name_of (t ∷ earlier) s later front rest is then =
    by_step name_of s t earlier later front rest (step name_of s t.lane t.given t.flag) (λ stepped r was goes. runs_join name_of earlier stepped.state later r rest was goes) then is
