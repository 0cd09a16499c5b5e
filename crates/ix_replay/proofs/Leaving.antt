-- What steps leave behind: none, and one after the other.
use Rattle.std.proofs.Common.{◌≡◌, ◌∙◌, ℕ, Bool, true, false, List, [], ◌∷◌, ◌++◌, Option, Some, None, Result, Ok, Err, IfOk, IfErr, append-nil, refl, sym, ap, subst}
use Rattle.std.proofs.lemmas.List.{append_assoc}
use Rattle.ix_dir.specs.declared.moves.Move.{Move}
use Rattle.ix_dir.specs.WhatAChangeLeaves.{AddsTo, IfTold}
use Rattle.ix_machine.specs.declared.event.Event.{Event}
use Rattle.ix_machine.specs.State.{State}
use Rattle.ix_model.specs.declared.publication.Publication.{Publication}
use Rattle.ix_library.specs.Growing.{Grows}
use Rattle.ix_shelf.specs.Shelf.{OnShelf}
use Rattle.ix_changes.specs.Holds.{Holds}
use Rattle.ix_stops.specs.OnDisk.{IsOnDisk}
use Rattle.ix_stops.specs.Prefixes.{LeavesPrefixes}
use Rattle.ix_stops.specs.Shapes.{syncs}
use Rattle.ix_replays.specs.Run.{Run}
use Rattle.ix_replay.specs.Left.{HoldsState, LeavesBehind, NoneMissed}

-- no step leaves what stands
abbrev pub StillLaw : Type 0
StillLaw = (name_of : List ℕ → List ℕ) (pending : Option ℕ) (publications : List Publication) (moves : List Move) (records units : Bool) → IsOnDisk name_of pending publications moves
    → LeavesPrefixes name_of publications publications moves (moves ++ syncs records units)

-- what steps leave they leave together
abbrev pub JoinLaw : Type 0
JoinLaw = (name_of : List ℕ → List ℕ) (first : List Publication) (second third : State) (before between now : Option (List Move)) → Grows second third → AddsTo before between → AddsTo between now
    → IfTold before between (LeavesPrefixes name_of first second.publications) → IfTold between now (LeavesPrefixes name_of second.publications third.publications)
    → IfTold before now (LeavesPrefixes name_of first third.publications)

-- ---- what holds of results

pub ok_goes : {A E : Type 0} (r : Result A E) (P Q : A → Type 0) → ((a : A) → P a → Q a) → IfOk r P → IfOk r Q
ok_goes (Ok a) P Q goes p = goes a p
ok_goes (Err e) P Q goes p = tt

pub each_err : {A E : Type 0} (r : Result A E) (P : E → Type 0) → ((e : E) → P e) → IfErr r P
each_err (Ok a) P p = tt
each_err (Err e) P p = p e

-- ---- events

pub not_missed : {X : Type 0} (b : Bool) (o : Option X) (x : X) → (b ≡ true → o ≡ None) → o ≡ Some x → b ≡ false
not_missed false o x none some = refl
not_missed true o x none some = absurd (let gone : o ≡ None = none refl in cc)

both_found : (first second : List Event) → NoneMissed first → NoneMissed second → NoneMissed (first ++ second)
both_found [] second one two = two
both_found (event ∷ first) second one two = (one.0, both_found first second one.1 two)

-- ---- no step

still_adds : (moves : Option (List Move)) → AddsTo moves moves
still_adds None = tt
still_adds (Some moves) = record { more = []; added = sym (append-nil moves) }

pub held_there : (name_of : List ℕ → List ℕ) (s : State) (shelf : OnShelf) (moves : Option (List Move)) → Holds name_of s shelf moves → HoldsState name_of s moves
held_there name_of s shelf moves h = (h.told, h.is, h.stands)

pub still_left : StillLaw → (name_of : List ℕ → List ℕ) (run : Run) (moves : Option (List Move)) → HoldsState name_of run.state moves → LeavesBehind name_of run run moves moves
still_left law name_of run moves h =
    let all = run.state.publications in
    record {
      adds = still_adds moves;
      grows = record { more = []; grown = sym (append-nil all) };
      prefixes = subst (λ (o : Option (List Move)). IfTold o o (LeavesPrefixes name_of all all)) (sym h.1)
          (subst (λ (ms : List Move). LeavesPrefixes name_of all all h.0 ms) (append-nil h.0) (law name_of run.state.pending all h.0 false false h.2.disk));
      more = [];
      came = sym (append-nil run.events);
      found = tt;
    }

-- ---- one after the other

adds_join : (before between now : Option (List Move)) → AddsTo before between → AddsTo between now → AddsTo before now
adds_join None None None one two = tt
adds_join None None (Some now) one two = absurd two
adds_join None (Some between) now one two = absurd one
adds_join (Some before) None now one two = absurd one
adds_join (Some before) (Some between) None one two = absurd two
adds_join (Some before) (Some between) (Some now) one two = record {
  more = one.more ++ two.more;
  added = two.added ∙ (ap (λ (ms : List Move). ms ++ two.more) one.added ∙ append_assoc before one.more two.more);
}

pub left_together : JoinLaw → (name_of : List ℕ → List ℕ) (start run next : Run) (before between now : Option (List Move)) → LeavesBehind name_of start run before between
    → LeavesBehind name_of run next between now → LeavesBehind name_of start next before now
left_together law name_of start run next before between now one two = record {
  adds = adds_join before between now one.adds two.adds;
  grows = record {
    more = one.grows.more ++ two.grows.more;
    grown = two.grows.grown ∙ (ap (λ (ps : List Publication). ps ++ two.grows.more) one.grows.grown ∙ append_assoc start.state.publications one.grows.more two.grows.more);
  };
  prefixes = law name_of start.state.publications run.state next.state before between now two.grows one.adds two.adds one.prefixes two.prefixes;
  more = one.more ++ two.more;
  came = two.came ∙ (ap (λ (es : List Event). es ++ two.more) one.came ∙ append_assoc start.events one.more two.more);
  found = both_found one.more two.more one.found two.found;
}
