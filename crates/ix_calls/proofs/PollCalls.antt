-- Turns of polls, and refreshes.
use Rattle.std.proofs.Common.{◌≡◌, ℕ, Bool, true, false, List, [], ◌∷◌, ◌++◌, Option, Some, None, option_map, refl, sym, ap, ◌∙◌}
use Rattle.std.specs.declared.alloc.Global.{Global}
use Rattle.std.specs.declared.sync.Arc.{Arc}
use Rattle.ix_dir.specs.State.{DirState}
use Rattle.ix_shelf.specs.Shelf.{OnShelf}
use Rattle.ix_model.specs.declared.publication.Publication.{Publication}
use Rattle.ix_model.specs.Units.{NamesRise, units_at}
use Rattle.ix_machine.specs.declared.event.Call.{Call}
use Rattle.ix_machine.specs.declared.event.Event.{Event}
use Rattle.ix_machine.specs.declared.event.Outcome.{Outcome}
use Rattle.ix_machine.specs.Given.{Given}
use Rattle.ix_machine.specs.Needs.{seen_at}
use Rattle.ix_machine.specs.State.{State}
use Rattle.ix_ledger.specs.Books.{event}
use Rattle.ix_ledger.specs.Kept.{Kept}
use Rattle.ix_library.specs.declared.known.KnownStamps.{KnownStamps}
use Rattle.ix_import.specs.Importing.{Importing}
use Rattle.ix_lanes.specs.Calls.{Turn, load_or_install, next_turn}
use Rattle.ix_lanes.specs.Progress.{Progress, is_ask, is_asking, told}
use Rattle.ix_polls.specs.Following.{leaves_import}
use Rattle.ix_polls.specs.Polling.{HoldsNow, Polls, import_shows}
use Rattle.ix_replays.specs.Run.{call_of}
use Rattle.ix_seats.specs.declared.made.Made.{Made}
use Rattle.ix_seats.specs.Made.{IsGiven}
use Rattle.ix_tables.specs.declared.tables.Version.{Version}
use Rattle.ix_calls.specs.Calling.{IsNoted, event_of, made_by, outcome_of}
use Rattle.ix_calls.specs.Turns.{IsCall}
use Rattle.ix_calls.proofs.Beside.{flagged, unnoted}
use Rattle.ix_calls.proofs.Turning.{kind_for, kind_is}

-- the call of a turn of an open import is the one that its event shows
pub shows : (name_of : List ℕ → List ℕ) (s : State) (lane : ℕ) (o : Option (List ℕ)) → import_shows o ≡ call_of name_of s lane (load_or_install o)
shows name_of s lane None = refl
shows name_of s lane (Some name) = refl

-- an event of a call that ended as the lane is told
pub noted_by : (earlier events : List Event) (lane : ℕ) (called : Call) (how : Outcome) (made : Made) → outcome_of made ≡ how → events ≡ earlier ++ event lane called how ∷ [] → IsNoted earlier lane (Some made) events
noted_by earlier events lane called how made is noted_so = (called, noted_so ∙ ap (λ (h : Outcome). earlier ++ event lane called h ∷ []) (sym is))

-- a scan and a turn of an open import leave no importer alone
pub never : {P : Type 0} → ◌≡◌ {A = Bool} false true → P
never is = absurd (cc)

pub import_never : {P : Type 0} (o : Option (List ℕ)) → leaves_import (load_or_install o) ≡ true → P
import_never None is = absurd (cc)
import_never (Some name) is = absurd (cc)

module _ (rises : (publications : List Publication) (n : ℕ) → NamesRise (units_at publications n)) where
  given_is : (t : State) (outcome : Outcome) (o : Option (Arc Version Global)) (p : Progress) → HoldsNow (seen_at t) p.held (told outcome p).held (option_map (λ (v : Arc Version Global). v.value) o)
      → IsGiven (seen_at t) p (made_by outcome o)
  given_is t outcome None p holds = holds
  given_is t outcome (Some version) p holds = (version.value.number, holds.0, record { number = refl; rises = rises t.publications version.value.number; tables = holds.1 })

  module _ (name_of : List ℕ → List ℕ) (s : State) (lane : ℕ) (p : Progress) (earlier events : List Event) (before : DirState) (kept : Kept) (shelf : OnShelf) (known : KnownStamps) (dir : DirState) (before_it importing : Importing) where
    pub polled_call : (t : Turn) → next_turn p ≡ Some t → is_ask (kind_for t) ≡ false → (g : Given) (outcome : Outcome) (o : Option (Arc Version Global))
        → Polls name_of s lane p g outcome (option_map (λ (v : Arc Version Global). v.value) o) before kept shelf known dir importing
        → events ≡ earlier ++ event lane (call_of name_of s lane g) outcome ∷ [] → (leaves_import g ≡ true → importing ≡ before_it) → IsCall name_of s lane p earlier before (made_by outcome o) events kept shelf known dir before_it importing
    polled_call t at off g outcome None polls noted_so aside =
        let asks : is_asking p ≡ false = ap is_ask (kind_is p t at) ∙ off in
        let took = flagged name_of s lane p earlier events before kept shelf known dir g outcome polls.takes in
        record {
          is = record {
            given = g;
            call = polls.next;
            takes = took;
            event = noted_so;
            gives = given_is took.next outcome None p polls.holds;
            tells = ap (told outcome) (sym (unnoted (event_of lane (call_of name_of s lane g) (made_by outcome None)) p asks));
          };
          imports = polls.imports;
          way = polls.under_way;
          aside = aside;
        }
    polled_call t at off g outcome (Some version) polls noted_so aside =
        let asks : is_asking p ≡ false = ap is_ask (kind_is p t at) ∙ off in
        let took = flagged name_of s lane p earlier events before kept shelf known dir g outcome polls.takes in
        record {
          is = record {
            given = g;
            call = polls.next;
            takes = took;
            event = noted_so;
            gives = given_is took.next outcome (Some version) p polls.holds;
            tells = ap (told outcome) (sym (unnoted (event_of lane (call_of name_of s lane g) (made_by outcome (Some version))) p asks));
          };
          imports = polls.imports;
          way = polls.under_way;
          aside = aside;
        }
