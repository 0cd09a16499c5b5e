-- Calls of which the turn alone says what they are: those of builds, removals, releases and collects.
use Rattle.std.proofs.Common.{◌≡◌, inr, ℕ, zero, suc, Bool, true, false, if◌then◌else◌, List, [], ◌∷◌, ◌++◌, map, Option, Some, None, IfOk, Result, Ok, Err, option_map, option_and_then, unwrap_or, slice_index_or, refl, sym, ap, subst, ◌∙◌}
use Rattle.ix_dir.specs.State.{DirState}
use Rattle.ix_shelf.specs.Shelf.{OnShelf}
use Rattle.ix_unit.specs.declared.value.UnitValue.{UnitValue}
use Rattle.ix_model.specs.Units.{Units}
use Rattle.ix_machine.specs.declared.event.Call.{Call}
use Rattle.ix_machine.specs.declared.event.Call.TheVariants as call
use Rattle.ix_machine.specs.declared.event.Event.{Event}
use Rattle.ix_machine.specs.declared.event.Outcome.{Outcome}
use Rattle.ix_machine.specs.Given.{Given}
use Rattle.ix_machine.specs.Given as given
use Rattle.ix_machine.specs.Needs.{seen_at}
use Rattle.ix_machine.specs.State as state
use Rattle.ix_machine.specs.State.{State, lease_of}
use Rattle.ix_machine.specs.Step.{ended, staged_by, step}
use Rattle.ix_guard.specs.Guarding as guarding
use Rattle.ix_guard.specs.OfMachine.{lease_for}
use Rattle.ix_ledger.specs.Kept.{Kept, staged_in}
use Rattle.ix_ledger.specs.OfState.{Keeps, staged_under}
use Rattle.ix_library.specs.declared.known.KnownStamps.{KnownStamps}
use Rattle.ix_library.specs.Endings.{flag_for, name_of_unit, publish_name, with_event}
use Rattle.ix_library.specs.StandsFor.{Takes}
use Rattle.ix_lanes.specs.declared.doing.Kind.{Kind}
use Rattle.ix_lanes.specs.declared.doing.Kind.TheVariants as kind
use Rattle.ix_lanes.specs.Calls as turn
use Rattle.ix_lanes.specs.Calls.{Turn, call_for, next_call, next_turn}
use Rattle.ix_lanes.specs.Progress.{Progress, build_goes_on, is_ask, is_asking, loaded_by, noted, told, told_by, with_some}
use Rattle.ix_machine.specs.Outcomes.{is_done}
use Rattle.ix_lanes.specs.Tasks.{kind_of}
use Rattle.ix_replays.specs.Run.{call_of, flag_of}
use Rattle.ix_polls.specs.Following.{leaves_import}
use Rattle.ix_seats.specs.declared.made.Made.{Made}
use Rattle.ix_seats.specs.declared.made.Made.TheVariants.{Ended, LetGo}
use Rattle.ix_turns.specs.Ended.{ending}
use Rattle.ix_calls.specs.Calling.{IsMadeBeside, ended_as, event_of, is_importing, let_go_as}
use Rattle.ix_calls.proofs.Flags.{flags_agree}
use Rattle.ix_calls.proofs.Turning.{build_beside, goes_beside, goes_held, kind_for, kind_is, some_is}

-- ---- what the state says of a lane's lease

lease_at : (leases : List (Option state.Lease)) (lane : ℕ) → slice_index_or (map (option_map lease_for) leases) lane None ≡ option_map lease_for (slice_index_or leases lane None)
lease_at [] zero = refl
lease_at [] (suc lane) = refl
lease_at (o ∷ leases) zero = refl
lease_at (o ∷ leases) (suc lane) = lease_at leases lane

none_for : (o : Option state.Lease) → option_map lease_for o ≡ None → o ≡ None
none_for None is = refl
none_for (Some l) is = absurd (cc)

-- a lane with no lease in what is kept has none in the state
pub free_as : (name_of : List ℕ → List ℕ) (kept : Kept) (s : State) (lane : ℕ) → Keeps name_of kept s → guarding.lease_of kept.guard lane ≡ None → lease_of s lane ≡ None
free_as name_of kept s lane keeps free =
    none_for (lease_of s lane) (sym (lease_at s.leases lane) ∙ (sym (ap (λ (k : Kept). guarding.lease_of k.guard lane) keeps.is) ∙ free))

staged_at : (leases : List (Option state.Lease)) (lane : ℕ) → slice_index_or (map staged_under leases) lane None ≡ staged_under (slice_index_or leases lane None)
staged_at [] zero = refl
staged_at [] (suc lane) = refl
staged_at (o ∷ leases) zero = refl
staged_at (o ∷ leases) (suc lane) = staged_at leases lane

named_by : (name_of : List ℕ → List ℕ) (o : Option UnitValue) → name_of_unit name_of o ≡ unwrap_or (option_map (λ unit. name_of unit.output) o) []
named_by name_of None = refl
named_by name_of (Some unit) = refl

-- what is published is what the state says that the lane has staged
pub published_as : (name_of : List ℕ → List ℕ) (kept : Kept) (s : State) (lane : ℕ) → Keeps name_of kept s → ◌≡◌ {A = Call} (call.Publish (publish_name name_of kept lane)) (call_of name_of s lane given.Publish)
published_as name_of kept s lane keeps =
    ap call.Publish (ap (λ (k : Kept). name_of_unit name_of (staged_in k lane)) keeps.is ∙ (ap (name_of_unit name_of) (staged_at s.leases lane) ∙ named_by name_of (staged_by s lane)))

-- ---- a turn and its call

-- the call of a turn that ends and gives nothing
abbrev pub ended_given : Turn → Option Given
ended_given (turn.Lease names) = Some (given.Lease names)
ended_given (turn.Put body) = Some (given.Put body)
ended_given (turn.Stage unit) = Some (given.Stage unit)
ended_given turn.Publish = Some given.Publish
ended_given (turn.Remove output) = Some (given.Remove output)
ended_given turn.Scan = None
ended_given turn.Import = None
ended_given turn.Adopt = None
ended_given turn.Release = None
ended_given turn.Collect = Some given.Collect
ended_given (turn.Ask query) = None

called : (seen : ℕ → Units) (current : ℕ) (p : Progress) (t : Turn) (g : Given) → ended_given t ≡ Some g → call_for seen current p t ≡ Some g
called seen current p (turn.Lease names) g is = is
called seen current p (turn.Put body) g is = is
called seen current p (turn.Stage unit) g is = is
called seen current p turn.Publish g is = is
called seen current p (turn.Remove output) g is = is
called seen current p turn.Scan g is = absurd (cc)
called seen current p turn.Import g is = absurd (cc)
called seen current p turn.Adopt g is = absurd (cc)
called seen current p turn.Release g is = absurd (cc)
called seen current p turn.Collect g is = is
called seen current p (turn.Ask query) g is = absurd (cc)

beside : (t : Turn) (g : Given) → ended_given t ≡ Some g → leaves_import g ≡ true
beside (turn.Lease names) g is = sym (ap leaves_import (some_is is))
beside (turn.Put body) g is = sym (ap leaves_import (some_is is))
beside (turn.Stage unit) g is = sym (ap leaves_import (some_is is))
beside turn.Publish g is = sym (ap leaves_import (some_is is))
beside (turn.Remove output) g is = sym (ap leaves_import (some_is is))
beside turn.Scan g is = absurd (cc)
beside turn.Import g is = absurd (cc)
beside turn.Adopt g is = absurd (cc)
beside turn.Release g is = absurd (cc)
beside turn.Collect g is = sym (ap leaves_import (some_is is))
beside (turn.Ask query) g is = absurd (cc)

-- what is so of a lane that makes such a turn
record Sure (p : Progress) (how : Outcome) (k : Kind) : Type 0 where
  held : (told_by k how p).held ≡ p.held
  doing : is_importing (told_by k how p).doing ≡ false
  asks : is_ask k ≡ false

build_sure : (p : Progress) (how : Outcome) → Sure p how kind.Build
build_sure p how = record { held = goes_held (build_goes_on how p.doing) p; doing = goes_beside (build_goes_on how p.doing) p (build_beside how p.doing); asks = refl }

sure : (p : Progress) (how : Outcome) (t : Turn) (g : Given) → ended_given t ≡ Some g → Sure p how (kind_for t)
sure p how (turn.Lease names) g is = build_sure p how
sure p how (turn.Put body) g is = build_sure p how
sure p how (turn.Stage unit) g is = build_sure p how
sure p how turn.Publish g is = build_sure p how
sure p how (turn.Remove output) g is = record { held = refl; doing = refl; asks = refl }
sure p how turn.Scan g is = absurd (cc)
sure p how turn.Import g is = absurd (cc)
sure p how turn.Adopt g is = absurd (cc)
sure p how turn.Release g is = absurd (cc)
sure p how turn.Collect g is = record { held = refl; doing = refl; asks = refl }
sure p how (turn.Ask query) g is = absurd (cc)

-- a lane that asks for nothing notes nothing
pub unnoted : (event : Event) (p : Progress) → is_asking p ≡ false → noted event p ≡ p
unnoted event p is = ap (λ (b : Bool). if b then (if is_done event.outcome then with_some (loaded_by event.call) p else p) else p) is

module _ (name_of : List ℕ → List ℕ) (s : State) (lane : ℕ) (p : Progress) (earlier events : List Event) (before : DirState) (kept : Kept) (shelf : OnShelf) (known : KnownStamps) (dir : DirState) where
  abbrev pub WasTaken : Given → Outcome → Type 0
  WasTaken g how = Takes name_of s lane g (flag_for how) how before kept shelf known dir

  abbrev pub WasMade : Made → Type 0
  WasMade made = IsMadeBeside name_of s lane p earlier before made events kept shelf known dir

  -- with the flag that a run shows
  abbrev pub flagged : (g : Given) (how : Outcome) → WasTaken g how → Takes name_of s lane g (flag_of how) how before kept shelf known dir
  flagged g how takes = record {
    next = takes.next;
    taken = subst (λ (flag : Outcome). step name_of s lane g flag ≡ Some (ended how takes.next)) (flags_agree how) takes.taken;
    stands = takes.stands;
    adds = takes.adds;
    leaves = takes.leaves;
    waits = takes.waits;
  }

  ended_made : (t : Turn) (g : Given) → next_turn p ≡ Some t → ended_given t ≡ Some g → (how : Outcome) → WasTaken g how → events ≡ earlier ++ event_of lane (call_of name_of s lane g) (Ended how) ∷ [] → WasMade (Ended how)
  ended_made t g at of how takes event =
      let kind = kind_is p t at in
      let facts : Sure p how (kind_of p.tasks) = subst (λ (k : Kind). Sure p how k) (sym kind) (sure p how t g of) in
      record {
        is = record {
          given = g;
          call = ap (option_and_then (call_for (seen_at s) s.current p)) at ∙ called (seen_at s) s.current p t g of;
          takes = flagged g how takes;
          event = event;
          gives = facts.held;
          tells = ap (told how) (sym (unnoted (event_of lane (call_of name_of s lane g) (Ended how)) p facts.asks));
        };
        beside = beside t g of;
        doing = inr facts.doing;
      }

  each_ended : {E : Type 0} (t : Turn) (g : Given) → next_turn p ≡ Some t → ended_given t ≡ Some g → (r : Result Outcome E) → IfOk r (λ how. WasTaken g how)
      → events ≡ with_event earlier lane (call_of name_of s lane g) (ending r) → IfOk (ended_as r) (λ made. WasMade made)
  each_ended t g at of (Ok how) takes event = ended_made t g at of how takes event
  each_ended t g at of (Err e) takes event = tt

  pub ended_calls : {E : Type 0} (t : Turn) (g : Given) → next_turn p ≡ Some t → ended_given t ≡ Some g → (r : Result Outcome E) (x : Result Made E) → x ≡ ended_as r → IfOk r (λ how. WasTaken g how)
      → events ≡ with_event earlier lane (call_of name_of s lane g) (ending r) → IfOk x (λ made. WasMade made)
  ended_calls {E} t g at of r x is takes event = subst (λ (y : Result Made E). IfOk y (λ made. WasMade made)) (sym is) (each_ended t g at of r takes event)

  let_go_made : next_turn p ≡ Some turn.Release → (how : Outcome) → WasTaken given.Release how → events ≡ earlier ++ event_of lane call.Release (LetGo how) ∷ [] → WasMade (LetGo how)
  let_go_made at how takes event =
      let kind : kind_of p.tasks ≡ kind.Release = kind_is p turn.Release at in
      record {
        is = record {
          given = given.Release;
          call = ap (option_and_then (call_for (seen_at s) s.current p)) at;
          takes = flagged given.Release how takes;
          event = event;
          gives = ap (λ (k : Kind). (told_by k how p).held) kind;
          tells = ap (told how) (sym (unnoted (event_of lane call.Release (LetGo how)) p (ap is_ask kind)));
        };
        beside = refl;
        doing = inr (ap (λ (k : Kind). is_importing (told_by k how p).doing) kind);
      }

  each_let_go : {E : Type 0} → next_turn p ≡ Some turn.Release → (r : Result Outcome E) → IfOk r (λ how. WasTaken given.Release how) → events ≡ with_event earlier lane call.Release (ending r) → IfOk (let_go_as r) (λ made. WasMade made)
  each_let_go at (Ok how) takes event = let_go_made at how takes event
  each_let_go at (Err e) takes event = tt

  pub let_go_calls : {E : Type 0} → next_turn p ≡ Some turn.Release → (r : Result Outcome E) (x : Result Made E) → x ≡ let_go_as r → IfOk r (λ how. WasTaken given.Release how)
      → events ≡ with_event earlier lane call.Release (ending r) → IfOk x (λ made. WasMade made)
  let_go_calls {E} at r x is takes event = subst (λ (y : Result Made E). IfOk y (λ made. WasMade made)) (sym is) (each_let_go at r takes event)
