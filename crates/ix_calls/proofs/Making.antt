-- A lane's call, whichever turn it is.
use Rattle.std.proofs.Common.{◌≡◌, ◌⊎◌, inl, inr, ℕ, true, false, List, Option, Some, None, IfSome, IfOk, Result, Ok, Err, refl, sym, ap, subst, ◌∙◌}
use Rattle.ix_dir.specs.State.{DirState}
use Rattle.ix_shelf.specs.Shelf.{OnShelf}
use Rattle.ix_machine.specs.declared.event.Event.{Event}
use Rattle.ix_machine.specs.declared.event.Outcome.{Outcome}
use Rattle.ix_machine.specs.declared.event.Purpose.TheVariants as purpose
use Rattle.ix_machine.specs.Given.{Given}
use Rattle.ix_machine.specs.Run.{MayLoad}
use Rattle.ix_machine.specs.Sound.{MarksInOrder}
use Rattle.ix_machine.specs.State.{State}
use Rattle.ix_machine.specs.Step.{Stepped, ended, step}
use Rattle.ix_ledger.specs.Kept.{Kept}
use Rattle.ix_library.specs.declared.known.KnownStamps.{KnownStamps}
use Rattle.ix_library.specs.Looks.{MayLoadThere, StandsThere}
use Rattle.ix_library.specs.StandsFor.{StandsFor}
use Rattle.ix_import.specs.Importing.{Importing}
use Rattle.ix_lanes.specs.declared.doing.Doing.{Doing}
use Rattle.ix_lanes.specs.declared.doing.Doing.TheVariants as doings
use Rattle.ix_lanes.specs.Calls as turn
use Rattle.ix_lanes.specs.Calls.{Turn, next_turn}
use Rattle.ix_lanes.specs.Progress.{Progress, is_ask, is_asking}
use Rattle.ix_polls.specs.Following.{IsImporting, IsUnderWay, leaves_import}
use Rattle.ix_polls.specs.Polling.{FollowsThere}
use Rattle.ix_seats.specs.declared.made.Made.{Made}
use Rattle.ix_seats.specs.Made.{after}
use Rattle.ix_calls.specs.Calling.{IsMadeBeside, is_importing, outcome_of}
use Rattle.ix_calls.specs.Turns.{IsAtTurn, IsAtTurnThere, IsCall, IsTurnThere, is_asked}
use Rattle.ix_calls.proofs.Turning.{kind_for, kind_is}

on_ok : {X E : Type 0} (P Q : X → Type 0) → ((x : X) → P x → Q x) → (r : Result X E) → IfOk r P → IfOk r Q
on_ok P Q goes (Ok x) p = goes x p
on_ok P Q goes (Err e) p = tt

on_some : {X : Type 0} (P Q : Type 0) → (P → Q) → (o : Option X) → IfSome o (λ _. P) → IfSome o (λ _. Q)
on_some P Q goes None p = tt
on_some P Q goes (Some x) p = goes p

-- a lane that is at none wants none
no_way : (s : State) (lane : ℕ) (doing : Doing) (importing : Importing) → is_importing doing ≡ false → IsUnderWay s lane doing importing
no_way s lane doings.Begun importing off = tt
no_way s lane (doings.Putting files) importing off = tt
no_way s lane doings.Staged importing off = tt
no_way s lane (doings.Importing mark records) importing off = absurd (cc)

way_on : (s : State) (lane : ℕ) (before now : Doing) (importing : Importing) → (now ≡ before) ⊎ (is_importing now ≡ false) → IsUnderWay s lane before importing → IsUnderWay s lane now importing
way_on s lane before now importing (inl same) way = subst (λ (d : Doing). IsUnderWay s lane d importing) (sym same) way
way_on s lane before now importing (inr off) way = no_way s lane now importing off

-- steps that leave the import
pub record Leaving : Type 0 where
  pub follows : (name_of : List ℕ → List ℕ) (s : State) (lane : ℕ) (given : Given) (flag : Outcome) (stepped : Stepped) (importer : Importing) → MarksInOrder s → leaves_import given ≡ true
      → step name_of s lane given flag ≡ Some stepped → IsImporting s importer → IsImporting stepped.state importer
  pub under_way : (name_of : List ℕ → List ℕ) (s : State) (lane : ℕ) (given : Given) (flag : Outcome) (stepped : Stepped) (importer : Importing) (other : ℕ) (doing : Doing) → leaves_import given ≡ true
      → step name_of s lane given flag ≡ Some stepped → IsUnderWay s other doing importer → IsUnderWay stepped.state other doing importer

module _ (laws : Leaving) (name_of : List ℕ → List ℕ) (s : State) (lane : ℕ) (p : Progress) (earlier events : List Event) (before : DirState) (old_kept kept : Kept) (old_shelf shelf : OnShelf) (old_known known : KnownStamps) (dir : DirState) (importing : Importing) (wanted : Option (List ℕ))
    (stands : StandsFor name_of s old_kept old_shelf old_known before) (at : IsAtTurn s lane p importing wanted) where
  each_call : (made : Made) → IsMadeBeside name_of s lane p earlier before made events kept shelf known dir → IsCall name_of s lane p earlier before made events kept shelf known dir importing importing
  each_call made m = record {
    is = m.is;
    imports = laws.follows name_of s lane m.is.given _ (ended (outcome_of made) m.is.takes.next) importing stands.keeps.sound.marks m.beside m.is.takes.taken at.imports;
    way = way_on m.is.takes.next lane p.doing (after made p).doing importing m.doing (laws.under_way name_of s lane m.is.given _ (ended (outcome_of made) m.is.takes.next) importing lane p.doing m.beside m.is.takes.taken at.way);
    aside = λ leaves. refl;
  }

  pub beside_calls : {E : Type 0} (r : Result Made E) → IfOk r (λ made. IsMadeBeside name_of s lane p earlier before made events kept shelf known dir)
      → IfOk r (λ made. IsCall name_of s lane p earlier before made events kept shelf known dir importing importing)
  beside_calls r m =
      on_ok (λ made. IsMadeBeside name_of s lane p earlier before made events kept shelf known dir) (λ made. IsCall name_of s lane p earlier before made events kept shelf known dir importing importing) each_call r m

-- ---- what a turn's call wants

module _ (name_of : List ℕ → List ℕ) (kept : Kept) (shelf : OnShelf) (known : KnownStamps) (dir : DirState) (lane : ℕ) (t : Turn) (importing : Importing) (wanted : Option (List ℕ)) where
  abbrev There : Type 0
  There = (p : Progress) × ((next_turn p ≡ Some t) × ((s : State) × (StandsFor name_of s kept shelf known dir × IsAtTurn s lane p importing wanted)))

  pub scan_there : IsTurnThere name_of kept shelf known dir lane t importing wanted → StandsThere name_of kept shelf known dir
  scan_there there = on_some There ((s : State) × StandsFor name_of s kept shelf known dir) (λ th. (th.1.1.0, th.1.1.1.0)) dir.moves there

  pub follows_there : IsTurnThere name_of kept shelf known dir lane t importing wanted → FollowsThere name_of kept shelf known dir importing
  follows_there there = on_some There ((s : State) × StandsFor name_of s kept shelf known dir × IsImporting s importing) (λ th. (th.1.1.0, th.1.1.1.0, th.1.1.1.1.imports)) dir.moves there

  needed_at : (name : List ℕ) → wanted ≡ Some name → There → (s : State) × StandsFor name_of s kept shelf known dir × MayLoad s lane name purpose.Ask
  needed_at name is th = (th.1.1.0, th.1.1.1.0, subst (λ (o : Option (List ℕ)). IfSome o (λ n. MayLoad th.1.1.0 lane n purpose.Ask)) is th.1.1.1.1.needed)

  pub load_there : IsTurnThere name_of kept shelf known dir lane t importing wanted → (name : List ℕ) → wanted ≡ Some name → MayLoadThere name_of kept shelf known dir lane name purpose.Ask
  load_there there name is = on_some There ((s : State) × StandsFor name_of s kept shelf known dir × MayLoad s lane name purpose.Ask) (needed_at name is) dir.moves there

-- ---- a lane's turn

asked_as : (t : Turn) → is_ask (kind_for t) ≡ is_asked t
asked_as (turn.Lease names) = refl
asked_as (turn.Put body) = refl
asked_as (turn.Stage unit) = refl
asked_as turn.Publish = refl
asked_as (turn.Remove output) = refl
asked_as turn.Scan = refl
asked_as turn.Import = refl
asked_as turn.Adopt = refl
asked_as turn.Release = refl
asked_as turn.Collect = refl
asked_as (turn.Ask query) = refl

-- an ask is under way exactly where the turn is an ask's
pub asking_as : (p : Progress) (t : Turn) → next_turn p ≡ Some t → is_asking p ≡ is_asked t
asking_as p t at = ap is_ask (kind_is p t at) ∙ asked_as t

pub turn_there : (name_of : List ℕ → List ℕ) (kept : Kept) (shelf : OnShelf) (known : KnownStamps) (dir : DirState) (lane : ℕ) (p : Progress) (t : Turn) (importing : Importing) (wanted : Option (List ℕ)) → next_turn p ≡ Some t
    → IsAtTurnThere name_of kept shelf known dir lane p importing wanted → IsTurnThere name_of kept shelf known dir lane t importing wanted
turn_there name_of kept shelf known dir lane p t importing wanted at there =
    on_some ((s : State) × (StandsFor name_of s kept shelf known dir × IsAtTurn s lane p importing wanted)) (There name_of kept shelf known dir lane t importing wanted) (λ th. (p, (at, th))) dir.moves there
