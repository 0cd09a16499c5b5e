-- A seat stays one as its lane's call is told: where nothing is taken up, where a version is, and where it is let go.
use Rattle.std.proofs.Common.{◌≡◌, ◌⊎◌, inl, inr, ℕ, List, [], Option, Some, None, IfSome, refl, sym, ap, ◌∙◌, subst}
use Rattle.ix_types.specs.Row.{text_cmp}
use Rattle.ix_model.specs.SortedSet.{sorted_set, IsSortedSetOf}
use Rattle.ix_model.specs.Units.{Units, NamesRise}
use Rattle.ix_machine.specs.declared.event.Outcome.{Outcome}
use Rattle.ix_machine.specs.declared.event.Outcome.TheVariants.{Done, Written, Shared, Clash, Synced, Unsynced, NoUnit, At, Removed, Nothing, Fault, Lost, Damaged}
use Rattle.ix_lookups.specs.Loaded.{Loaded}
use Rattle.ix_needs.specs.Premises.{Holds, AreValued}
use Rattle.ix_tables.specs.declared.tables.Version.{Version}
use Rattle.ix_lanes.specs.declared.doing.Doing.{Doing}
use Rattle.ix_lanes.specs.declared.doing.Doing.TheVariants.{Begun, Putting, Staged, Importing}
use Rattle.ix_lanes.specs.declared.doing.Kind.{Kind}
use Rattle.ix_lanes.specs.declared.doing.Kind.TheVariants as kind
use Rattle.ix_lanes.specs.Progress.{Progress, told, told_by, goes_on, build_goes_on, scanned, imported, poll_told, adopted, ask_told}
use Rattle.ix_lanes.specs.Tasks.{kind_of}
use Rattle.ix_lanes.specs.Views.{Under, rising_names}
use Rattle.ix_asking.specs.Open.{IsOpen}
use Rattle.ix_asking.specs.declared.open_ask.OpenAsk.{OpenAsk}
use Rattle.ix_seats.specs.Seated.{Seated, asked}
use Rattle.ix_seats.specs.Seats.{HasVersion, IsVersionAt, IsSeat}
use Rattle.ix_seats.proofs.Names.{nothing-loaded}
use Rattle.ix_seats.proofs.Keeping.{AreAmong, fewer-hold, fewer-held}

-- ---- what is held and loaded after a call

-- nothing is loaded, or what was held is held
abbrev IsFreshOrHeld : Progress → Progress → Type 0
IsFreshOrHeld after before = (after.loaded ≡ []) ⊎ (after.held ≡ before.held)

stays : (next : Option Doing) (p : Progress) → IsFreshOrHeld (goes_on next p) p
stays None p = inr refl
stays (Some doing) p = inr refl

imports : (doing : Doing) (p : Progress) → IsFreshOrHeld (imported doing p) p
imports Begun p = inr refl
imports (Putting files) p = inr refl
imports Staged p = inr refl
imports (Importing mark records) p = inr refl

scans : (mark : ℕ) (doing : Doing) (p : Progress) → IsFreshOrHeld (scanned mark doing p) p
scans mark Begun p = inr refl
scans mark (Putting files) p = inr refl
scans mark Staged p = inr refl
scans mark (Importing opened records) p = inl refl

polls : (outcome : Outcome) (p : Progress) → IsFreshOrHeld (poll_told outcome p) p
polls Done p = imports p.doing p
polls Written p = inr refl
polls Shared p = inr refl
polls Clash p = inr refl
polls Synced p = inr refl
polls Unsynced p = inr refl
polls NoUnit p = inr refl
polls (At mark) p = scans mark p.doing p
polls (Removed name) p = inr refl
polls Nothing p = inr refl
polls Fault p = inr refl
polls (Lost name) p = inr refl
polls (Damaged name) p = inr refl

adopts : (outcome : Outcome) (p : Progress) → IsFreshOrHeld (adopted outcome p) p
adopts Done p = inr refl
adopts Written p = inr refl
adopts Shared p = inr refl
adopts Clash p = inr refl
adopts Synced p = inr refl
adopts Unsynced p = inr refl
adopts NoUnit p = inr refl
adopts (At mark) p = inl refl
adopts (Removed name) p = inr refl
adopts Nothing p = inr refl
adopts Fault p = inr refl
adopts (Lost name) p = inr refl
adopts (Damaged name) p = inr refl

asks : (outcome : Outcome) (p : Progress) → IsFreshOrHeld (ask_told outcome p) p
asks Done p = inr refl
asks Written p = inr refl
asks Shared p = inr refl
asks Clash p = inr refl
asks Synced p = inr refl
asks Unsynced p = inr refl
asks NoUnit p = inr refl
asks (At mark) p = inr refl
asks (Removed name) p = inr refl
asks Nothing p = inr refl
asks Fault p = inr refl
asks (Lost name) p = inr refl
asks (Damaged name) p = inr refl

fresh-or-held : (kind : Kind) (outcome : Outcome) (p : Progress) → IsFreshOrHeld (told_by kind outcome p) p
fresh-or-held kind.Ended outcome p = inr refl
fresh-or-held kind.Build outcome p = stays (build_goes_on outcome p.doing) p
fresh-or-held kind.Remove outcome p = inr refl
fresh-or-held kind.Poll outcome p = polls outcome p
fresh-or-held kind.Refresh outcome p = adopts outcome p
fresh-or-held kind.Ask outcome p = asks outcome p
fresh-or-held kind.Release outcome p = inl refl
fresh-or-held kind.Collect outcome p = inr refl

-- ---- the seat then

-- what telling a call leaves
pub record IsTold (outcome : Outcome) (before : Under) (after : Seated) (version : Option Version) : Type 0 where
  pub progress : after.lane.progress ≡ told outcome before.progress
  pub bodies : AreAmong after.lane.bodies before.bodies
  pub names : after.lane.progress.loaded ≡ rising_names after.lane.bodies
  pub version_is : after.version ≡ version
  pub ask : after.ask ≡ None

module _ (seen : ℕ → Units) (outcome : Outcome) (before : Under) (after : Seated) where
  closed : (version : Option Version) → IsTold outcome before after version → (held : Option ℕ) → (told outcome before.progress).held ≡ held → HasVersion seen held version
      → IfSome held (λ mark. Holds (seen mark) after.lane.bodies) → IsSeat seen after
  closed version is held held_is has holds =
      let then_held : after.lane.progress.held ≡ held = ap (λ (p : Progress). p.held) is.progress ∙ held_is in
      record {
        version = subst (λ (h : Option ℕ). HasVersion seen h after.version) (sym then_held) (subst (λ (v : Option Version). HasVersion seen held v) (sym is.version_is) has);
        bodies = subst (λ (h : Option ℕ). IfSome h (λ mark. Holds (seen mark) after.lane.bodies)) (sym then_held) holds;
        asks = subst (λ (o : Option OpenAsk). IfSome o (λ opened. IfSome after.lane.progress.held (λ mark. IfSome (asked after.lane.progress) (λ query. IsOpen query (seen mark) after.lane.bodies opened)))) (sym is.ask) tt;
      }

  pub ended-seat : (version : Option Version) (ask : Option OpenAsk) → IsTold outcome before after version → (told outcome before.progress).held ≡ before.progress.held
      → IsSeat seen (record { lane = before; version = version; ask = ask }) → IsSeat seen after
  ended-seat version ask is same seat =
      closed version is before.progress.held same seat.version (fewer-held seen before.progress.held before.bodies after.lane.bodies is.bodies seat.bodies)

  pub let-go-seat : IsTold outcome before after None → (told outcome before.progress).held ≡ None → IsSeat seen after
  let-go-seat is none = closed None is None none tt tt

  module _ (sorted : (texts : List (List ℕ)) → IsSortedSetOf text_cmp texts (sorted_set text_cmp texts)) (nothing : (units : Units) (bodies : Loaded) → NamesRise units → AreValued units → bodies.entries ≡ [] → Holds units bodies) where
    holds-then : (mark : ℕ) (version : Version) → IsTold outcome before after (Some version) → (told outcome before.progress).held ≡ Some mark → IsVersionAt seen mark version
        → IfSome before.progress.held (λ mark. Holds (seen mark) before.bodies) → IsFreshOrHeld (told outcome before.progress) before.progress → Holds (seen mark) after.lane.bodies
    holds-then mark version is held at holds (inl fresh) =
        nothing (seen mark) after.lane.bodies at.rises at.tables.whole
        (nothing-loaded sorted after.lane.bodies (sym is.names ∙ (ap (λ (p : Progress). p.loaded) is.progress ∙ fresh)))
    holds-then mark version is held at holds (inr same) =
        fewer-hold (seen mark) before.bodies after.lane.bodies is.bodies (subst (λ (h : Option ℕ). IfSome h (λ mark. Holds (seen mark) before.bodies)) (sym same ∙ held) holds)

    pub taken-up-seat : (mark : ℕ) (version : Version) → IsTold outcome before after (Some version) → (told outcome before.progress).held ≡ Some mark → IsVersionAt seen mark version
        → IfSome before.progress.held (λ mark. Holds (seen mark) before.bodies) → IsSeat seen after
    taken-up-seat mark version is held at holds =
        closed (Some version) is (Some mark) held at
        (holds-then mark version is held at holds (fresh-or-held (kind_of before.progress.tasks) outcome before.progress))
