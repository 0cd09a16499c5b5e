-- The import of a poll is told as the lane's progress has it.
use Rattle.std.proofs.Common.{◌≡◌, ℕ, suc, Bool, true, false, if◌then◌else◌, List, [], ◌∷◌, Option, Some, None, option_map, refl, sym, ap, ◌∙◌}
use Rattle.std.specs.Prelude.{unwrap_or}
use Rattle.ix_model.specs.Units.{Units}
use Rattle.ix_machine.specs.declared.event.Event.{Event}
use Rattle.ix_machine.specs.declared.event.Outcome.{Outcome}
use Rattle.ix_machine.specs.declared.event.Outcome.TheVariants.{Done, Written, Shared, Clash, Synced, Unsynced, NoUnit, At, Removed, Nothing, Fault, Lost, Damaged}
use Rattle.ix_lanes.specs.declared.answered.AskResult.{AskResult}
use Rattle.ix_lanes.specs.declared.doing.Doing.{Doing}
use Rattle.ix_lanes.specs.declared.doing.Doing.TheVariants.{Begun, Putting, Staged, Importing}
use Rattle.ix_lanes.specs.declared.doing.Kind.{Kind}
use Rattle.ix_lanes.specs.declared.doing.Kind.TheVariants as kind
use Rattle.ix_lanes.specs.Progress.{Progress, adopted, after_event, answered, ask_told, begun, build_goes_on, ended_at, goes_on, imported, is_asking, let_go, loaded_by, noted, over, poll_told, scanned, settled, settled_over, told, told_by, with_some}
use Rattle.ix_machine.specs.Outcomes.{is_done}
use Rattle.ix_lanes.specs.Tasks.{Task, Build, Remove, Poll, Refresh, Ask, Release, Collect, kind_of}
use Rattle.ix_model_run.specs.declared.progress.Import.{Import}
use Rattle.ix_model_run.specs.Importing.{IsImport, import_after}

-- a task that has begun imports nothing
begins : (p : Progress) (import : Import) → p.doing ≡ Begun → IsImport p import
begins p import e = λ mark records poll at. absurd (cc)

-- no poll imports nothing
no_poll : (p : Progress) (import : Import) (k : Kind) → kind_of p.tasks ≡ k → (kind.Poll ≡ k → ⊥) → IsImport p import
no_poll p import k e not_poll = λ mark records poll at. absurd (not_poll (sym poll ∙ e))

over_is : (p : Progress) (import : Import) → IsImport (over p) import
over_is p import = begins (over p) import refl

goes_on_is : (o : Option Doing) (p : Progress) (import : Import) → kind_of p.tasks ≡ kind.Build → IsImport (goes_on o p) import
goes_on_is None p import e = over_is p import
goes_on_is (Some doing) p import e = no_poll (record p { doing = doing }) import kind.Build e (λ same. absurd (cc))

imported_is : (doing : Doing) (p : Progress) (import : Import) → p.doing ≡ doing → kind_of p.tasks ≡ kind.Poll → IsImport p import → IsImport (imported doing p) (import_after Done import)
imported_is Begun p import e k is = over_is p (import_after Done import)
imported_is (Putting files) p import e k is = over_is p (import_after Done import)
imported_is Staged p import e k is = over_is p (import_after Done import)
imported_is (Importing mark records) p import e k is = λ m r poll at.
    let was = is mark records k e in
    let marks : mark ≡ m = cc in
    let more : suc records ≡ r = cc in
    (was.0 ∙ marks, ap (λ (n : ℕ). suc n) was.1 ∙ more)

scanned_is : (at : ℕ) (doing : Doing) (p : Progress) (import : Import) → IsImport (scanned at doing p) (import_after (At at) import)
scanned_is at Begun p import = λ mark records poll e. let marks : at ≡ mark = cc in let none : 0 ≡ records = cc in (marks, none)
scanned_is at (Putting files) p import = over_is p (import_after (At at) import)
scanned_is at Staged p import = over_is p (import_after (At at) import)
scanned_is at (Importing opened records) p import = over_is (record p { held = Some at; loaded = [] }) (import_after (At at) import)

poll_is : (outcome : Outcome) (p : Progress) (import : Import) → kind_of p.tasks ≡ kind.Poll → IsImport p import → IsImport (poll_told outcome p) (import_after outcome import)
poll_is Done p import k is = imported_is p.doing p import refl k is
poll_is Written p import k is = over_is p import
poll_is Shared p import k is = over_is p import
poll_is Clash p import k is = over_is p import
poll_is Synced p import k is = over_is p import
poll_is Unsynced p import k is = over_is p import
poll_is NoUnit p import k is = over_is p import
poll_is (At mark) p import k is = scanned_is mark p.doing p import
poll_is (Removed name) p import k is = over_is p import
poll_is Nothing p import k is = over_is p import
poll_is Fault p import k is = over_is p import
poll_is (Lost name) p import k is = over_is p import
poll_is (Damaged name) p import k is = over_is p import

asks_no_poll : (p : Progress) (import : Import) → kind_of p.tasks ≡ kind.Ask → IsImport p import
asks_no_poll p import k = no_poll p import kind.Ask k (λ same. absurd (cc))

ask_is : (outcome : Outcome) (p : Progress) (import : Import) → kind_of p.tasks ≡ kind.Ask → IsImport (ask_told outcome p) import
ask_is Done p import k = asks_no_poll p import k
ask_is Written p import k = asks_no_poll p import k
ask_is Shared p import k = asks_no_poll p import k
ask_is Clash p import k = asks_no_poll p import k
ask_is Synced p import k = asks_no_poll p import k
ask_is Unsynced p import k = asks_no_poll p import k
ask_is NoUnit p import k = asks_no_poll p import k
ask_is (At mark) p import k = asks_no_poll p import k
ask_is (Removed name) p import k = asks_no_poll p import k
ask_is Nothing p import k = asks_no_poll p import k
ask_is Fault p import k = begins (ask_told Fault p) import refl
ask_is (Lost name) p import k = begins (ask_told (Lost name) p) import refl
ask_is (Damaged name) p import k = begins (ask_told (Damaged name) p) import refl

told_by_is : (k : Kind) (outcome : Outcome) (p : Progress) (import : Import) → kind_of p.tasks ≡ k → IsImport p import → IsImport (told_by k outcome p) (import_after outcome import)
told_by_is kind.Ended outcome p import k is = no_poll p (import_after outcome import) kind.Ended k (λ same. absurd (cc))
told_by_is kind.Build outcome p import k is = goes_on_is (build_goes_on outcome p.doing) p (import_after outcome import) k
told_by_is kind.Remove outcome p import k is = over_is p (import_after outcome import)
told_by_is kind.Poll outcome p import k is = poll_is outcome p import k is
told_by_is kind.Refresh outcome p import k is = over_is (adopted outcome p) (import_after outcome import)
told_by_is kind.Ask outcome p import k is = ask_is outcome p (import_after outcome import) k
told_by_is kind.Release outcome p import k is = over_is (let_go p) (import_after outcome import)
told_by_is kind.Collect outcome p import k is = over_is p (import_after outcome import)

pub told_is : (outcome : Outcome) (p : Progress) (import : Import) → IsImport p import → IsImport (told outcome p) (import_after outcome import)
told_is outcome p import is = told_by_is (kind_of p.tasks) outcome p import refl is

with_some_is : (o : Option (List ℕ)) (p : Progress) (import : Import) → IsImport p import → IsImport (with_some o p) import
with_some_is None p import is = is
with_some_is (Some name) p import is = is

when_is : (a b : Bool) (o : Option (List ℕ)) (p : Progress) (import : Import) → IsImport p import → IsImport (if a then (if b then with_some o p else p) else p) import
when_is true true o p import is = with_some_is o p import is
when_is true false o p import is = is
when_is false b o p import is = is

pub noted_is : (event : Event) (p : Progress) (import : Import) → IsImport p import → IsImport (noted event p) import
noted_is event p import is = when_is (is_asking p) (is_done event.outcome) (loaded_by event.call) p import is

module _ (seen : ℕ → Units) (import : Import) where
  or_else_is : (f : AskResult → Progress) (p : Progress) (o : Option AskResult) → ((ended : AskResult) → IsImport (f ended) import) → IsImport p import
      → IsImport (unwrap_or (option_map f o) p) import
  or_else_is f p None each is = is
  or_else_is f p (Some ended) each is = each ended

  settled_over_is : (tasks : List Task) (p : Progress) → IsImport p import → IsImport (settled_over seen tasks p) import
  settled_over_is [] p is = is
  settled_over_is (Build job ∷ tasks) p is = is
  settled_over_is (Remove output ∷ tasks) p is = is
  settled_over_is (Poll ∷ tasks) p is = is
  settled_over_is (Refresh ∷ tasks) p is = is
  settled_over_is (Ask query ∷ tasks) p is = or_else_is (λ ended. settled_over seen tasks (answered ended p)) p (ended_at seen query p.held p.loaded)
      (λ ended. settled_over_is tasks (answered ended p) (begins (answered ended p) import refl)) is
  settled_over_is (Release ∷ tasks) p is = is
  settled_over_is (Collect ∷ tasks) p is = is

  pub settled_is : (p : Progress) → IsImport p import → IsImport (settled seen p) import
  settled_is p is = settled_over_is p.tasks p is

-- one event more
pub event_is : (seen : ℕ → Units) (event : Event) (p : Progress) (import : Import) → IsImport p import → IsImport (after_event seen p event) (import_after event.outcome import)
event_is seen event p import is =
    settled_is seen (import_after event.outcome import) (told event.outcome (noted event p)) (told_is event.outcome (noted event p) import (noted_is event p import is))

-- before the first event
pub begun_is : (seen : ℕ → Units) (tasks : List Task) (import : Import) → IsImport (settled seen (begun tasks)) import
begun_is seen tasks import = settled_is seen import (begun tasks) (begins (begun tasks) import refl)
