-- A load is the machine's step, and gives the value that the units have.
use Rattle.std.proofs.Common.{◌≡◌, ℕ, true, List, refl, sym, ap, subst, ◌∙◌, Option, Some, None, option_map, IfSome}
use Rattle.ix_dir.specs.declared.moves.Move.{Move}
use Rattle.ix_dir.specs.State.{DirState}
use Rattle.ix_record.specs.declared.value.RecordValue.{RecordValue}
use Rattle.ix_shelf.specs.Answers as answers
use Rattle.ix_shelf.specs.Shelf.{OnShelf}
use Rattle.ix_shelf.specs.declared.fault.LoadError.{LoadError}
use Rattle.ix_shelf.specs.declared.fault.LoadError.TheVariants as load
use Rattle.ix_model.specs.Units.{Units}
use Rattle.ix_machine.specs.declared.event.Outcome.{Outcome}
use Rattle.ix_machine.specs.declared.event.Outcome.TheVariants as outcome
use Rattle.ix_machine.specs.declared.event.Purpose.{Purpose}
use Rattle.ix_machine.specs.declared.event.Purpose.TheVariants as purposes
use Rattle.ix_machine.specs.Given as given
use Rattle.ix_machine.specs.Needs.{units_need, seen_at}
use Rattle.ix_machine.specs.Run.{MayCall, MayLoad}
use Rattle.ix_machine.specs.Sound.{RecordsStand}
use Rattle.ix_machine.specs.State as state
use Rattle.ix_machine.specs.State.{State, held_by}
use Rattle.ix_machine.specs.Step as calls
use Rattle.ix_ledger.specs.Effects as effect
use Rattle.ix_ledger.specs.Effects.{IsFailureOf}
use Rattle.ix_ledger.specs.Kept.{Kept}
use Rattle.ix_ledger.specs.OfState.{Keeps, Makes}
use Rattle.ix_changes.specs.Holds.{Holds}
use Rattle.ix_looks.specs.Values.{HasValue}
use Rattle.ix_library.specs.declared.known.KnownStamps.{KnownStamps}
use Rattle.ix_library.specs.Endings.{flag_for}
use Rattle.ix_library.specs.LookEndings.{load_flag, kept_behind_load, known_behind_load}
use Rattle.ix_library.specs.Given.{Laws}
use Rattle.ix_library.specs.Looks.{MayLoadThere}
use Rattle.ix_library.specs.StandsFor.{StandsFor, Takes}
use Rattle.ix_library.proofs.Looking.{IsLook, look_takes}
use Rattle.ix_library.proofs.Reserved.{again_same}
use Rattle.ix_library.proofs.Scanning.{closed_knows}

-- ---- what may be loaded

-- the mark for whose units a lane loads: that of the open import, or the one that it holds
abbrev pub mark_for : State → ℕ → Purpose → Option ℕ
mark_for s lane purposes.Import = option_map (λ (i : state.Import). i.mark) s.import
mark_for s lane purposes.Ask = held_by s lane

pub for_import : (s : State) (lane : ℕ) (purpose : Purpose) (open_import : state.Import) → purpose ≡ purposes.Import → s.import ≡ Some open_import → mark_for s lane purpose ≡ Some open_import.mark
for_import s lane purpose open_import is at = subst (λ (p : Purpose). mark_for s lane p ≡ Some open_import.mark) (sym is) (ap (option_map (λ (i : state.Import). i.mark)) at)

pub for_ask : (s : State) (lane : ℕ) (purpose : Purpose) (mark : ℕ) → purpose ≡ purposes.Ask → held_by s lane ≡ Some mark → mark_for s lane purpose ≡ Some mark
for_ask s lane purpose mark is at = subst (λ (p : Purpose). mark_for s lane p ≡ Some mark) (sym is) at

-- the mark for whose units a lane loads, at which they need the record, and whose records stand
pub record IsNeededAt (name_of : List ℕ → List ℕ) (s : State) (lane : ℕ) (name : List ℕ) (purpose : Purpose) : Type 0 where
  pub mark : ℕ
  pub is_for : mark_for s lane purpose ≡ Some mark
  pub needed : units_need name (seen_at s mark) ≡ true
  pub stand : RecordsStand name_of s.records (seen_at s mark)

of_some : {X : Type 0} (P : X → Type 0) (o : Option X) (x : X) → o ≡ Some x → IfSome o P → P x
of_some P o x is h = subst (λ (q : Option _). IfSome q P) is h

pub needed_at : (name_of : List ℕ → List ℕ) (kept : Kept) (s : State) (lane : ℕ) (name : List ℕ) (purpose : Purpose) → Keeps name_of kept s → MayLoad s lane name purpose → IsNeededAt name_of s lane name purpose
needed_at name_of kept s lane name purposes.Import keeps may = record {
  mark = may.open_import.mark;
  is_for = ap (option_map (λ (i : state.Import). i.mark)) may.is_open;
  needed = may.needed;
  stand = of_some (λ (i : state.Import). RecordsStand name_of s.records (seen_at s i.mark)) s.import may.open_import may.is_open keeps.sound.needed.imported;
}
needed_at name_of kept s lane name purposes.Ask keeps may = record {
  mark = may.mark;
  is_for = may.held;
  needed = may.needed;
  stand = of_some (λ (mark : ℕ). RecordsStand name_of s.records (seen_at s mark)) (held_by s lane) may.mark may.held (keeps.sound.needed.held lane);
}

-- of the laws below: what is needed stands whole
abbrev pub NeededWhole : Type 0
NeededWhole = (name_of : List ℕ → List ℕ) (s : State) (shelf : OnShelf) (moves : Option (List Move)) (units : Units) (name : List ℕ) → Holds name_of s shelf moves → RecordsStand name_of s.records units → units_need name units ≡ true → IfSome moves (answers.StandsWhole name_of name)

pub there_whole : NeededWhole → (name_of : List ℕ → List ℕ) (kept : Kept) (on_shelf : OnShelf) (known : KnownStamps) (dir : DirState) (lane : ℕ) (name : List ℕ) (purpose : Purpose)
    → MayLoadThere name_of kept on_shelf known dir lane name purpose → IfSome dir.moves (answers.StandsWhole name_of name)
there_whole law name_of kept on_shelf known dir lane name purpose there = by_moves dir.moves held there
  where
    held : (s : State) → StandsFor name_of s kept on_shelf known dir → MayLoad s lane name purpose → IfSome dir.moves (answers.StandsWhole name_of name)
    held s stands may = let at = needed_at name_of kept s lane name purpose stands.keeps may in law name_of s on_shelf dir.moves (seen_at s at.mark) name stands.holds at.stand at.needed

    by_moves : (moves : Option (List Move)) → ((s : State) → StandsFor name_of s kept on_shelf known dir → MayLoad s lane name purpose → IfSome moves (answers.StandsWhole name_of name))
        → IfSome moves (λ m. (s : State) × StandsFor name_of s kept on_shelf known dir × MayLoad s lane name purpose) → IfSome moves (answers.StandsWhole name_of name)
    by_moves None holds there = tt
    by_moves (Some m) holds there = holds there.0 there.1 there.2

-- ---- the value

pub value_at : (name_of : List ℕ → List ℕ) (s : State) (kept : Kept) (on_shelf : OnShelf) (known : KnownStamps) (dir : DirState) (lane : ℕ) (name : List ℕ) (purpose : Purpose) (mark : ℕ) (value : RecordValue)
    → ((units : Units) → Holds name_of s on_shelf dir.moves → RecordsStand name_of s.records units → units_need name units ≡ true → HasValue units name value)
    → StandsFor name_of s kept on_shelf known dir → MayLoad s lane name purpose → mark_for s lane purpose ≡ Some mark → HasValue (seen_at s mark) name value
value_at name_of s kept on_shelf known dir lane name purpose mark value law stands may is_for =
    let at = needed_at name_of kept s lane name purpose stands.keeps may in
    let both : Some at.mark ≡ Some mark = sym at.is_for ∙ is_for in
    let same : at.mark ≡ mark = cc in
    subst (λ (n : ℕ). HasValue (seen_at s n) name value) same (law (seen_at s at.mark) stands.holds at.stand at.needed)

-- ---- the step

abbrev pub LoadMade : Type 0
LoadMade = (name_of : List ℕ → List ℕ) (s : State) (lane : ℕ) (kept : Kept) (name : List ℕ) (purpose : Purpose) → Keeps name_of kept s
    → MayCall name_of s lane (given.Load name purpose) → Makes name_of s lane (given.Load name purpose) outcome.Done outcome.Done kept s

abbrev pub LoadFailed : Type 0
LoadFailed = (name_of : List ℕ → List ℕ) (s : State) (lane : ℕ) (kept : Kept) (name : List ℕ) (purpose : Purpose) (flag : Outcome) → Keeps name_of kept s
    → MayCall name_of s lane (given.Load name purpose) → IsFailureOf name flag → Makes name_of s lane (given.Load name purpose) flag flag (effect.load_failed kept purpose) (calls.load_failed s purpose)

module _ (laws : Laws) (name_of : List ℕ → List ℕ) (s : State) (lane : ℕ) (name : List ℕ) (old now : Kept) (known known_now : KnownStamps) (shelf : OnShelf) (before after : DirState) (stands : StandsFor name_of s old shelf known before) (look : IsLook before after) where
  pub load_takes : LoadMade → (purpose : Purpose) → MayLoad s lane name purpose → now ≡ old → known_now ≡ known → Takes name_of s lane (given.Load name purpose) outcome.Done outcome.Done before now shelf known_now after
  load_takes made purpose may is knows_now =
      subst (λ (k : KnownStamps). Takes name_of s lane (given.Load name purpose) outcome.Done outcome.Done before now shelf k after) (sym knows_now)
      (look_takes laws name_of s lane (given.Load name purpose) outcome.Done outcome.Done s old old now known known shelf before after stands look
      (record { publications = refl; pending = refl; records = refl }) refl (made name_of s lane old name purpose stands.keeps may) is stands.knows)

  failure_takes : LoadFailed → (purpose : Purpose) (flag : Outcome) → MayLoad s lane name purpose → IsFailureOf name flag → now ≡ kept_behind_load purpose (Some flag) old → known_now ≡ known_behind_load purpose (Some flag) known
      → Takes name_of s lane (given.Load name purpose) flag flag before now shelf known_now after
  failure_takes failed purposes.Import flag may failure is knows_now =
      subst (λ (k : KnownStamps). Takes name_of s lane (given.Load name purposes.Import) flag flag before now shelf k after) (sym knows_now)
      (look_takes laws name_of s lane (given.Load name purposes.Import) flag flag (calls.unopened s) old (effect.closed old) now known (known_behind_load purposes.Import (Some flag) known) shelf before after stands look
      (record { publications = refl; pending = refl; records = refl }) refl (failed name_of s lane old name purposes.Import flag stands.keeps may failure) is (closed_knows name_of s known before.moves stands.knows))
  failure_takes failed purposes.Ask flag may failure is knows_now =
      subst (λ (k : KnownStamps). Takes name_of s lane (given.Load name purposes.Ask) flag flag before now shelf k after) (sym knows_now)
      (look_takes laws name_of s lane (given.Load name purposes.Ask) flag flag s old old now known known shelf before after stands look
      (record { publications = refl; pending = refl; records = refl }) refl (failed name_of s lane old name purposes.Ask flag stands.keeps may failure) is stands.knows)

  pub load_fails : LoadFailed → (purpose : Purpose) (e : LoadError) → MayLoad s lane name purpose → IfSome (load_flag e) (IsFailureOf name) → now ≡ kept_behind_load purpose (load_flag e) old → known_now ≡ known_behind_load purpose (load_flag e) known
      → IfSome (load_flag e) (λ how. Takes name_of s lane (given.Load name purpose) (flag_for how) how before now shelf known_now after)
  load_fails failed purpose load.Fault may failure is knows_now = failure_takes failed purpose outcome.Fault may failure is knows_now
  load_fails failed purpose (load.Lost n) may failure is knows_now = failure_takes failed purpose (outcome.Lost n) may failure is knows_now
  load_fails failed purpose (load.Damaged n) may failure is knows_now = failure_takes failed purpose (outcome.Damaged n) may failure is knows_now
  load_fails failed purpose load.Memory may failure is knows_now = tt

-- where memory was wanting all is as before
pub load_again : (name_of : List ℕ → List ℕ) (s : State) (old now : Kept) (known known_now : KnownStamps) (shelf : OnShelf) (before after : DirState) (purpose : Purpose) (e : LoadError) → IsLook before after → now ≡ kept_behind_load purpose (load_flag e) old
    → known_now ≡ known_behind_load purpose (load_flag e) known → e ≡ load.Memory → StandsFor name_of s old shelf known before → StandsFor name_of s now shelf known_now after
load_again name_of s old now known known_now shelf before after purpose e look is knows wanting stands =
    subst (λ (k : KnownStamps). StandsFor name_of s now shelf k after) (sym (knows ∙ ap (λ (x : LoadError). known_behind_load purpose (load_flag x) known) wanting))
    (again_same name_of s known old now shelf shelf before after (is ∙ ap (λ (x : LoadError). kept_behind_load purpose (load_flag x) old) wanting) refl look.moves look.slots stands)

-- a load's failure carries the name that it was asked for
pub failure_of : (name : List ℕ) (e : LoadError) → ((n : List ℕ) → e ≡ load.Lost n → n ≡ name) → ((n : List ℕ) → e ≡ load.Damaged n → n ≡ name) → IfSome (load_flag e) (IsFailureOf name)
failure_of name load.Fault lost damaged = tt
failure_of name (load.Lost n) lost damaged = lost n refl
failure_of name (load.Damaged n) lost damaged = damaged n refl
failure_of name load.Memory lost damaged = tt
