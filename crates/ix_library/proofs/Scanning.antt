-- A scan is the machine's step, and brings what is new.
use Rattle.std.proofs.Common.{◌≡◌, ℕ, List, length, refl, sym, ap, subst, ◌∙◌, Option, Some, None, IfSome}
use Rattle.ix_dir.specs.declared.moves.Move.{Move}
use Rattle.ix_dir.specs.State.{DirState}
use Rattle.ix_unit.specs.declared.batch.Batch.{Batch}
use Rattle.ix_unit.specs.declared.batch.Scan.{Scan}
use Rattle.ix_shelf.specs.Shelf.{OnShelf}
use Rattle.ix_cabinet.specs.Scan.{StampMap, HoldsUnits}
use Rattle.ix_cabinet.specs.declared.fault.ScanError.{ScanError}
use Rattle.ix_cabinet.specs.declared.fault.ScanError.TheVariants as scan
use Rattle.ix_model.specs.Units.{Units, NamesRise}
use Rattle.ix_answers.specs.Batches.{LeadsTo, HaveOneValue}
use Rattle.ix_machine.specs.declared.event.Outcome.{Outcome}
use Rattle.ix_machine.specs.declared.event.Outcome.TheVariants as outcome
use Rattle.ix_machine.specs.Given as given
use Rattle.ix_machine.specs.Needs.{seen_at, visible}
use Rattle.ix_machine.specs.Sound.{RecordsStand}
use Rattle.ix_machine.specs.State.{Files, State}
use Rattle.ix_machine.specs.Step as calls
use Rattle.ix_ledger.specs.Effects as effect
use Rattle.ix_ledger.specs.Effects.{IsFailure}
use Rattle.ix_ledger.specs.Fresh.{fresh_of}
use Rattle.ix_ledger.specs.Kept.{Kept}
use Rattle.ix_ledger.specs.OfState.{Keeps, Makes}
use Rattle.ix_changes.specs.Holds.{Holds}
use Rattle.ix_changes.specs.Stamps.{AreStampsOf}
use Rattle.ix_library.specs.declared.known.KnownStamps.{KnownStamps}
use Rattle.ix_library.specs.Endings.{flag_for}
use Rattle.ix_library.specs.LookEndings.{scan_flag, forgotten, kept_behind_scan, known_behind_scan}
use Rattle.ix_library.specs.Given.{Laws}
use Rattle.ix_library.specs.KnownUnits.{KnowsUnits}
use Rattle.ix_library.specs.Looks.{StandsThere}
use Rattle.ix_library.specs.StandsFor.{StandsFor, Takes}
use Rattle.ix_library.proofs.Freshness.{FreshLaws, since, fresh_since}
use Rattle.ix_library.proofs.Looking.{IsLook, look_takes}
use Rattle.ix_library.proofs.Reserved.{again_same}

-- of the laws below: each record name has one value over two maps whose records stand
abbrev pub OneValues : Type 0
OneValues = (name_of : List ℕ → List ℕ) (records : Files) (before after : Units) → RecordsStand name_of records before → RecordsStand name_of records after → HaveOneValue before after

-- ---- what may be looked at

pub there_units : (name_of : List ℕ → List ℕ) (kept : Kept) (shelf : OnShelf) (known : KnownStamps) (dir : DirState)
    → ((s : State) (moves : Option (List Move)) → Holds name_of s shelf moves → IfSome moves (HoldsUnits name_of))
    → StandsThere name_of kept shelf known dir → IfSome dir.moves (HoldsUnits name_of)
there_units name_of kept shelf known dir held there = by_moves dir.moves (λ s stands. held s dir.moves stands.holds) there
  where
    by_moves : (moves : Option (List Move)) → ((s : State) → StandsFor name_of s kept shelf known dir → IfSome moves (HoldsUnits name_of)) → IfSome moves (λ m. (s : State) × StandsFor name_of s kept shelf known dir) → IfSome moves (HoldsUnits name_of)
    by_moves None holds there = tt
    by_moves (Some m) holds there = holds there.0 there.1

-- ---- the stamps that are known

module _ (name_of : List ℕ → List ℕ) (s : State) (known : KnownStamps) where
  -- a scan is made: the stamps of the visible units are known for the import
  scanned_knows : (lane : ℕ) (stamps : StampMap) (moves : Option (List Move)) → IfSome moves (KnowsUnits name_of s known) → IfSome moves (AreStampsOf name_of (visible s) stamps)
      → IfSome moves (KnowsUnits name_of (calls.scan s lane).plain.state (record known { import = Some stamps }))
  scanned_knows lane stamps None knows are = tt
  scanned_knows lane stamps (Some m) knows are = record { current = knows.current; import = are }

  -- no import is open any more
  pub closed_knows : (moves : Option (List Move)) → IfSome moves (KnowsUnits name_of s known) → IfSome moves (KnowsUnits name_of (calls.unopened s) (forgotten known))
  closed_knows None knows = tt
  closed_knows (Some m) knows = record { current = knows.current; import = tt }

-- ---- the step

abbrev pub ScanMade : Type 0
ScanMade = (name_of : List ℕ → List ℕ) (s : State) (lane : ℕ) (kept : Kept) → Keeps name_of kept s → Makes name_of s lane given.Scan outcome.Done (outcome.At kept.published) (effect.opened kept lane) (calls.scan s lane).plain.state

abbrev pub ScanFailed : Type 0
ScanFailed = (name_of : List ℕ → List ℕ) (s : State) (lane : ℕ) (kept : Kept) (flag : Outcome) → Keeps name_of kept s → IsFailure flag → Makes name_of s lane given.Scan flag flag (effect.closed kept) (calls.unopened s)

module _ (laws : Laws) (name_of : List ℕ → List ℕ) (s : State) (lane : ℕ) (old now : Kept) (known known_now : KnownStamps) (shelf : OnShelf) (before after : DirState) (stands : StandsFor name_of s old shelf known before) (look : IsLook before after) where
  scan_takes : ScanMade → (stamps : StampMap) → IfSome before.moves (AreStampsOf name_of (visible s) stamps) → now ≡ effect.opened old lane → known_now ≡ record known { import = Some stamps }
      → Takes name_of s lane given.Scan outcome.Done (outcome.At old.published) before now shelf known_now after
  scan_takes made stamps are is knows_now =
      subst (λ (k : KnownStamps). Takes name_of s lane given.Scan outcome.Done (outcome.At old.published) before now shelf k after) (sym knows_now)
      (look_takes laws name_of s lane given.Scan outcome.Done (outcome.At old.published) (calls.scan s lane).plain.state old (effect.opened old lane) now known (record known { import = Some stamps }) shelf before after stands look
      (record { publications = refl; pending = refl; records = refl }) refl (made name_of s lane old stands.keeps) is (scanned_knows name_of s known lane stamps before.moves stands.knows are))

  pub scan_ends : ScanMade → (stamps : StampMap) → IfSome after.moves (AreStampsOf name_of (visible s) stamps) → now ≡ effect.opened old lane → known_now ≡ record known { import = Some stamps }
      → (made : Scan) (mark : ℕ) (batch : Batch) (fresh : List (List ℕ)) → made ≡ record { mark = mark; batch = batch; fresh = fresh } → mark ≡ old.published
      → Takes name_of s lane given.Scan outcome.Done (outcome.At made.mark) before now shelf known_now after
  scan_ends law stamps are is knows_now made mark batch fresh made_is at =
      subst (λ (n : ℕ). Takes name_of s lane given.Scan outcome.Done (outcome.At n) before now shelf known_now after) (sym (ap (λ (x : Scan). x.mark) made_is ∙ at))
      (scan_takes law stamps (subst (λ (m : Option (List Move)). IfSome m (AreStampsOf name_of (visible s) stamps)) look.moves are) is knows_now)

  failure_takes : ScanFailed → (flag : Outcome) → IsFailure flag → now ≡ effect.closed old → known_now ≡ forgotten known → Takes name_of s lane given.Scan flag flag before now shelf known_now after
  failure_takes failed flag failure is knows_now =
      subst (λ (k : KnownStamps). Takes name_of s lane given.Scan flag flag before now shelf k after) (sym knows_now)
      (look_takes laws name_of s lane given.Scan flag flag (calls.unopened s) old (effect.closed old) now known (forgotten known) shelf before after stands look
      (record { publications = refl; pending = refl; records = refl }) refl (failed name_of s lane old flag stands.keeps failure) is (closed_knows name_of s known before.moves stands.knows))

  pub scan_fails : ScanFailed → (e : ScanError) → now ≡ kept_behind_scan (scan_flag e) old → known_now ≡ known_behind_scan (scan_flag e) known → IfSome (scan_flag e) (λ how. Takes name_of s lane given.Scan (flag_for how) how before now shelf known_now after)
  scan_fails failed scan.Fault is knows_now = failure_takes failed outcome.Fault tt is knows_now
  scan_fails failed (scan.Lost name) is knows_now = failure_takes failed (outcome.Lost name) tt is knows_now
  scan_fails failed (scan.Damaged name) is knows_now = failure_takes failed (outcome.Damaged name) tt is knows_now
  scan_fails failed scan.Memory is knows_now = tt

-- where memory was wanting all is as before
pub scan_again : (name_of : List ℕ → List ℕ) (s : State) (old now : Kept) (known known_now : KnownStamps) (shelf : OnShelf) (before after : DirState) (e : ScanError) → IsLook before after → now ≡ kept_behind_scan (scan_flag e) old → known_now ≡ known_behind_scan (scan_flag e) known
    → e ≡ scan.Memory → StandsFor name_of s old shelf known before → StandsFor name_of s now shelf known_now after
scan_again name_of s old now known known_now shelf before after e look is knows wanting stands =
    subst (λ (k : KnownStamps). StandsFor name_of s now shelf k after) (sym (knows ∙ ap (λ (x : ScanError). known_behind_scan (scan_flag x) known) wanting))
    (again_same name_of s known old now shelf shelf before after (is ∙ ap (λ (x : ScanError). kept_behind_scan (scan_flag x) old) wanting) refl look.moves look.slots stands)

-- ---- what it brings

module _ (name_of : List ℕ → List ℕ) (s : State) (old : Kept) (shelf : OnShelf) (known : KnownStamps) (dir : DirState) (stands : StandsFor name_of s old shelf known dir) where
  published : old.published ≡ length s.publications
  published = ap (λ (k : Kept). k.published) stands.keeps.is

  pub knows_current : IfSome dir.moves (AreStampsOf name_of (seen_at s s.current) known.current)
  knows_current = by_moves dir.moves stands.knows
    where
      by_moves : (moves : Option (List Move)) → IfSome moves (KnowsUnits name_of s known) → IfSome moves (AreStampsOf name_of (seen_at s s.current) known.current)
      by_moves None knows = tt
      by_moves (Some m) knows = knows.current

  module _ (made : Scan) (mark : ℕ) (batch : Batch) (fresh : List (List ℕ)) (is : made ≡ record { mark = mark; batch = batch; fresh = fresh }) (at : mark ≡ old.published) where
    pub made_mark : made.mark ≡ old.published
    made_mark = ap (λ (x : Scan). x.mark) is ∙ at

    seen_then : seen_at s made.mark ≡ visible s
    seen_then = ap (seen_at s) (made_mark ∙ published)

    pub made_leads : LeadsTo batch.puts batch.gone (seen_at s s.current) (visible s) → LeadsTo made.batch.puts made.batch.gone (seen_at s s.current) (seen_at s made.mark)
    made_leads leads =
        subst (λ (us : Units). LeadsTo made.batch.puts made.batch.gone (seen_at s s.current) us) (sym seen_then)
        (subst (λ (b : Batch). LeadsTo b.puts b.gone (seen_at s s.current) (visible s)) (sym (ap (λ (x : Scan). x.batch) is)) leads)

    pub made_fresh : FreshLaws → LeadsTo batch.puts batch.gone (seen_at s s.current) (visible s) → NamesRise (visible s) → fresh ≡ fresh_of old.guard.current batch.puts → made.fresh ≡ since (seen_at s s.current) (seen_at s made.mark)
    made_fresh laws leads rises names =
        ap (λ (x : Scan). x.fresh) is ∙ names ∙ fresh_since laws name_of s old batch.puts batch.gone stands.keeps leads rises ∙ ap (since (seen_at s s.current)) (sym seen_then)

    pub made_values : OneValues → HaveOneValue (seen_at s s.current) (seen_at s made.mark)
    made_values law =
        subst (λ (us : Units). HaveOneValue (seen_at s s.current) us) (sym seen_then)
        (law name_of s.records (seen_at s s.current) (visible s) stands.keeps.sound.needed.current stands.keeps.sound.needed.visible_ones)
