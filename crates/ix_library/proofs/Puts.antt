-- A put of the library is the machine's.
use Rattle.std.proofs.Common.{◌≡◌, ◌≢◌, ℕ, Bool, true, false, cond, List, refl, sym, ap, subst, ◌∙◌, Option, Some, None, IfSome, Result, Ok, Err, slice_set}
use Rattle.std.specs.BTreeMap.{insert_entry, is_at}
use Rattle.std.specs.Map.{lookup}
use Rattle.std.specs.Str.{bytes_eq}
use Rattle.std.proofs.lemmas.Option.{same_Some}
use Rattle.ix_types.specs.Row.{text_cmp}
use Rattle.ix_dir.specs.declared.moves.Move.{Move}
use Rattle.ix_dir.specs.State.{DirState}
use Rattle.ix_dir.specs.WhatAChangeLeaves.{AddsTo}
use Rattle.ix_record.specs.declared.body.Body.{Body}
use Rattle.ix_shelf.specs.declared.fault.PutError.{PutError}
use Rattle.ix_shelf.specs.declared.fault.PutError.TheVariants.{Fault, Clash, Memory}
use Rattle.ix_shelf.specs.declared.shelf.Put.{Put}
use Rattle.ix_shelf.specs.declared.shelf.Put.TheVariants.{Written, Shared}
use Rattle.ix_shelf.specs.Shelf.{OnShelf}
use Rattle.ix_machine.specs.declared.event.Outcome.{Outcome}
use Rattle.ix_machine.specs.declared.event.Outcome.TheVariants as outcome
use Rattle.ix_machine.specs.Given as given
use Rattle.ix_machine.specs.Needs.{is_guarded}
use Rattle.ix_machine.specs.Run.{MayCall}
use Rattle.ix_machine.specs.State.{State}
use Rattle.ix_machine.specs.Step.{Stepped, Row, ended, step, put, put_over, write, may_fault, noted, dropped}
use Rattle.ix_ledger.specs.Effects as effect
use Rattle.ix_ledger.specs.Kept.{Kept, staged_in}
use Rattle.ix_ledger.specs.OfState.{Keeps, Makes}
use Rattle.ix_changes.specs.Holds.{Leads}
use Rattle.ix_library.specs.declared.known.KnownStamps.{KnownStamps}
use Rattle.ix_library.specs.Endings.{flag_for, put_ending, put_leaves}
use Rattle.ix_library.specs.Given.{Laws}
use Rattle.ix_library.specs.StandsFor.{StandsFor, Takes}
use Rattle.ix_library.proofs.Slots.{SlotsApart, StagesLess, less_staged, same_staged, none_there, staged_apart}
use Rattle.ix_library.proofs.Taking.{takes, stays_as}
use Rattle.ix_library.proofs.UnitsStay.{Stays}

-- ---- marks and publications

module _ (s : State) (lane : ℕ) (body : Body) where
  by_tests : (same guarded : Bool) → Stays s (cond same (may_fault outcome.Shared (noted s lane body.name) (dropped s lane)) (cond guarded (may_fault outcome.Clash (dropped s lane) (dropped s lane)) (write s lane body))).plain.state
  by_tests true guarded = stays_as s (noted s lane body.name) refl refl refl
  by_tests false true = stays_as s (dropped s lane) refl refl refl
  by_tests false false = stays_as s (noted (record s { records = insert_entry text_cmp s.records body.name body.bytes }) lane body.name) refl refl refl

  by_file : (there : Option (List ℕ)) → Stays s (put_over s lane body there).plain.state
  by_file None = stays_as s (noted (record s { records = insert_entry text_cmp s.records body.name body.bytes }) lane body.name) refl refl refl
  by_file (Some bytes) = by_tests (bytes_eq bytes body.bytes) (is_guarded s lane body.name)

  -- a put keeps marks and publications
  put_stays : (name_of : List ℕ → List ℕ) (how : Outcome) (next : State) → step name_of s lane (given.Put body) outcome.Done ≡ Some (ended how next) → Stays s next
  put_stays name_of how next taken =
      let same : (put s lane body).plain ≡ ended how next = same_Some (put s lane body).plain (ended how next) taken in
      subst (Stays s) (ap (λ (t : Stepped). t.state) same) (by_file (lookup (is_at (text_cmp body.name)) s.records))

-- ---- what the ledger and the directory say

pub record PutLaws : Type 0 where
  pub written : (name_of : List ℕ → List ℕ) (s next : State) (lane : ℕ) (kept : Kept) (body : Body) → Keeps name_of kept s → MayCall name_of s lane (given.Put body) → step name_of s lane (given.Put body) outcome.Done ≡ Some (ended outcome.Written next)
      → Makes name_of s lane (given.Put body) outcome.Done outcome.Written (effect.noted kept lane body.name) next
  pub shared : (name_of : List ℕ → List ℕ) (s next : State) (lane : ℕ) (kept : Kept) (body : Body) → Keeps name_of kept s → MayCall name_of s lane (given.Put body) → step name_of s lane (given.Put body) outcome.Done ≡ Some (ended outcome.Shared next)
      → Makes name_of s lane (given.Put body) outcome.Done outcome.Shared (effect.noted kept lane body.name) next
  pub clashed : (name_of : List ℕ → List ℕ) (s next : State) (lane : ℕ) (kept : Kept) (body : Body) → Keeps name_of kept s → MayCall name_of s lane (given.Put body) → step name_of s lane (given.Put body) outcome.Done ≡ Some (ended outcome.Clash next)
      → Makes name_of s lane (given.Put body) outcome.Done outcome.Clash (effect.dropped kept lane) next
  pub failed : (name_of : List ℕ → List ℕ) (s : State) (lane : ℕ) (kept : Kept) (body : Body) → Keeps name_of kept s → MayCall name_of s lane (given.Put body)
      → Makes name_of s lane (given.Put body) outcome.Fault outcome.Fault (effect.dropped kept lane) (dropped s lane)

module _ (name_of : List ℕ → List ℕ) (s : State) (lane : ℕ) (body : Body) (shelf_before shelf : OnShelf) (before after : Option (List Move)) where
  -- the machine's put ends so, and the directory holds the state after it
  abbrev pub PutEnds : Outcome → Type 0
  PutEnds how = (next : State) × (step name_of s lane (given.Put body) outcome.Done ≡ Some (ended how next)) × Leads name_of s next before after shelf

  pub record PutsOnDisk (r : Result Put PutError) : Type 0 where
    pub written : r ≡ Ok Written → PutEnds outcome.Written
    pub shared : r ≡ Ok Shared → PutEnds outcome.Shared
    pub clashed : (name : List ℕ) → r ≡ Err (Clash name) → PutEnds outcome.Clash
    pub kept : r ≢ Ok Written → after ≡ before
    pub same : r ≢ Ok Written → shelf ≡ shelf_before

-- ---- the step

module _ (laws : Laws) (ledger : PutLaws) (name_of : List ℕ → List ℕ) (s : State) (lane : ℕ) (body : Body) (kept now : Kept) (known : KnownStamps) (shelf_before shelf : OnShelf) (before after : DirState)
    (stands : StandsFor name_of s kept shelf_before known before) (may : MayCall name_of s lane (given.Put body)) (unstaged : staged_in kept lane ≡ None) (apart : SlotsApart lane before after) (adds : AddsTo before.moves after.moves) where
  abbrev Ends : Outcome → Outcome → Type 0
  Ends flag how = Takes name_of s lane (given.Put body) flag how before now shelf known after

  noted_takes : (how : Outcome) (next : State) → Makes name_of s lane (given.Put body) outcome.Done how (effect.noted kept lane body.name) next → step name_of s lane (given.Put body) outcome.Done ≡ Some (ended how next)
      → Leads name_of s next before.moves after.moves shelf → now ≡ effect.noted kept lane body.name → Ends outcome.Done how
  noted_takes how next makes taken leads is =
      let made = effect.noted kept lane body.name in
      takes laws name_of s lane (given.Put body) outcome.Done how next kept made now known shelf_before shelf before after stands (put_stays s lane body name_of how next taken) makes leads
      (staged_apart kept made lane before after (same_staged kept made refl) unstaged apart stands.staged) adds is

  dropped_takes : (flag how : Outcome) (next : State) → Stays s next → Makes name_of s lane (given.Put body) flag how (effect.dropped kept lane) next → Leads name_of s next before.moves after.moves shelf → now ≡ effect.dropped kept lane → Ends flag how
  dropped_takes flag how next stays makes leads is =
      let made = effect.dropped kept lane in
      takes laws name_of s lane (given.Put body) flag how next kept made now known shelf_before shelf before after stands stays makes leads
      (staged_apart kept made lane before after (less_staged kept made lane refl) (none_there kept.staged lane) apart stands.staged) adds is

  pub put_takes : (r : Result Put PutError) → PutsOnDisk name_of s lane body shelf_before shelf before.moves after.moves r → now ≡ put_leaves r kept lane body.name
      → IfSome (put_ending r) (λ how. Takes name_of s lane (given.Put body) (flag_for how) how before now shelf known after)
  put_takes (Ok Written) disk is =
      let e = disk.written refl in
      noted_takes outcome.Written e.0 (ledger.written name_of s e.0 lane kept body stands.keeps may e.1) e.1 e.2 is
  put_takes (Ok Shared) disk is =
      let e = disk.shared refl in
      noted_takes outcome.Shared e.0 (ledger.shared name_of s e.0 lane kept body stands.keeps may e.1) e.1 e.2 is
  put_takes (Err (Clash name)) disk is =
      let e = disk.clashed name refl in
      dropped_takes outcome.Done outcome.Clash e.0 (put_stays s lane body name_of outcome.Clash e.0 e.1) (ledger.clashed name_of s e.0 lane kept body stands.keeps may e.1) e.2 is
  put_takes (Err Fault) disk is =
      let next = dropped s lane in
      let unmoved = laws.unmoved name_of s next shelf_before before.moves stands.holds (record { publications = refl; pending = refl; records = refl }) in
      let same_moves = disk.kept not_ok in
      let same_shelf = disk.same not_ok in
      dropped_takes outcome.Fault outcome.Fault next (stays_as s next refl refl refl) (ledger.failed name_of s lane kept body stands.keeps may)
      (subst (Leads name_of s next before.moves after.moves) (sym same_shelf) (subst (λ (m : Option (List Move)). Leads name_of s next before.moves m shelf_before) (sym same_moves) unmoved)) is
    where
      not_ok : Err Fault ≢ Ok Written
      not_ok e = absurd (cc)
  put_takes (Err Memory) disk is = tt
