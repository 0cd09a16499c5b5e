-- A step of the machine keeps the marks in order, and no mark falls.
use Rattle.std.proofs.Common.{◌≡◌, ◌⊎◌, inl, inr, ℕ, zero, suc, ◌≤◌, ◌==◌, if◌then◌else◌, Bool, true, false, List, [], ◌∷◌, ◌++◌, length, Option, Some, None, IfSome, option_map, option_and_then, refl, sym, ap, ◌∙◌, subst, arith, get_or, set}
use Rattle.std.proofs.lemmas.List.{append-nil, length-append}
use Rattle.std.specs.Str.{bytes_eq}
use Rattle.std.specs.Map.{lookup, remove_entry}
use Rattle.std.specs.BTreeMap.{is_at, insert_entry}
use Rattle.ix_types.specs.Row.{text_cmp}
use Rattle.ix_record.specs.declared.body.Body.{Body}
use Rattle.ix_unit.specs.declared.value.UnitValue.{UnitValue}
use Rattle.ix_model.specs.declared.publication.Publication.{Publication}
use Rattle.ix_model.specs.declared.publication.Publication.TheVariants as model
use Rattle.ix_model.specs.declared.publication.StoredUnit.{StoredUnit}
use Rattle.ix_model.specs.Units.{unit_named}
use Rattle.ix_machine.specs.declared.event.Outcome.{Outcome}
use Rattle.ix_machine.specs.declared.event.Outcome.TheVariants.{Done, Written, Shared, Clash, Synced, Unsynced, NoUnit, At, Removed, Nothing, Fault, Lost, Damaged}
use Rattle.ix_machine.specs.declared.event.Purpose.{Purpose}
use Rattle.ix_machine.specs.declared.event.Purpose.TheVariants.{Import, Ask}
use Rattle.ix_machine.specs.Given.{Given}
use Rattle.ix_machine.specs.Given as given
use Rattle.ix_machine.specs.Needs.{loose, is_guarded, visible, settled}
use Rattle.ix_machine.specs.State as state
use Rattle.ix_machine.specs.State.{State, held_by, lease_of, with_put, with_staged}
use Rattle.ix_machine.specs.Step.{Stepped, Row, ended, flagged, row, step, staged_by, dropped, holding, publishing, with_lease, publish_over, publish_unit, remove_named, name_with_output, install_import, install_mark, collect_first, put_over, stored_unit, unopened, may_fault, sure, noted, write, change, lease, stage, scan, load, adopt, release}
use Rattle.ix_replays.specs.Laws.{MarksFit, NoMarkFalls}

set_at : {X : Type 0} (P : X → Type 0) (xs : List X) (i j : ℕ) (x d : X) → P x → P (get_or xs j d) → P (get_or (set xs i x) j d)
set_at P [] i j x d p q = q
set_at P (y ∷ ys) zero zero x d p q = p
set_at P (y ∷ ys) zero (suc j) x d p q = q
set_at P (y ∷ ys) (suc i) zero x d p q = q
set_at P (y ∷ ys) (suc i) (suc j) x d p q = set_at P ys i j x d p q

-- ---- what a state may be behind another

pub record Frame (s t : State) : Type 0 where
  pub fit : MarksFit t
  pub falls : NoMarkFalls s t

-- an outcome at no mark beyond the publications
abbrev Within : State → Outcome → Type 0
Within t outcome = (mark : ℕ) → outcome ≡ At mark → mark ≤ length t.publications

abbrev Good : State → Stepped → Type 0
Good s stepped = Frame s stepped.state × Within stepped.state stepped.outcome

-- what is held was held before, or is no earlier than what was current
abbrev Taken : Option ℕ → ℕ → Option ℕ → Type 0
Taken before current after = IfSome after (λ later. (before ≡ Some later) ⊎ (current ≤ later))

own : (o : Option ℕ) (current : ℕ) → Taken o current o
own None current = tt
own (Some mark) current = inl refl

-- marks and publications are those of the state before, but for an import that is closed
record Alike (s t : State) : Type 0 where
  publications : t.publications ≡ s.publications
  current : t.current ≡ s.current
  held : t.held ≡ s.held
  import : (t.import ≡ s.import) ⊎ (t.import ≡ None)

alike_import : (s t : State) → MarksFit s → Alike s t → (t.import ≡ s.import) ⊎ (t.import ≡ None) → IfSome t.import (λ i. (t.current ≤ i.mark) × (i.mark ≤ length t.publications))
alike_import s t fit a (inl e) =
    let stays : IfSome s.import (λ i. (t.current ≤ i.mark) × (i.mark ≤ length t.publications)) =
    subst (λ (n : ℕ). IfSome s.import (λ i. (n ≤ i.mark) × (i.mark ≤ length t.publications))) (sym a.current)
    (subst (λ (ps : List Publication). IfSome s.import (λ i. (s.current ≤ i.mark) × (i.mark ≤ length ps))) (sym a.publications) fit.imported) in
    subst (λ (o : Option state.Import). IfSome o (λ i. (t.current ≤ i.mark) × (i.mark ≤ length t.publications))) (sym e) stays
alike_import s t fit a (inr e) = subst (λ (o : Option state.Import). IfSome o (λ i. (t.current ≤ i.mark) × (i.mark ≤ length t.publications))) (sym e) tt

alike : (s t : State) → MarksFit s → Alike s t → Frame s t
alike s t fit a = record {
  fit = record {
    current = subst (λ (n : ℕ). n ≤ length t.publications) (sym a.current) (subst (λ (ps : List Publication). s.current ≤ length ps) (sym a.publications) fit.current);
    imported = alike_import s t fit a a.import;
    held = λ lane. subst (λ (n : ℕ). IfSome (held_by t lane) (λ m. m ≤ n)) (sym a.current) (subst (λ (hs : List (Option ℕ)). IfSome (get_or hs lane None) (λ m. m ≤ s.current)) (sym a.held) (fit.held lane));
  };
  falls = record {
    more = [];
    publications = a.publications ∙ sym (append-nil s.publications);
    current = (let e = a.current in omega (arith, e));
    held = λ lane. subst (λ (hs : List (Option ℕ)). Taken (held_by s lane) s.current (get_or hs lane None)) (sym a.held) (own (held_by s lane) s.current);
  };
}

-- what is imported stays within one publication more
longer_import : (s : State) (p : Publication) (o : Option state.Import) → IfSome o (λ i. (s.current ≤ i.mark) × (i.mark ≤ length s.publications)) → IfSome o (λ i. (s.current ≤ i.mark) × (i.mark ≤ length (s.publications ++ p ∷ [])))
longer_import s p None fit = tt
longer_import s p (Some i) fit = let n = length-append s.publications (p ∷ []) in let m = fit.1 in (fit.0, omega (arith, n, m))

-- one publication more
grown : (s t : State) (p : Publication) (pending : Option ℕ) → MarksFit s → Frame s t → t.publications ≡ s.publications → t.current ≡ s.current → t.held ≡ s.held → t.import ≡ s.import → Frame s (publishing t p pending)
grown s t p pending fit frame same current held imported = record {
  fit = record {
    current = (let n = length-append t.publications (p ∷ []) in let m = frame.fit.current in omega (arith, n, m));
    imported = longer_import t p t.import frame.fit.imported;
    held = λ lane. frame.fit.held lane;
  };
  falls = record {
    more = p ∷ [];
    publications = ap (λ (ps : List Publication). ps ++ p ∷ []) same;
    current = frame.falls.current;
    held = λ lane. frame.falls.held lane;
  };
}

-- ---- rows

record Goods (s : State) (r : Row) : Type 0 where
  plain : Good s r.plain
  faulted : IfSome r.faulted (Frame s)
  unsynced : IfSome r.unsynced (Frame s)

module _ (s : State) (r : Row) (g : Goods s r) where
  at_fault : (outcome : Outcome) → ((mark : ℕ) → outcome ≡ At mark → ⊥) → IfSome (option_map (ended outcome) r.faulted) (Good s)
  at_fault outcome none =
      (elim r.faulted as (λ o. IfSome o (Frame s) → IfSome (option_map (ended outcome) o) (Good s)) [
        | None ↦ λ f. tt
        | Some t ↦ λ f. (f, λ mark e. absurd (none mark e))
      ]) g.faulted

  at_unsynced : IfSome (option_map (ended Unsynced) r.unsynced) (Good s)
  at_unsynced =
      (elim r.unsynced as (λ o. IfSome o (Frame s) → IfSome (option_map (ended Unsynced) o) (Good s)) [
        | None ↦ λ f. tt
        | Some t ↦ λ f. (f, λ mark e. absurd (cc))
      ]) g.unsynced

  missed : (b : Bool) (outcome : Outcome) → ((mark : ℕ) → outcome ≡ At mark → ⊥) → IfSome (if b then option_map (ended outcome) r.faulted else None) (Good s)
  missed true outcome none = at_fault outcome none
  missed false outcome none = tt

  flagged_good : (flag : Outcome) → IfSome (flagged r flag) (Good s)
  flagged_good Done = g.plain
  flagged_good Written = tt
  flagged_good Shared = tt
  flagged_good Clash = tt
  flagged_good Synced = tt
  flagged_good Unsynced = at_unsynced
  flagged_good NoUnit = tt
  flagged_good (At mark) = tt
  flagged_good (Removed name) = tt
  flagged_good Nothing = tt
  flagged_good Fault = at_fault Fault (λ mark e. cc)
  flagged_good (Lost name) = missed (r.misses name) (Lost name) (λ mark e. cc)
  flagged_good (Damaged name) = missed (r.misses name) (Damaged name) (λ mark e. cc)

-- ---- the calls

no_mark : (t : State) (outcome : Outcome) → ((mark : ℕ) → outcome ≡ At mark → ⊥) → Within t outcome
no_mark t outcome none mark e = absurd (none mark e)

module _ (s : State) (fit : MarksFit s) (lane : ℕ) where
  same : Frame s s
  same = alike s s fit (record { publications = refl; current = refl; held = refl; import = inl refl })

  leased : (l : Option state.Lease) → Frame s (with_lease s lane l)
  leased l = alike s (with_lease s lane l) fit (record { publications = refl; current = refl; held = refl; import = inl refl })

  closed : Frame s (unopened s)
  closed = alike s (unopened s) fit (record { publications = refl; current = refl; held = refl; import = inr refl })

  -- a lane takes a mark up that is at most the current one, or lets go
  hold_frame : (t : State) (mark : Option ℕ) → Frame s t → IfSome mark (λ m. m ≤ t.current) → (IfSome mark (λ m. s.current ≤ m)) → Frame s (holding t lane mark)
  hold_frame t mark frame below above = record {
    fit = record {
      current = frame.fit.current;
      imported = frame.fit.imported;
      held = λ other. set_at (λ (o : Option ℕ). IfSome o (λ m. m ≤ t.current)) t.held lane other mark None below (frame.fit.held other);
    };
    falls = record {
      more = frame.falls.more;
      publications = frame.falls.publications;
      current = frame.falls.current;
      held = λ other. set_at (λ (o : Option ℕ). Taken (held_by s other) s.current o) t.held lane other mark None (up (held_by s other) mark above) (frame.falls.held other);
    };
  }
    where
      up : (o mark : Option ℕ) → IfSome mark (λ m. s.current ≤ m) → Taken o s.current mark
      up o None q = tt
      up o (Some y) q = inr q

  write_good : (body : Body) → Goods s (write s lane body)
  write_good body = record {
    plain = (
      alike s (noted (record s { records = insert_entry text_cmp s.records body.name body.bytes }) lane body.name) fit (record { publications = refl; current = refl; held = refl; import = inl refl }),
      no_mark (noted (record s { records = insert_entry text_cmp s.records body.name body.bytes }) lane body.name) Written (λ mark e. cc),
    );
    faulted = leased None;
    unsynced = tt;
  }

  put_good : (body : Body) (o : Option (List ℕ)) → Goods s (put_over s lane body o)
  put_good body None = write_good body
  put_good body (Some bytes) =
      elim (bytes_eq bytes body.bytes) as (λ b. Goods s (if b then may_fault Shared (noted s lane body.name) (dropped s lane) else (if is_guarded s lane body.name then may_fault Clash (dropped s lane) (dropped s lane) else write s lane body))) [
        | true ↦ record { plain = (leased (option_map (with_put body.name) (lease_of s lane)), no_mark (noted s lane body.name) Shared (λ mark e. cc)); faulted = leased None; unsynced = tt }
        | false ↦ elim (is_guarded s lane body.name) as (λ b. Goods s (if b then may_fault Clash (dropped s lane) (dropped s lane) else write s lane body)) [
          | true ↦ record { plain = (leased None, no_mark (dropped s lane) Clash (λ mark e. cc)); faulted = leased None; unsynced = tt }
          | false ↦ write_good body
        ]
      ]

  stage_good : (unit : UnitValue) → Goods s (stage s lane unit)
  stage_good unit = record {
    plain = (leased (option_map (with_staged unit) (lease_of s lane)), no_mark (with_lease s lane (option_map (with_staged unit) (lease_of s lane))) Done (λ mark e. cc));
    faulted = leased None;
    unsynced = tt;
  }

  change_good : (t : State) (p : Publication) → Frame s t → t.publications ≡ s.publications → t.current ≡ s.current → t.held ≡ s.held → t.import ≡ s.import → Goods s (change t t p)
  change_good t p frame same_ps current held imported = record {
    plain = (grown s t p None fit frame same_ps current held imported, no_mark (publishing t p None) Synced (λ mark e. cc));
    faulted = frame;
    unsynced = grown s t p (Some (length t.publications)) fit frame same_ps current held imported;
  }

  publish_good : (name : List ℕ) (unit : UnitValue) (o : Option StoredUnit) → Goods s (publish_over s lane name unit o)
  publish_good name unit None = change_good (dropped s lane) (model.Put name (stored_unit s unit)) (leased None) refl refl refl refl
  publish_good name unit (Some other) =
      elim (bytes_eq other.unit.output unit.output) as (λ b. Goods s (if b then change (dropped s lane) (dropped s lane) (model.Put name (stored_unit s unit)) else sure Clash (dropped s lane))) [
        | true ↦ change_good (dropped s lane) (model.Put name (stored_unit s unit)) (leased None) refl refl refl refl
        | false ↦ record { plain = (leased None, no_mark (dropped s lane) Clash (λ mark e. cc)); faulted = tt; unsynced = tt }
      ]

  remove_good : (o : Option (List ℕ)) → Goods s (remove_named s o)
  remove_good None = record { plain = (same, no_mark s NoUnit (λ mark e. cc)); faulted = tt; unsynced = tt }
  remove_good (Some name) = change_good s (model.Gone name) same refl refl refl refl

  at_most : (n mark : ℕ) → At n ≡ At mark → mark ≤ n
  at_most n mark e = subst (λ (o : Outcome). below o) e (omega arith)
    where
      below : Outcome → Type 0
      below Done = Unit {0}
      below Written = Unit {0}
      below Shared = Unit {0}
      below Clash = Unit {0}
      below Synced = Unit {0}
      below Unsynced = Unit {0}
      below NoUnit = Unit {0}
      below (At m) = m ≤ n
      below (Removed name) = Unit {0}
      below Nothing = Unit {0}
      below Fault = Unit {0}
      below (Lost name) = Unit {0}
      below (Damaged name) = Unit {0}

  within : (t : State) (n : ℕ) → n ≤ length t.publications → Within t (At n)
  within t n below mark e = let m = at_most n mark e in omega (arith, m, below)

  scan_good : Goods s (scan s lane)
  scan_good = record {
    plain = (
      record {
        fit = record { current = fit.current; imported = (fit.current, omega arith); held = λ other. fit.held other };
        falls = record { more = []; publications = sym (append-nil s.publications); current = omega arith; held = λ other. own (held_by s other) s.current };
      },
      within (record s { import = Some (record { lane = lane; mark = length s.publications }) }) (length s.publications) (omega arith),
    );
    faulted = closed;
    unsynced = tt;
  }

  load_good : (name : List ℕ) (purpose : Purpose) → Goods s (load s name purpose)
  load_good name Import = record { plain = (same, no_mark s Done (λ mark e. cc)); faulted = closed; unsynced = tt }
  load_good name Ask = record { plain = (same, no_mark s Done (λ mark e. cc)); faulted = same; unsynced = tt }

  installed : (mark : ℕ) → s.current ≤ mark → mark ≤ length s.publications → Frame s (record s { import = None; current = mark })
  installed mark later below = record {
    fit = record {
      current = below;
      imported = tt;
      held = λ other. higher (held_by s other) (fit.held other);
    };
    falls = record { more = []; publications = sym (append-nil s.publications); current = later; held = λ other. own (held_by s other) s.current };
  }
    where
      higher : (o : Option ℕ) → IfSome o (λ m. m ≤ s.current) → IfSome o (λ m. m ≤ mark)
      higher None p = tt
      higher (Some m) p = omega (arith, p, later)

  install_good : (o : Option state.Import) → IfSome o (λ i. (s.current ≤ i.mark) × (i.mark ≤ length s.publications)) → IfSome (install_import s lane o) (Goods s)
  install_good None marks = tt
  install_good (Some i) marks =
      elim (i.lane == lane) as (λ b. IfSome (if b then Some (install_mark s lane i.mark) else None) (Goods s)) [
        | true ↦ record {
          plain = (
            hold_frame (record s { import = None; current = i.mark }) (Some i.mark) (installed i.mark marks.0 marks.1) (omega arith) marks.0,
            within (holding (record s { import = None; current = i.mark }) lane (Some i.mark)) i.mark marks.1,
          );
          faulted = tt;
          unsynced = tt;
        }
        | false ↦ tt
      ]

  adopt_good : Goods s (adopt s lane)
  adopt_good = record {
    plain = (hold_frame s (Some s.current) same (omega arith) (omega arith), within (holding s lane (Some s.current)) s.current fit.current);
    faulted = tt;
    unsynced = tt;
  }

  release_good : Goods s (release s lane)
  release_good = record { plain = (hold_frame s None same tt tt, no_mark (holding s lane None) Done (λ mark e. cc)); faulted = tt; unsynced = tt }

  collect_good : (names : List (List ℕ)) → Good s (collect_first s names)
  collect_good [] = (alike s (settled s) fit (record { publications = refl; current = refl; held = refl; import = inl refl }), no_mark (settled s) Nothing (λ mark e. cc))
  collect_good (name ∷ names) = (
    alike s (record (settled s) { records = remove_entry (is_at (text_cmp name)) s.records }) fit (record { publications = refl; current = refl; held = refl; import = inl refl }),
    no_mark (record (settled s) { records = remove_entry (is_at (text_cmp name)) s.records }) (Removed name) (λ mark e. cc),
  )

  staged_good : (name_of : List ℕ → List ℕ) (o : Option UnitValue) → IfSome (option_map (λ unit. publish_unit s lane (name_of unit.output) unit) o) (Goods s)
  staged_good name_of None = tt
  staged_good name_of (Some unit) = publish_good (name_of unit.output) unit (unit_named (name_of unit.output) (visible s))

  row_good : (name_of : List ℕ → List ℕ) (g : Given) → IfSome (row name_of s lane g) (Goods s)
  row_good name_of (given.Lease names) = record {
    plain = (leased (Some (record { names = names; put = []; staged = None })), no_mark (lease s lane names).plain.state Done (λ mark e. cc));
    faulted = tt;
    unsynced = tt;
  }
  row_good name_of (given.Put body) = put_good body (lookup (is_at (text_cmp body.name)) s.records)
  row_good name_of (given.Stage unit) = stage_good unit
  row_good name_of given.Publish = staged_good name_of (staged_by s lane)
  row_good name_of (given.Remove output) = remove_good (name_with_output output (visible s))
  row_good name_of given.Scan = scan_good
  row_good name_of (given.Load name purpose) = load_good name purpose
  row_good name_of given.Install = install_good s.import fit.imported
  row_good name_of given.Adopt = adopt_good
  row_good name_of given.Release = release_good
  row_good name_of given.Collect = record { plain = collect_good (loose s); faulted = same; unsynced = tt }

  rows_good : (o : Option Row) (flag : Outcome) → IfSome o (Goods s) → IfSome (option_and_then (λ r. flagged r flag) o) (Good s)
  rows_good None flag g = tt
  rows_good (Some r) flag g = flagged_good s r g flag

  pub step_good : (name_of : List ℕ → List ℕ) (g : Given) (flag : Outcome) → IfSome (step name_of s lane g flag) (λ stepped. Frame s stepped.state × ((mark : ℕ) → stepped.outcome ≡ At mark → mark ≤ length stepped.state.publications))
  step_good name_of g flag = rows_good (row name_of s lane g) flag (row_good name_of g)
