-- What a call leaves of the marks and of other lanes.
use Rattle.std.proofs.Common.{◌≡◌, ◌≢◌, ℕ, ◌≤◌, List, [], ◌∷◌, length, get_or, set, Option, Some, None, IfSome, refl, sym, ap, subst, arith}
use Rattle.std.proofs.lemmas.List.{get_or-set_other}
use Rattle.ix_machine.specs.declared.event.Outcome.{Outcome}
use Rattle.ix_machine.specs.declared.event.Purpose.{Purpose}
use Rattle.ix_machine.specs.declared.event.Purpose.TheVariants as purposes
use Rattle.ix_machine.specs.Given.{Given, Lease, Put, Stage, Publish, Remove, Scan, Load, Install, Adopt, Release, Collect}
use Rattle.ix_machine.specs.Laws.{KeepsLane, NeverFalls}
use Rattle.ix_machine.specs.Needs.{loose}
use Rattle.ix_machine.specs.Run.{Turn, Takes, Leads}
use Rattle.ix_machine.specs.Sound.{IsSound}
use Rattle.ix_machine.specs.State as state
use Rattle.ix_machine.specs.State.{Import, State, lease_of, held_by}
use Rattle.ix_machine.specs.Step.{Stepped, Row, row, step, with_lease, collect_first, install_mark}
use Rattle.ix_machine.specs.Step as calls
use Rattle.ix_machine.proofs.Cases.{some_row, put_cases, publish_cases, remove_cases, install_cases}
use Rattle.ix_machine.proofs.Lists.{set_cases}
use Rattle.ix_machine.proofs.Rows.{Each, each_stepped}
use Rattle.ix_machine.proofs.Runs.{taken-sound}

module _ (s : State) (lane : ℕ) where
  -- the marks are as before, and so are the leases of other lanes
  abbrev pub Frame : State → Type 0
  Frame t = (t.current ≡ s.current) × (t.held ≡ s.held) × ((other : ℕ) → other ≢ lane → lease_of t other ≡ lease_of s other)

  kept : Frame s
  kept = (refl, refl, λ other apart. refl)

  leased : (lease : Option state.Lease) → Frame (with_lease s lane lease)
  leased lease = (refl, refl, λ other apart. get_or-set_other s.leases lane other lease None apart)

  abbrev Framed : Row → Type 0
  Framed = Each Frame

  load_frame : (name : List ℕ) (purpose : Purpose) → Framed (calls.load s name purpose)
  load_frame name purposes.Import = record { plain = kept; faulted = kept; unsynced = tt }
  load_frame name purposes.Ask = record { plain = kept; faulted = kept; unsynced = tt }

  collected_frame : (names : List (List ℕ)) → Frame (collect_first s names).state
  collected_frame [] = kept
  collected_frame (name ∷ names) = kept

  module _ (name_of : List ℕ → List ℕ) (P : Row → Type 0) (frame : (r : Row) → Framed r → P r) (installs : (i : Import) → s.import ≡ Some i → P (install_mark s lane i.mark)) (adopts : P (calls.adopt s lane)) (releases : P (calls.release s lane)) where
    -- by the calls that change marks, and all others
    pub by_marks : (given : Given) (r : Row) → row name_of s lane given ≡ Some r → P r
    by_marks (Lease names) r e = some_row P s lane _ r e (frame _ (record { plain = leased (Some (record { names = names; put = []; staged = None })); faulted = tt; unsynced = tt }))
    by_marks (Put body) r e = some_row P s lane _ r e (frame _ (put_cases Framed s lane body
        (record { plain = leased _; faulted = leased None; unsynced = tt })
        (record { plain = leased _; faulted = leased None; unsynced = tt })
        (record { plain = leased None; faulted = leased None; unsynced = tt })))
    by_marks (Stage unit) r e = some_row P s lane _ r e (frame _ (record { plain = leased _; faulted = leased None; unsynced = tt }))
    by_marks Publish r e = frame r (publish_cases Framed s lane (λ name unit. record { plain = leased None; faulted = leased None; unsynced = leased None }) (record { plain = leased None; faulted = tt; unsynced = tt }) name_of r e)
    by_marks (Remove output) r e = some_row P s lane _ r e (frame _ (remove_cases Framed s lane (record { plain = kept; faulted = tt; unsynced = tt }) (λ name. record { plain = kept; faulted = kept; unsynced = kept }) output))
    by_marks Scan r e = some_row P s lane _ r e (frame _ (record { plain = kept; faulted = kept; unsynced = tt }))
    by_marks (Load name purpose) r e = some_row P s lane _ r e (frame _ (load_frame name purpose))
    by_marks Install r e = install_cases P s lane installs r e
    by_marks Adopt r e = some_row P s lane _ r e adopts
    by_marks Release r e = some_row P s lane _ r e releases
    by_marks Collect r e = some_row P s lane _ r e (frame _ (record { plain = collected_frame (loose s); faulted = kept; unsynced = tt }))

-- ---- other lanes

module _ (s : State) (lane other : ℕ) (apart : other ≢ lane) where
  Keeps : State → Type 0
  Keeps t = KeepsLane s t other

  by_frame : (t : State) → Frame s lane t → KeepsLane s t other
  by_frame t f = record { lease = f.2 other apart; hold = ap (λ (held : List (Option ℕ)). get_or held other None) f.1 }

  framed_keeps : (r : Row) → Each (Frame s lane) r → Each (λ t. KeepsLane s t other) r
  framed_keeps r each = record {
    plain = by_frame r.plain.state each.plain;
    faulted = over r.faulted each.faulted;
    unsynced = over r.unsynced each.unsynced;
  }
    where
      over : (o : Option State) → IfSome o (Frame s lane) → IfSome o (λ t. KeepsLane s t other)
      over None f = tt
      over (Some t) f = by_frame t f

  held_apart : (mark : Option ℕ) → get_or (set s.held lane mark) other None ≡ get_or s.held other None
  held_apart mark = get_or-set_other s.held lane other mark None apart

  pub other_lane_stays : (name_of : List ℕ → List ℕ) (given : Given) (flag : Outcome) (stepped : Stepped) → step name_of s lane given flag ≡ Some stepped → KeepsLane s stepped.state other
  other_lane_stays name_of given flag stepped e =
      each_stepped (λ t. KeepsLane s t other) name_of s lane given flag stepped
      (by_marks s lane name_of (Each (λ t. KeepsLane s t other)) framed_keeps
      (λ i is. record { plain = record { lease = refl; hold = held_apart (Some i.mark) }; faulted = tt; unsynced = tt })
      (record { plain = record { lease = refl; hold = held_apart (Some s.current) }; faulted = tt; unsynced = tt })
      (record { plain = record { lease = refl; hold = held_apart None }; faulted = tt; unsynced = tt }) given)
      e

-- ---- marks

-- the current mark is at least the first number, and what the lane holds at least the second
abbrev AtLeast : ℕ → ℕ → ℕ → State → Type 0
AtLeast least low lane t = (least ≤ t.current) × IfSome (held_by t lane) (λ mark. low ≤ mark)

module _ (name_of : List ℕ → List ℕ) (least low lane : ℕ) (lower : low ≤ least) where
  module _ (s : State) (by_lane : ℕ) (before : AtLeast least low lane s) where
    hold : (mark : Option ℕ) → IfSome mark (λ m. low ≤ m) → IfSome (get_or (set s.held by_lane mark) lane None) (λ m. low ≤ m)
    hold mark p = set_cases (λ o. IfSome o (λ m. low ≤ m)) s.held by_lane lane mark None p before.1

    over : (t : State) → Frame s by_lane t → AtLeast least low lane t
    over t f = (subst (λ (n : ℕ). least ≤ n) (sym f.0) before.0, subst (λ (held : List (Option ℕ)). IfSome (get_or held lane None) (λ m. low ≤ m)) (sym f.1) before.1)

    each_over : (o : Option State) → IfSome o (Frame s by_lane) → IfSome o (AtLeast least low lane)
    each_over None f = tt
    each_over (Some t) f = over t f

    framed : (r : Row) → Each (Frame s by_lane) r → Each (AtLeast least low lane) r
    framed r each = record { plain = over r.plain.state each.plain; faulted = each_over r.faulted each.faulted; unsynced = each_over r.unsynced each.unsynced }

    installed : (mark : ℕ) → s.current ≤ mark → Each (AtLeast least low lane) (install_mark s by_lane mark)
    installed mark later =
        let first = before.0 in
        let rises : least ≤ mark = omega arith in
        record { plain = (rises, hold (Some mark) (omega arith)); faulted = tt; unsynced = tt }

    adopted : Each (AtLeast least low lane) (calls.adopt s by_lane)
    adopted = let first = before.0 in record { plain = (first, hold (Some s.current) (omega arith)); faulted = tt; unsynced = tt }

    released : Each (AtLeast least low lane) (calls.release s by_lane)
    released = record { plain = (before.0, hold None tt); faulted = tt; unsynced = tt }

  step_rises : (s : State) (turn : Turn) (stepped : Stepped) → IsSound name_of s → Takes name_of s turn stepped → AtLeast least low lane s → AtLeast least low lane stepped.state
  step_rises s turn stepped h takes before =
      each_stepped (AtLeast least low lane) name_of s turn.lane turn.given turn.flag stepped
      (by_marks s turn.lane name_of (Each (AtLeast least low lane)) (framed s turn.lane before)
      (λ i is. installed s turn.lane before i.mark (subst (λ (o : Option Import). IfSome o (λ i. (s.current ≤ i.mark) × (i.mark ≤ length s.publications))) is h.marks.imported).0)
      (adopted s turn.lane before) (released s turn.lane before) turn.given)
      takes.taken

  run_rises : (turns : List Turn) (s end : State) → IsSound name_of s → Leads name_of s turns end → AtLeast least low lane s → AtLeast least low lane end
  run_rises [] s end h leads before = subst (AtLeast least low lane) leads before
  run_rises (turn ∷ turns) s end h leads before =
      run_rises turns leads.0.state end (taken-sound name_of s turn leads.0 h leads.1) leads.2 (step_rises s turn leads.0 h leads.1 before)

module _ (name_of : List ℕ → List ℕ) (turns : List Turn) (s end : State) (h : IsSound name_of s) (leads : Leads name_of s turns end) (lane : ℕ) where
  at_least_zero : (o : Option ℕ) → IfSome o (λ mark. 0 ≤ mark)
  at_least_zero None = tt
  at_least_zero (Some mark) = omega arith

  held_rises : (o : Option ℕ) → held_by s lane ≡ o → IfSome o (λ earlier. IfSome (held_by end lane) (λ later. earlier ≤ later))
  held_rises None is = tt
  held_rises (Some mark) is =
      let below : mark ≤ s.current = subst (λ (o : Option ℕ). IfSome o (λ m. m ≤ s.current)) is (h.marks.held lane) in
      let own : IfSome (held_by s lane) (λ m. mark ≤ m) = subst (λ (o : Option ℕ). IfSome o (λ m. mark ≤ m)) (sym is) (omega arith) in
      let same : mark ≤ mark = omega arith in
      (run_rises name_of mark mark lane same turns s end h leads (below, own)).1

  pub never_falls : NeverFalls s end lane
  never_falls = record {
    current = (run_rises name_of s.current 0 lane (omega arith) turns s end h leads (omega arith, at_least_zero (held_by s lane))).0;
    held = held_rises (held_by s lane) refl;
  }
