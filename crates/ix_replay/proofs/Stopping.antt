-- What a replay leaves, from what its opening and its run leave.
use Rattle.std.proofs.Common.{◌≡◌, ◌∙◌, ◌⊎◌, inr, ℕ, zero, suc, ◌+◌, ◌-◌, ◌≤◌, List, [], ◌∷◌, ◌++◌, length, take, Option, Some, None, IfSome, append-nil, refl, sym, ap, subst, arith, Result, Ok, Err, IfErr}
use Rattle.std.proofs.lemmas.List.{length-append, length-map, take-append-le}
use Rattle.ix_dir.specs.declared.area.Area.TheVariants.{Records}
use Rattle.ix_dir.specs.declared.moves.Move.{Move}
use Rattle.ix_dir.specs.Crash.{standing}
use Rattle.ix_dir.specs.Images.{Image, IsImage}
use Rattle.ix_dir.specs.WhatAChangeLeaves.{Adds, AddsTo, IfTold}
use Rattle.ix_machine.specs.Run.{Opening, begun}
use Rattle.ix_model.specs.declared.publication.Publication.{Publication}
use Rattle.ix_model.specs.declared.publication.Publication.TheVariants as model
use Rattle.ix_model.specs.declared.publication.StoredUnit.{StoredUnit}
use Rattle.ix_opening.specs.AfterOpening.{MakesFront, names_of, opening_moves, removals}
use Rattle.ix_opening.specs.Found.{opening_of}
use Rattle.ix_plan.specs.declared.plan.Script.{Script}
use Rattle.ix_stops.specs.Changes.{waiting}
use Rattle.ix_stops.specs.OnDisk.{IsOnDisk}
use Rattle.ix_stops.specs.Prefixes.{CountsFrom, IsPrefix, LeavesPrefixes}
use Rattle.ix_stops.specs.Stands.{StandsOnDisk}
use Rattle.ix_machine.specs.declared.event.Event.{Event}
use Rattle.ix_replays.specs.Run.{Run, fresh, lanes_of}
use Rattle.ix_turn_order.specs.Order.{IsWanting}
use Rattle.ix_replay.specs.declared.replaying.ReplayError.TheVariants.{OpenFault, Memory}
use Rattle.ix_replay.specs.Left.{HoldsState, IsLeft, LeavesBehind, NoneMissed, StopsInOpening, StopsInRun, opened}

take_all : {A : Type 0} (n : ℕ) (xs : List A) → length xs ≤ n → take n xs ≡ xs
take_all zero [] h = refl
take_all (suc n) [] h = refl
take_all zero (x ∷ xs) h = absurd (omega (arith, h))
take_all (suc n) (x ∷ xs) h = ap (λ rest. x ∷ rest) (take_all n xs (omega (arith, h)))

module _ (name_of : List ℕ → List ℕ) where
  -- what an opening says of its images, from the moves before it to those at its end
  abbrev pub Early : List Move → List Move → Type 0
  Early before now = (moment : ℕ) (image : Image) → length before ≤ moment → moment ≤ length before + 2 → IsImage (take moment now) image → IsImage before image

  abbrev pub Images : List Move → List Move → Type 0
  Images before now = (moment : ℕ) (image : Image) → length before + 2 ≤ moment → moment ≤ length now → IsImage (take moment now) image
      → (opening_of name_of image).units ≡ (opening_of name_of (standing before)).units

  -- ---- an opening that stopped

  abbrev pub HasStopped : List Move → Option (List Move) → Type 0
  HasStopped before told = (now : List Move) × (told ≡ Some now) × StopsInOpening name_of before now

  pub stopped : (before now : Option (List Move)) → MakesFront name_of before now
      → IfTold before now (λ (b n : List Move). standing n Records ≡ standing b Records)
      → IfTold before now (λ (b n : List Move). (opening_of name_of (standing n)).units ≡ (opening_of name_of (standing b)).units)
      → IfTold before now Images → IfTold before now Early → IfSome before (λ (b : List Move). HasStopped b now)
  stopped None None front records kept images early = tt
  stopped None (Some now) front records kept images early = absurd front
  stopped (Some before) None front records kept images early = absurd front
  stopped (Some before) (Some now) front records kept images early = (now, refl, record { front = front; records = records; kept = kept; early = early; images = images })

  -- no move was made
  pub not_begun : (before : Option (List Move)) → IfSome before (λ (b : List Move). HasStopped b before)
  not_begun None = tt
  not_begun (Some before) = (
    before,
    refl,
    record {
      front = record { count = 0; made = sym (append-nil before) };
      records = refl;
      kept = refl;
      early = λ moment image low high is. subst (λ (ms : List Move). IsImage ms image) (take_all moment before low) is;
      images = λ moment image low high is. absurd (omega (arith, low, high));
    },
  )

  -- ---- a replay that ended

  -- opening's end, and what counts from there
  pub record HasOpened (lanes : ℕ) (before now : List Move) : Type 0 where
    pub moves : now ≡ opened name_of before
    pub counts : CountsFrom (length now) (length (begun (opening_of name_of (standing before)) lanes).publications) (begun (opening_of name_of (standing before)) lanes).publications now
    pub images : Images before now
    pub early : Early before now

  pub opened_there : (lanes : ℕ) (before now : Option (List Move)) → AddsTo before now
      → IfTold before now (λ (b n : List Move). n ≡ b ++ opening_moves name_of b)
      → IfTold before now (λ (b n : List Move). CountsFrom (length n) (length (begun (opening_of name_of (standing b)) lanes).publications) (begun (opening_of name_of (standing b)) lanes).publications n)
      → IfTold before now Images → IfTold before now Early → IfSome before (λ (b : List Move). (n : List Move) × (now ≡ Some n) × HasOpened lanes b n)
  opened_there lanes None now adds moves counts images early = tt
  opened_there lanes (Some before) None adds moves counts images early = absurd adds
  opened_there lanes (Some before) (Some now) adds moves counts images early = (now, refl, record { moves = moves; counts = counts; images = images; early = early })

  module _ (lanes : ℕ) (before : List Move) (run : Run) (now : List Move) where
    abbrev start : List Publication
    start = (begun (opening_of name_of (standing before)) lanes).publications

    abbrev units : ℕ
    units = length (opening_of name_of (standing before)).units

    as_many : length start ≡ units
    as_many = length-map (opening_of name_of (standing before)).units (λ (entry : List ℕ × StoredUnit). model.Put entry.0 entry.1)

    is_left : HasOpened lanes before (opened name_of before) → Adds (opened name_of before) now → StandsOnDisk name_of run.state now → (more : List Publication) → run.state.publications ≡ start ++ more
        → LeavesPrefixes name_of start run.state.publications (opened name_of before) now → IsLeft name_of before run now
    is_left o adds stands more begins leaves =
        let mid = opened name_of before in
        let counts : CountsFrom (length mid) units start mid = subst (λ (n : ℕ). CountsFrom (length mid) n start mid) as_many o.counts in
        let two_more : length mid ≡ length before + suc (suc (length (removals (names_of (opening_of name_of (standing before)).refused)))) = length-append before (opening_moves name_of before) in
        let front : (moment : ℕ) → moment ≤ length mid → take moment now ≡ take moment mid = λ moment low. ap (take moment) adds.added ∙ take-append-le moment mid adds.more low in
        record {
          adds = adds;
          stands = stands;
          more = more;
          begins = begins;
          early = λ moment image low high is. o.early moment image low high (subst (λ (ms : List Move). IsImage ms image) (front moment (omega (arith, high, two_more))) is);
          images = λ moment image low high is. o.images moment image low high (subst (λ (ms : List Move). IsImage ms image) (front moment high) is);
          prefixes = λ moment image low high is. leaves.left (length mid) units counts moment image low high is;
          counts = leaves.counted (length mid) units counts;
        }

  pub replay_left : (script : Script) (lanes : ℕ) (before mid : List Move) (run : Run) (opened_at end : Option (List Move)) → opened_at ≡ Some mid → HasOpened lanes before mid → HoldsState name_of run.state end
      → LeavesBehind name_of (fresh name_of script (opening_of name_of (standing before))) run opened_at end → (now : List Move) × (end ≡ Some now) × IsLeft name_of before run now
  replay_left script lanes before mid run opened_at end told o h l =
      let first = fresh name_of script (opening_of name_of (standing before)) in
      let at_end : LeavesBehind name_of first run opened_at (Some h.0) = subst (λ (e : Option (List Move)). LeavesBehind name_of first run opened_at e) h.1 l in
      let from_mid : LeavesBehind name_of first run (Some mid) (Some h.0) = subst (λ (e : Option (List Move)). LeavesBehind name_of first run e (Some h.0)) told at_end in
      let from_opened : LeavesBehind name_of first run (Some (opened name_of before)) (Some h.0) = subst (λ (ms : List Move). LeavesBehind name_of first run (Some ms) (Some h.0)) o.moves from_mid in
      (h.0, h.1, is_left lanes before run h.0 (subst (λ (ms : List Move). HasOpened lanes before ms) o.moves o) from_opened.adds h.2 from_opened.grows.more from_opened.grows.grown from_opened.prefixes)

  pub none_missed : (script : Script) (opening : Opening) (run : Run) (before now : Option (List Move)) (events : List Event) → LeavesBehind name_of (fresh name_of script opening) run before now → events ≡ run.events
      → NoneMissed events
  none_missed script opening run before now events l is = subst NoneMissed (sym (is ∙ l.came)) l.found

  -- ---- a replay that stopped in its run

  pub stops_in_run : (script : Script) (before : List Move) (end : Option (List Move))
      → ((name_of : List ℕ → List ℕ) (pending : Option ℕ) (publications : List Publication) (moves : List Move) (image : Image) → IsOnDisk name_of pending publications moves → IsImage moves image
      → IsPrefix name_of publications (length publications - waiting moves) (length publications) image)
      → IsWanting name_of (lanes_of name_of script) (λ (run : Run). HoldsState name_of run.state end) (fresh name_of script (opening_of name_of (standing before))) script.order
      → (now : List Move) × (end ≡ Some now) × (StopsInOpening name_of before now ⊎ StopsInRun name_of before script now)
  stops_in_run script before end law w =
      let now = w.wants.0 in (
        now,
        w.wants.1,
        inr (record {
          run = w.run;
          rest = w.rest;
          comes = w.comes;
          stands = w.wants.2;
          images = λ image is. law name_of w.run.state.pending w.run.state.publications now image w.wants.2.disk is;
        }),
      )

-- what is told of an error
pub err_there : {A E : Type 0} (r : Result A E) (e : E) (P : E → Type 0) → r ≡ Err e → IfErr r P → P e
err_there {A = A} {E = E} (Ok a) e P is p = absurd (cc)
err_there {A = A} {E = E} (Err other) e P is p = subst (λ (r : Result A E). IfErr r P) is p

pub told_then : {X : Type 0} (o : Option X) (P : X → Type 0) → ((x : X) → P x) → IfSome o P
told_then None P p = tt
told_then (Some x) P p = p x

pub no_fault : OpenFault ≡ Memory → ⊥
no_fault is = absurd (cc)
