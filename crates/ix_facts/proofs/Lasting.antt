-- Publications that a stop can't undo any more.
use Rattle.std.proofs.Common.{◌≡◌, ◌⊎◌, inl, inr, ℕ, zero, suc, ◌+◌, ◌-◌, ◌≤◌, List, [], ◌∷◌, ◌++◌, length, take, drop, fold, Bool, true, false, cond, Option, Some, None, IfSome, option_map, option_and_then, refl, sym, ap, subst, ◌∙◌, ◌==◌, arith}
use Rattle.std.proofs.lemmas.List.{append_assoc, length-append, take-append-drop}
use Rattle.std.proofs.lemmas.List.Sums.{fold-append}
use Rattle.std.proofs.Math.Seq.{take-append-add, take-length}
use Rattle.std.specs.Map.{lookup}
use Rattle.std.specs.BTreeMap.{insert_entry, is_at}
use Rattle.std.specs.Str.{bytes_eq}
use Rattle.ix_types.specs.Row.{text_cmp}
use Rattle.ix_dir.specs.declared.area.Area.TheVariants.{Units, Records}
use Rattle.ix_dir.specs.declared.moves.Move.{Move}
use Rattle.ix_dir.specs.declared.moves.Move.TheVariants as move
use Rattle.ix_dir.specs.Images.{Image, IsImage}
use Rattle.ix_dir.specs.WhatAChangeLeaves.{Adds, AddsTo, IfTold}
use Rattle.ix_record.specs.declared.body.Body.{Body}
use Rattle.ix_unit.specs.declared.value.UnitValue.{UnitValue}
use Rattle.ix_model.specs.declared.publication.Publication.{Publication}
use Rattle.ix_model.specs.declared.publication.Publication.TheVariants as model
use Rattle.ix_model.specs.declared.publication.StoredUnit.{StoredUnit}
use Rattle.ix_model.specs.Units.{unit_named}
use Rattle.ix_machine.specs.declared.event.Outcome.{Outcome}
use Rattle.ix_machine.specs.declared.event.Outcome.TheVariants as outcome
use Rattle.ix_machine.specs.Counts.{Changed, Changes, Synced, UnitsMove, acknowledged, changes_after, counted, made}
use Rattle.ix_machine.specs.Given.{Given, Lease, Put, Stage, Publish, Remove, Scan, Load, Install, Adopt, Release, Collect}
use Rattle.ix_machine.specs.Needs.{is_guarded, loose, visible}
use Rattle.ix_machine.specs.State as state
use Rattle.ix_machine.specs.State.{State}
use Rattle.ix_machine.specs.Step.{Stepped, change, collect_first, dropped, ended, flagged, install_import, install_mark, may_fault, name_with_output, noted, publish_over, publish_unit, publishing, put_over, remove_named, staged_by, step, stored_unit, sure, write}
use Rattle.ix_stops.specs.Changes.{units_moves, waiting, waiting_step}
use Rattle.ix_stops.specs.Prefixes.{CountsFrom, IsPrefix, IsPrefixAt, LeavesPrefixes}
use Rattle.ix_changes.specs.Holds.{Waits}
use Rattle.ix_library.specs.Endings.{flag_for}
use Rattle.ix_library.specs.StandsFor.{Takes}
use Rattle.ix_facts.specs.Given.{StepLaws}
use Rattle.ix_facts.specs.Runs.{Called, IsAt, IsLibraryCall, AreLibraryCalls, Store, after_call, after_calls, state_behind}
use Rattle.ix_facts.proofs.Moments.{Since, acknowledged_rises, acknowledged_within, made_rises, none_yet, parts}
use Rattle.ix_facts.proofs.Playing.{PlaysTo, one_more, played_all, state_after}

-- ---- counts

-- what is made and not acknowledged waits
waits_from : (moves : List Move) (c : Changes) (n : ℕ) → c.acknowledged + n ≡ c.made → (fold counted c (units_moves moves)).acknowledged + fold waiting_step n moves ≡ (fold counted c (units_moves moves)).made
waits_from [] c n e = e
waits_from (move.Renamed Units name bytes stamp ∷ moves) c n e = waits_from moves (counted c Changed) (suc n) (omega (arith, e))
waits_from (move.Renamed Records name bytes stamp ∷ moves) c n e = waits_from moves c n e
waits_from (move.Removed Units name ∷ moves) c n e = waits_from moves (counted c Changed) (suc n) (omega (arith, e))
waits_from (move.Removed Records name ∷ moves) c n e = waits_from moves c n e
waits_from (move.Synced Units ∷ moves) c n e = waits_from moves (counted c Synced) 0 (omega arith)
waits_from (move.Synced Records ∷ moves) c n e = waits_from moves c n e
waits_from (move.Placed area name bytes stamp ∷ moves) c n e = waits_from moves c n e

module _ (from base : ℕ) (publications : List Publication) (moves : List Move) (counts : CountsFrom from base publications moves) where
  abbrev since : Changes
  since = changes_after base (units_moves (drop from moves))

  waits_since : waiting moves ≡ fold waiting_step 0 (drop from moves)
  waits_since = ap waiting (sym (take-append-drop from moves)) ∙ fold-append waiting_step 0 (take from moves) (drop from moves) ∙ ap (λ n. fold waiting_step n (drop from moves)) counts.none_waits

  pub all_made : since.acknowledged + waiting moves ≡ length publications
  all_made =
      let known : since.acknowledged + fold waiting_step 0 (drop from moves) ≡ since.made = waits_from (drop from moves) (none_yet base) 0 (omega arith) in
      let each : since.made ≡ length publications = counts.each in
      let wait = waits_since in
      omega (arith, known, each, wait)

  pub acknowledged_and_waiting : StepLaws → acknowledged publications base (units_moves (drop from moves)) + waiting moves ≡ length publications
  acknowledged_and_waiting laws =
      let all = all_made in
      let mark = laws.marks since.acknowledged publications (omega (arith, all)) in
      omega (arith, mark, all)

  pub all_acknowledged : StepLaws → waiting moves ≡ 0 → acknowledged publications base (units_moves (drop from moves)) ≡ length publications
  all_acknowledged laws none = let all = acknowledged_and_waiting laws in omega (arith, all, none)

  pub all_but_one : StepLaws → waiting moves ≤ 1 → length publications ≤ acknowledged publications base (units_moves (drop from moves)) + 1
  all_but_one laws one = let all = acknowledged_and_waiting laws in omega (arith, all, one)

pub begins_here : (moves : List Move) (base : ℕ) (publications : List Publication) → CountsFrom (length moves) base publications moves → waiting moves ≡ 0
begins_here moves base publications counts = ap waiting (sym (take-length moves)) ∙ counts.none_waits

pub pends_last : (s : State) (moves : List Move) → (waiting moves ≡ 0) ⊎ ((waiting moves ≡ 1) × ((mark : ℕ) × (s.pending ≡ Some mark) × (suc mark ≡ length s.publications))) → waiting moves ≡ 1
    → (mark : ℕ) × (s.pending ≡ Some mark) × (suc mark ≡ length s.publications)
pends_last s moves (inl none) one = absurd (omega (arith, none, one))
pends_last s moves (inr (is, pends)) one = pends

-- ---- a moment behind another

-- what was acknowledged stays so, and no more is made than there is at the end
record IsBehind (from base : ℕ) (later : List Publication) (mid here : List Move) : Type 0 where
  rises : (changes_after base (units_moves (drop from mid))).acknowledged ≤ (changes_after base (units_moves (drop from here))).acknowledged
  known : (changes_after base (units_moves (drop from here))).acknowledged ≤ (changes_after base (units_moves (drop from here))).made
  most : (changes_after base (units_moves (drop from here))).made ≤ length later

module _ (from base : ℕ) (earlier later : List Publication) (mid more : List Move) (start : CountsFrom from base earlier mid) (end : CountsFrom from base later (mid ++ more)) where
  at_front : (j : ℕ) → IsBehind from base later mid (mid ++ take j more)
  at_front j =
      let here : List Move = mid ++ take j more in
      let within = start.within in
      let n = length-append mid (take j more) in
      let longer : from ≤ length here = omega (arith, n, within) in
      let to_here : Since from base mid start.within here ≡ fold counted (Since from base mid start.within mid) (units_moves (take j more)) = parts from base mid start.within (take j more) in
      let known_here = ap (λ (c : Changes). c.acknowledged) to_here in
      let split : mid ++ more ≡ here ++ drop j more = ap (λ (ms : List Move). mid ++ ms) (sym (take-append-drop j more)) ∙ sym (append_assoc mid (take j more) (drop j more)) in
      let to_end : (changes_after base (units_moves (drop from (mid ++ more)))).made ≡ (fold counted (changes_after base (units_moves (drop from here))) (units_moves (drop j more))).made =
      ap (λ (ms : List Move). (changes_after base (units_moves (drop from ms))).made) split ∙ ap (λ (c : Changes). c.made) (parts from base here longer (drop j more)) in
      let begun = acknowledged_within (units_moves (drop from mid)) (none_yet base) (omega arith) in
      let rises = acknowledged_rises (units_moves (take j more)) (changes_after base (units_moves (drop from mid))) begun in
      let less = made_rises (units_moves (drop j more)) (changes_after base (units_moves (drop from here))) in
      let each : (changes_after base (units_moves (drop from (mid ++ more)))).made ≡ length later = end.each in
      record {
        rises = omega (arith, rises, known_here);
        known = acknowledged_within (units_moves (drop from here)) (none_yet base) (omega arith);
        most = omega (arith, less, to_end, each);
      }

  at_moment : (moment : ℕ) → length mid ≤ moment → IsBehind from base later mid (take moment (mid ++ more))
  at_moment moment since =
      let e : moment ≡ length mid + (moment - length mid) = omega (arith, since) in
      let front : take moment (mid ++ more) ≡ mid ++ take (moment - length mid) more = ap (λ k. take k (mid ++ more)) e ∙ take-append-add mid more (moment - length mid) in
      subst (IsBehind from base later mid) (sym front) (at_front (moment - length mid))

  -- where nothing waited then, all that was there is acknowledged from then on
  pub stays_acknowledged : StepLaws → waiting mid ≡ 0 → (moment : ℕ) → length mid ≤ moment → length earlier ≤ acknowledged later base (units_moves (drop from (take moment (mid ++ more))))
  stays_acknowledged laws none moment since =
      let b = at_moment moment since in
      let rises = b.rises in
      let known = b.known in
      let most = b.most in
      let all = all_made from base earlier mid start in
      let mark = laws.marks (changes_after base (units_moves (drop from (take moment (mid ++ more))))).acknowledged later (omega (arith, known, most)) in
      omega (arith, rises, all, none, mark)

  -- so each stop leaves it
  pub stop_leaves : StepLaws → (name_of : List ℕ → List ℕ) → waiting mid ≡ 0 → (moment : ℕ) (image : Image) → length mid ≤ moment → IsPrefixAt name_of later from base (take moment (mid ++ more)) image → IsPrefix name_of later (length earlier) (length later) image
  stop_leaves laws name_of none moment image since p =
      let b = at_moment moment since in
      let most = b.most in
      let mark = laws.marks (changes_after base (units_moves (drop from (take moment (mid ++ more))))).made later most in
      let stays = stays_acknowledged laws none moment since in
      let enough = p.enough in
      let within = p.within in
      record {
        count = p.count;
        enough = omega (arith, enough, stays);
        within = omega (arith, within, mark, most);
        units = p.units;
        refused = p.refused;
      }

-- ---- what a call that ended Synced leaves pending: nothing

module _ (name_of : List ℕ → List ℕ) (s : State) (lane : ℕ) (stepped : Stepped) (synced : stepped.outcome ≡ outcome.Synced) where
  abbrev Settles : Type 0
  Settles = stepped.state.pending ≡ None

  unlike : (how : Outcome) (next : State) → (how ≡ outcome.Synced → ⊥) → Some (ended how next) ≡ Some stepped → Settles
  unlike how next other is = let same : ended how next ≡ stepped = cc in absurd (other (ap (λ (x : Stepped). x.outcome) same ∙ synced))

  by_change : (from faulted : State) (p : Publication) → flagged (change from faulted p) outcome.Done ≡ Some stepped → Settles
  by_change from faulted p is = let same : ended outcome.Synced (publishing from p None) ≡ stepped = cc in sym (ap (λ (x : Stepped). x.state.pending) same)

  by_tests : (body : Body) (same guarded : Bool) → flagged (cond same (may_fault outcome.Shared (noted s lane body.name) (dropped s lane)) (cond guarded (may_fault outcome.Clash (dropped s lane) (dropped s lane)) (write s lane body))) outcome.Done ≡ Some stepped → Settles
  by_tests body true guarded is = unlike outcome.Shared (noted s lane body.name) (λ e. cc) is
  by_tests body false true is = unlike outcome.Clash (dropped s lane) (λ e. cc) is
  by_tests body false false is = unlike outcome.Written (noted (record s { records = insert_entry text_cmp s.records body.name body.bytes }) lane body.name) (λ e. cc) is

  by_file : (body : Body) (there : Option (List ℕ)) → flagged (put_over s lane body there) outcome.Done ≡ Some stepped → Settles
  by_file body None is = unlike outcome.Written (noted (record s { records = insert_entry text_cmp s.records body.name body.bytes }) lane body.name) (λ e. cc) is
  by_file body (Some bytes) is = by_tests body (bytes_eq bytes body.bytes) (is_guarded s lane body.name) is

  by_path : (name : List ℕ) (unit : UnitValue) (b : Bool) → flagged (cond b (change (dropped s lane) (dropped s lane) (model.Put name (stored_unit s unit))) (sure outcome.Clash (dropped s lane))) outcome.Done ≡ Some stepped → Settles
  by_path name unit true is = by_change (dropped s lane) (dropped s lane) (model.Put name (stored_unit s unit)) is
  by_path name unit false is = unlike outcome.Clash (dropped s lane) (λ e. cc) is

  by_other : (name : List ℕ) (unit : UnitValue) (o : Option StoredUnit) → flagged (publish_over s lane name unit o) outcome.Done ≡ Some stepped → Settles
  by_other name unit None is = by_change (dropped s lane) (dropped s lane) (model.Put name (stored_unit s unit)) is
  by_other name unit (Some other) is = by_path name unit (bytes_eq other.unit.output unit.output) is

  by_staged : (o : Option UnitValue) → option_and_then (λ r. flagged r outcome.Done) (option_map (λ unit. publish_unit s lane (name_of unit.output) unit) o) ≡ Some stepped → Settles
  by_staged None is = absurd (cc)
  by_staged (Some unit) is = by_other (name_of unit.output) unit (unit_named (name_of unit.output) (visible s)) is

  by_name : (o : Option (List ℕ)) → flagged (remove_named s o) outcome.Done ≡ Some stepped → Settles
  by_name None is = unlike outcome.NoUnit s (λ e. cc) is
  by_name (Some name) is = by_change s s (model.Gone name) is

  by_own : (mark : ℕ) (own : Bool) → option_and_then (λ r. flagged r outcome.Done) (cond own (Some (install_mark s lane mark)) None) ≡ Some stepped → Settles
  by_own mark true is = unlike (outcome.At mark) _ (λ e. cc) is
  by_own mark false is = absurd (cc)

  by_import : (o : Option state.Import) → option_and_then (λ r. flagged r outcome.Done) (install_import s lane o) ≡ Some stepped → Settles
  by_import None is = absurd (cc)
  by_import (Some i) is = by_own i.mark (i.lane == lane) is

  by_loose : (names : List (List ℕ)) → Some (collect_first s names) ≡ Some stepped → Settles
  by_loose [] is = unlike outcome.Nothing _ (λ e. cc) is
  by_loose (name ∷ names) is = unlike (outcome.Removed name) _ (λ e. cc) is

  pub synced_settles : (given : Given) → step name_of s lane given outcome.Done ≡ Some stepped → Settles
  synced_settles (Lease names) is = unlike outcome.Done _ (λ e. cc) is
  synced_settles (Put body) is = by_file body (lookup (is_at (text_cmp body.name)) s.records) is
  synced_settles (Stage unit) is = unlike outcome.Done _ (λ e. cc) is
  synced_settles Publish is = by_staged (staged_by s lane) is
  synced_settles (Remove output) is = by_name (name_with_output output (visible s)) is
  synced_settles Scan is = unlike (outcome.At (length s.publications)) _ (λ e. cc) is
  synced_settles (Load name purpose) is = unlike outcome.Done s (λ e. cc) is
  synced_settles Install is = by_import s.import is
  synced_settles Adopt is = unlike (outcome.At s.current) _ (λ e. cc) is
  synced_settles Release is = unlike outcome.Done _ (λ e. cc) is
  synced_settles Collect is = by_loose (loose s) is

-- ---- in a run

module _ (laws : StepLaws) (name_of : List ℕ → List ℕ) (s : State) (first last : Store) (calls : List Called) (before now : List Move) (all : PlaysTo laws name_of s first calls last) (was : first.dir.moves ≡ Some before) (is : last.dir.moves ≡ Some now) where
  pub added_on : Adds before now
  added_on = subst (λ (o : Option (List Move)). AddsTo (Some before) o) is (subst (λ (o : Option (List Move)). AddsTo o last.dir.moves) was all.adds)

  pub left_on : LeavesPrefixes name_of s.publications (after_calls name_of s calls).publications before now
  left_on =
      subst (λ (o : Option (List Move)). IfTold (Some before) o (LeavesPrefixes name_of s.publications (after_calls name_of s calls).publications)) is
      (subst (λ (o : Option (List Move)). IfTold o last.dir.moves (LeavesPrefixes name_of s.publications (after_calls name_of s calls).publications)) was all.leaves)

  pub waits_on : Waits s before → Waits (after_calls name_of s calls) now
  waits_on =
      subst (λ (o : Option (List Move)). Waits s before → IfSome o (Waits (after_calls name_of s calls))) is
      (subst (λ (o : Option (List Move)). IfSome o (Waits s) → IfSome last.dir.moves (Waits (after_calls name_of s calls))) was all.waits)

-- a call that ended Synced, behind a run
module _ (laws : StepLaws) (name_of : List ℕ → List ℕ) (s : State) (first between after : Store) (calls : List Called) (called : Called) (before mid : List Move)
    (at : IsAt name_of s first) (run : AreLibraryCalls name_of s first calls between) (call : IsLibraryCall name_of (after_calls name_of s calls) between called after) (ends : called.ending ≡ Some outcome.Synced)
    (was : first.dir.moves ≡ Some before) (is : after.dir.moves ≡ Some mid) where
  abbrev pub then : State
  then = after_call name_of (after_calls name_of s calls) called

  to_call : PlaysTo laws name_of s first (calls ++ called ∷ []) after
  to_call = played_all laws name_of (calls ++ called ∷ []) s first after at (one_more name_of calls s first between after called run call)

  there : after_calls name_of s (calls ++ called ∷ []) ≡ then
  there = state_after name_of calls s called

  pub at_call : IsAt name_of then after
  at_call = subst (λ (t : State). IsAt name_of t after) there to_call.stands

  pub counts_then : (from base : ℕ) → CountsFrom from base s.publications before → CountsFrom from base then.publications mid
  counts_then from base counts = subst (λ (t : State). CountsFrom from base t.publications mid) there ((left_on laws name_of s first after (calls ++ called ∷ []) before mid to_call was is).counted from base counts)

  took : Takes name_of (after_calls name_of s calls) called.lane called.given outcome.Done outcome.Synced between.dir after.kept after.shelf after.known after.dir
  took = subst (λ (o : Option Outcome). IfSome o (λ how. Takes name_of (after_calls name_of s calls) called.lane called.given (flag_for how) how between.dir after.kept after.shelf after.known after.dir)) ends call.takes

  none_pends : then.pending ≡ None
  none_pends =
      let t = took in
      let next : then ≡ t.next = ap (λ (o : Option Outcome). state_behind (after_calls name_of s calls) (option_and_then (λ how. step name_of (after_calls name_of s calls) called.lane called.given (flag_for how)) o)) ends
      ∙ ap (state_behind (after_calls name_of s calls)) t.taken in
      ap (λ (x : State). x.pending) next ∙ synced_settles name_of (after_calls name_of s calls) called.lane (ended outcome.Synced t.next) refl called.given t.taken

  pub none_waits : Waits s before → waiting mid ≡ 0
  none_waits waits = (subst (λ (t : State). Waits t mid) there (waits_on laws name_of s first after (calls ++ called ∷ []) before mid to_call was is waits)).none none_pends

  module _ (waits : Waits s before) (from base : ℕ) (counts : CountsFrom from base s.publications before) where
    pub acknowledged_then : acknowledged then.publications base (units_moves (drop from mid)) ≡ length then.publications
    acknowledged_then = all_acknowledged from base then.publications mid (counts_then from base counts) laws (none_waits waits)

    module _ (last : Store) (more : List Called) (now : List Move) (moment : ℕ) (since : length mid ≤ moment) (on : AreLibraryCalls name_of then after more last) (ends_with : last.dir.moves ≡ Some now) where
      behind : PlaysTo laws name_of then after more last
      behind = played_all laws name_of more then after last at_call on

      adds : Adds mid now
      adds = added_on laws name_of then after last more mid now behind is ends_with

      left : LeavesPrefixes name_of then.publications (after_calls name_of then more).publications mid now
      left = left_on laws name_of then after last more mid now behind is ends_with

      counts_on : CountsFrom from base (after_calls name_of then more).publications (mid ++ adds.more)
      counts_on = subst (CountsFrom from base (after_calls name_of then more).publications) adds.added (left.counted from base (counts_then from base counts))

      pub acknowledged_on : length then.publications ≤ acknowledged (after_calls name_of then more).publications base (units_moves (drop from (take moment now)))
      acknowledged_on =
          subst (λ (ms : List Move). length then.publications ≤ acknowledged (after_calls name_of then more).publications base (units_moves (drop from (take moment ms)))) (sym adds.added)
          (stays_acknowledged from base then.publications (after_calls name_of then more).publications mid adds.more (counts_then from base counts) counts_on laws (none_waits waits) moment since)

      pub stop_on : (image : Image) → moment ≤ length now → IsImage (take moment now) image → IsPrefix name_of (after_calls name_of then more).publications (length then.publications) (length (after_calls name_of then more).publications) image
      stop_on image within left_there =
          stop_leaves from base then.publications (after_calls name_of then more).publications mid adds.more (counts_then from base counts) counts_on laws name_of (none_waits waits) moment image since
          (subst (λ (ms : List Move). IsPrefixAt name_of (after_calls name_of then more).publications from base (take moment ms) image) adds.added (left.left from base (counts_then from base counts) moment image since within left_there))

    -- the same with a name for the state
    module _ (last : Store) (more : List Called) (now : List Move) (moment : ℕ) (since : length mid ≤ moment) (synced : State) (as_synced : synced ≡ then) (on : AreLibraryCalls name_of synced after more last) (ends_with : last.dir.moves ≡ Some now) where
      on_then : AreLibraryCalls name_of then after more last
      on_then = subst (λ (t : State). AreLibraryCalls name_of t after more last) as_synced on

      pub acknowledges_on : length synced.publications ≤ acknowledged (after_calls name_of synced more).publications base (units_moves (drop from (take moment now)))
      acknowledges_on =
          subst (λ (t : State). length t.publications ≤ acknowledged (after_calls name_of t more).publications base (units_moves (drop from (take moment now)))) (sym as_synced)
          (acknowledged_on last more now moment since on_then ends_with)

      pub stops_on : (image : Image) → moment ≤ length now → IsImage (take moment now) image → IsPrefix name_of (after_calls name_of synced more).publications (length synced.publications) (length (after_calls name_of synced more).publications) image
      stops_on image within left_there =
          subst (λ (t : State). IsPrefix name_of (after_calls name_of t more).publications (length t.publications) (length (after_calls name_of t more).publications) image) (sym as_synced)
          (stop_on last more now moment since on_then ends_with image within left_there)
