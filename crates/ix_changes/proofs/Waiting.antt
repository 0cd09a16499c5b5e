-- How many changes of the units wait for a sync behind the moves of each step.
use Rattle.std.proofs.Common.{◌≡◌, ◌⊎◌, inl, inr, ℕ, zero, suc, ◌+◌, ◌≤◌, Bool, true, false, cond, List, [], ◌∷◌, ◌++◌, length, refl, sym, ap, subst, ◌∙◌, Option, Some, None, is_some, option_map, option_and_then, arith}
use Rattle.std.proofs.lemmas.List.Sums.{fold-append}
use Rattle.std.specs.List.{fold}
use Rattle.std.specs.FinMap.{get}
use Rattle.std.specs.Str.{bytes_eq}
use Rattle.ix_dir.specs.declared.area.Area.TheVariants.{Units, Records}
use Rattle.ix_dir.specs.declared.moves.Move.{Move}
use Rattle.ix_dir.specs.declared.moves.Move.TheVariants as move
use Rattle.ix_dir.specs.Calls.{moves_removed}
use Rattle.ix_dir.specs.Moves.{area_after}
use Rattle.ix_record.specs.declared.body.Body.{Body}
use Rattle.ix_unit.specs.declared.value.UnitValue.{UnitValue}
use Rattle.ix_cabinet.specs.declared.change.Settled.{Settled}
use Rattle.ix_cabinet.specs.declared.change.Settled.TheVariants.{Synced, Unsynced}
use Rattle.ix_model.specs.declared.publication.Publication.{Publication}
use Rattle.ix_model.specs.declared.publication.Publication.TheVariants as model
use Rattle.ix_model.specs.declared.publication.StoredUnit.{StoredUnit}
use Rattle.ix_model.specs.Units.{unit_named}
use Rattle.ix_machine.specs.declared.event.Outcome.{Outcome}
use Rattle.ix_machine.specs.declared.event.Outcome.TheVariants as outcome
use Rattle.ix_machine.specs.Given as given
use Rattle.ix_machine.specs.Needs.{visible, loose}
use Rattle.ix_machine.specs.State.{State, Lease, lease_of}
use Rattle.ix_machine.specs.Step.{Stepped, step, ended, flagged, change, sure, dropped, publishing, publish_over, publish_unit, remove_named, stored_unit, staged_by, name_with_output, collect_first, collected}
use Rattle.ix_stops.specs.Changes.{waiting, waiting_step}
use Rattle.ix_stops.specs.Shapes.{syncs, settled_moves, pending_after}
use Rattle.ix_stops.specs.Stands.{flag_of, outcome_of}
use Rattle.ix_changes.specs.Holds.{Waits, IsAlikeOnDisk}

-- ---- moves more

waiting_more : (told more : List Move) → waiting (told ++ more) ≡ fold waiting_step (waiting told) more
waiting_more told more = fold-append waiting_step 0 told more

waiting_synced : (told : List Move) (records units : Bool) → waiting (told ++ syncs records units) ≡ cond units 0 (waiting told)
waiting_synced told false false = waiting_more told (syncs false false)
waiting_synced told true false = waiting_more told (syncs true false)
waiting_synced told false true = waiting_more told (syncs false true)
waiting_synced told true true = waiting_more told (syncs true true)

at_most : (units : Bool) (n : ℕ) → cond units 0 n ≤ n
at_most true n = omega arith
at_most false n = omega arith

pub waiting_renamed : (told : List Move) (name bytes : List ℕ) (stamp : ℕ) → waiting (told ++ move.Renamed Records name bytes stamp ∷ []) ≡ waiting told
waiting_renamed told name bytes stamp = waiting_more told (move.Renamed Records name bytes stamp ∷ [])

record_gone : (there : Bool) (told : List Move) (name : List ℕ) → waiting (cond there (told ++ move.Removed Records name ∷ []) told) ≡ waiting told
record_gone true told name = waiting_more told (move.Removed Records name ∷ [])
record_gone false told name = refl

unit_gone : (there : Bool) (told : List Move) (name : List ℕ) → waiting told ≡ 0 → waiting (cond there (told ++ move.Removed Units name ∷ []) told) ≤ 1
unit_gone true told name none = let more : waiting (told ++ move.Removed Units name ∷ []) ≡ suc (waiting told) = waiting_more told (move.Removed Units name ∷ []) in omega (arith, more, none)
unit_gone false told name none = omega (arith, none)

grown_by_one : (publications : List Publication) (p : Publication) → length (publications ++ p ∷ []) ≡ suc (length publications)
grown_by_one [] p = refl
grown_by_one (q ∷ publications) p = ap suc (grown_by_one publications p)

-- ---- the state behind a change

record IsChanged (s : State) (how : Settled) (next : State) : Type 0 where
  pending : next.pending ≡ pending_after how (length s.publications)
  grown : length next.publications ≡ suc (length s.publications)

module _ (s : State) where
  of_change : (from : State) (p : Publication) (how : Settled) (stepped : Stepped) → from.publications ≡ s.publications → flagged (change from from p) (flag_of how) ≡ Some stepped → IsChanged s how stepped.state
  of_change from p Synced stepped same e =
      let is : ended outcome.Synced (publishing from p None) ≡ stepped = cc in
      subst (λ (x : Stepped). IsChanged s Synced x.state) is (record { pending = refl; grown = grown_by_one from.publications p ∙ ap (λ (ps : List Publication). suc (length ps)) same })
  of_change from p Unsynced stepped same e =
      let is : ended outcome.Unsynced (publishing from p (Some (length from.publications))) ≡ stepped = cc in
      subst (λ (x : Stepped). IsChanged s Unsynced x.state) is (record { pending = ap (λ (ps : List Publication). Some (length ps)) same; grown = grown_by_one from.publications p ∙ ap (λ (ps : List Publication). suc (length ps)) same })

  module _ (lane : ℕ) (name : List ℕ) (unit : UnitValue) where
    clashed : (how : Settled) (stepped : Stepped) → flagged (sure outcome.Clash (dropped s lane)) (flag_of how) ≡ Some stepped → stepped.outcome ≡ outcome_of how → IsChanged s how stepped.state
    clashed Synced stepped e ends =
        let same : ended outcome.Clash (dropped s lane) ≡ stepped = cc in
        let no : outcome.Clash ≡ outcome.Synced = ap (λ (y : Stepped). y.outcome) same ∙ ends in
        absurd (cc)
    clashed Unsynced stepped e ends = absurd (cc)

    by_path : (b : Bool) (how : Settled) (stepped : Stepped) → flagged (cond b (change (dropped s lane) (dropped s lane) (model.Put name (stored_unit s unit))) (sure outcome.Clash (dropped s lane))) (flag_of how) ≡ Some stepped → stepped.outcome ≡ outcome_of how
        → IsChanged s how stepped.state
    by_path true how stepped e ends = of_change (dropped s lane) (model.Put name (stored_unit s unit)) how stepped refl e
    by_path false how stepped e ends = clashed how stepped e ends

    by_other : (o : Option StoredUnit) (how : Settled) (stepped : Stepped) → flagged (publish_over s lane name unit o) (flag_of how) ≡ Some stepped → stepped.outcome ≡ outcome_of how → IsChanged s how stepped.state
    by_other None how stepped e ends = of_change (dropped s lane) (model.Put name (stored_unit s unit)) how stepped refl e
    by_other (Some other) how stepped e ends = by_path (bytes_eq other.unit.output unit.output) how stepped e ends

  published_changes : (name_of : List ℕ → List ℕ) (lane : ℕ) (lease : Lease) (unit : UnitValue) (how : Settled) (stepped : Stepped) → lease_of s lane ≡ Some lease → lease.staged ≡ Some unit
      → step name_of s lane given.Publish (flag_of how) ≡ Some stepped → stepped.outcome ≡ outcome_of how → IsChanged s how stepped.state
  published_changes name_of lane lease unit how stepped leased staged taken ends =
      let own = name_of unit.output in
      let by_lane : staged_by s lane ≡ Some unit = ap (option_and_then (λ l. l.staged)) leased ∙ staged in
      by_other lane own unit (unit_named own (visible s)) how stepped (sym (ap (λ o. option_and_then (λ r. flagged r (flag_of how)) (option_map (λ u. publish_unit s lane (name_of u.output) u) o)) by_lane) ∙ taken) ends

  removed_changes : (name_of : List ℕ → List ℕ) (lane : ℕ) (output name : List ℕ) (how : Settled) (stepped : Stepped) → name_with_output output (visible s) ≡ Some name
      → step name_of s lane (given.Remove output) (flag_of how) ≡ Some stepped → IsChanged s how stepped.state
  removed_changes name_of lane output name how stepped named taken =
      of_change s (model.Gone name) how stepped refl (sym (ap (λ o. flagged (remove_named s o) (flag_of how)) named) ∙ taken)

  record IsSettledAs (next : State) : Type 0 where
    publications : next.publications ≡ s.publications
    pending : next.pending ≡ None

  by_loose : (names : List (List ℕ)) → IsSettledAs (collect_first s names).state
  by_loose [] = record { publications = refl; pending = refl }
  by_loose (name ∷ names) = record { publications = refl; pending = refl }

  collect_settles : (name_of : List ℕ → List ℕ) (lane : ℕ) (stepped : Stepped) → step name_of s lane given.Collect outcome.Done ≡ Some stepped → IsSettledAs stepped.state
  collect_settles name_of lane stepped taken =
      let is : collected s ≡ stepped = cc in
      subst (λ (x : Stepped). IsSettledAs x.state) is (by_loose (loose s))

-- ---- what it says

pub none_pends : (s : State) (moves : List Move) → s.pending ≡ None → waiting moves ≡ 0 → Waits s moves
none_pends s moves pending none = record { none = λ _. none; one = omega (arith, none); last = λ mark some. let no : None ≡ Some mark = sym pending ∙ some in absurd (cc) }

by_number : {A : Type 0} (n : ℕ) → n ≤ 1 → A → (n ≡ 0) ⊎ ((n ≡ 1) × A)
by_number zero one a = inl refl
by_number (suc zero) one a = inr (refl, a)
by_number (suc (suc n)) one a = absurd (omega (arith, one))

-- ---- behind each step

module _ (s : State) (told : List Move) (waits : Waits s told) where
  -- a state with the same publications and pending change, where no more changes wait
  pub still_waits : (next : State) (now : List Move) → next.publications ≡ s.publications → next.pending ≡ s.pending → waiting now ≤ waiting told → Waits next now
  still_waits next now publications pending fewer = record {
    none = λ is. let no = waits.none (sym pending ∙ is) in omega (arith, fewer, no);
    one = let few = waits.one in omega (arith, fewer, few);
    last = λ mark is. waits.last mark (sym pending ∙ is) ∙ ap (λ (ps : List Publication). length ps) (sym publications);
  }

  pub synced_waits : (next : State) (records units : Bool) → IsAlikeOnDisk s next → Waits next (told ++ syncs records units)
  synced_waits next records units alike =
      let is = waiting_synced told records units in
      let fewer = at_most units (waiting told) in
      still_waits next (told ++ syncs records units) alike.publications alike.pending (omega (arith, is, fewer))

  -- behind the syncs of a change nothing waits
  settled_first : (pending : Option ℕ) → s.pending ≡ pending → cond (is_some pending) 0 (waiting told) ≡ 0
  settled_first None is = waits.none is
  settled_first (Some mark) is = refl

  nothing_first : (records units : Bool) → units ≡ is_some s.pending → waiting (told ++ syncs records units) ≡ 0
  nothing_first records units is = waiting_synced told records units ∙ ap (λ (b : Bool). cond b 0 (waiting told)) is ∙ settled_first s.pending refl

  changed_waits : (how : Settled) (next : State) (changed : List Move) → IsChanged s how next → waiting changed ≤ 1 → Waits next (settled_moves how changed)
  changed_waits Synced next changed is one =
      let none : waiting (changed ++ move.Synced Units ∷ []) ≡ 0 = waiting_more changed (move.Synced Units ∷ []) in
      record { none = λ _. none; one = omega (arith, none); last = λ mark some. let no : None ≡ Some mark = sym is.pending ∙ some in absurd (cc) }
  changed_waits Unsynced next changed is one = record {
    none = λ none. let no : Some (length s.publications) ≡ None = sym is.pending ∙ none in absurd (cc);
    one = one;
    last = λ mark some.
        let both : Some (length s.publications) ≡ Some mark = sym is.pending ∙ some in
        let same : length s.publications ≡ mark = cc in
        ap suc (sym same) ∙ sym is.grown;
  }

  pub publish_waits : (name_of : List ℕ → List ℕ) (lane : ℕ) (lease : Lease) (unit : UnitValue) (how : Settled) (stepped : Stepped) (records units : Bool) (name bytes : List ℕ) (stamp : ℕ) → lease_of s lane ≡ Some lease → lease.staged ≡ Some unit
      → step name_of s lane given.Publish (flag_of how) ≡ Some stepped → stepped.outcome ≡ outcome_of how → units ≡ is_some s.pending
      → Waits stepped.state (settled_moves how ((told ++ syncs records units) ++ move.Renamed Units name bytes stamp ∷ []))
  publish_waits name_of lane lease unit how stepped records units name bytes stamp leased staged taken ends is =
      let mid = told ++ syncs records units in
      let none = nothing_first records units is in
      let more : waiting (mid ++ move.Renamed Units name bytes stamp ∷ []) ≡ suc (waiting mid) = waiting_more mid (move.Renamed Units name bytes stamp ∷ []) in
      changed_waits how stepped.state (mid ++ move.Renamed Units name bytes stamp ∷ []) (published_changes s name_of lane lease unit how stepped leased staged taken ends) (omega (arith, more, none))

  pub remove_waits : (name_of : List ℕ → List ℕ) (lane : ℕ) (output name : List ℕ) (how : Settled) (stepped : Stepped) (units : Bool) → name_with_output output (visible s) ≡ Some name
      → step name_of s lane (given.Remove output) (flag_of how) ≡ Some stepped → units ≡ is_some s.pending → Waits stepped.state (settled_moves how (moves_removed Units name (told ++ syncs false units)))
  remove_waits name_of lane output name how stepped units named taken is =
      let mid = told ++ syncs false units in
      changed_waits how stepped.state (moves_removed Units name mid) (removed_changes s name_of lane output name how stepped named taken) (unit_gone (is_some (get (area_after mid Units) name)) mid name (nothing_first false units is))

  settled_waits : (next : State) (now : List Move) → IsSettledAs s next → waiting now ≡ 0 → Waits next now
  settled_waits next now is none = record { none = λ _. none; one = omega (arith, none); last = λ mark some. let no : None ≡ Some mark = sym is.pending ∙ some in absurd (cc) }

  pub collect_waits : (name_of : List ℕ → List ℕ) (lane : ℕ) (name : List ℕ) (stepped : Stepped) (units : Bool) → step name_of s lane given.Collect outcome.Done ≡ Some stepped → units ≡ is_some s.pending
      → Waits stepped.state (moves_removed Records name (told ++ syncs false units))
  collect_waits name_of lane name stepped units taken is =
      let mid = told ++ syncs false units in
      settled_waits stepped.state (moves_removed Records name mid) (collect_settles s name_of lane stepped taken) (record_gone (is_some (get (area_after mid Records) name)) mid name ∙ nothing_first false units is)

  -- none waits, or the last publication does
  by_pending : (pending : Option ℕ) → s.pending ≡ pending → (waiting told ≡ 0) ⊎ ((waiting told ≡ 1) × ((mark : ℕ) × (s.pending ≡ Some mark) × (suc mark ≡ length s.publications)))
  by_pending None is = inl (waits.none is)
  by_pending (Some mark) is = by_number (waiting told) waits.one (mark, is, waits.last mark is)

  pub waits_at_most : (waiting told ≡ 0) ⊎ ((waiting told ≡ 1) × ((mark : ℕ) × (s.pending ≡ Some mark) × (suc mark ≡ length s.publications)))
  waits_at_most = by_pending s.pending refl

  pub nothing_waits : (name_of : List ℕ → List ℕ) (lane : ℕ) (stepped : Stepped) (units : Bool) → step name_of s lane given.Collect outcome.Done ≡ Some stepped → units ≡ is_some s.pending
      → Waits stepped.state (told ++ syncs false units)
  nothing_waits name_of lane stepped units taken is = settled_waits stepped.state (told ++ syncs false units) (collect_settles s name_of lane stepped taken) (nothing_first false units is)
