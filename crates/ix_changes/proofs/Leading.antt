-- The moves of each change, and the state that the directory holds behind them.
use Rattle.std.proofs.Common.{◌≡◌, ◌≢◌, ◌⊎◌, inl, inr, ℕ, Bool, true, false, cond, List, [], ◌∷◌, ◌++◌, refl, sym, ap, subst, ◌∙◌, Option, Some, None, is_some, IsSome, IfSome, IfOk, OnOk, OnErr, Result, Ok, Err, is_err, append_assoc, nat_eq, arith}
use Rattle.std.specs.Cmp.Lexicographic.{pointwise}
use Rattle.std.specs.Map.{lookup}
use Rattle.std.specs.BTreeMap.{is_at, insert_entry}
use Rattle.std.specs.Str.{bytes_eq}
use Rattle.ix_types.specs.Row.{text_cmp}
use Rattle.ix_dir.specs.declared.area.Area.{Area}
use Rattle.ix_dir.specs.declared.area.Area.TheVariants.{Units, Records}
use Rattle.ix_dir.specs.declared.moves.Move.{Move}
use Rattle.ix_dir.specs.declared.moves.Move.TheVariants as move
use Rattle.ix_dir.specs.Calls.{with_move, Renames, removed, moves_removed}
use Rattle.ix_dir.specs.Crash.{IsSettledIn}
use Rattle.ix_dir.specs.Images.{Value}
use Rattle.ix_dir.specs.State.{with_slot}
use Rattle.ix_dir.specs.WhatAChangeLeaves.{IfTold}
use Rattle.ix_record.specs.declared.body.Body.{Body}
use Rattle.ix_unit.specs.declared.value.UnitValue.{UnitValue}
use Rattle.ix_unit.specs.Spelling.{UnitSpelling}
use Rattle.ix_shelf.specs.declared.fault.PutError.{PutError}
use Rattle.ix_shelf.specs.declared.fault.PutError.TheVariants as failure
use Rattle.ix_shelf.specs.declared.shelf.Put.{Put}
use Rattle.ix_shelf.specs.declared.shelf.Put.TheVariants as answers
use Rattle.ix_shelf.specs.Answers.{put_answer, Answers, record_at}
use Rattle.ix_shelf.specs.Shelf.{OnShelf, Knows}
use Rattle.ix_cabinet.specs.declared.change.Settled.{Settled}
use Rattle.ix_cabinet.specs.declared.change.Settled.TheVariants.{Synced, Unsynced}
use Rattle.ix_cabinet.specs.Changes.{Publishes, settled_by}
use Rattle.ix_machine.specs.declared.event.Outcome.{Outcome}
use Rattle.ix_machine.specs.declared.event.Outcome.TheVariants as outcome
use Rattle.ix_machine.specs.Given as given
use Rattle.ix_machine.specs.Needs.{is_guarded, visible}
use Rattle.ix_machine.specs.Sound.{IsSound}
use Rattle.ix_machine.specs.State.{State, Lease, lease_of}
use Rattle.ix_machine.specs.Step.{Stepped, step, ended, flagged, put_over, write, may_fault, noted, dropped, name_with_output}
use Rattle.ix_stops.specs.Prefixes.{LeavesPrefixes}
use Rattle.ix_stops.specs.Shapes.{syncs, settled_moves}
use Rattle.ix_stops.specs.Stands.{StandsOnDisk, flag_of, outcome_of}
use Rattle.ix_changes.specs.Given.{Laws}
use Rattle.ix_changes.specs.Holds.{Holds, Leads, Waits, IsAlikeOnDisk}
use Rattle.ix_changes.specs.Syncs.{with_sync, with_syncs, IsStoppedIn}
use Rattle.ix_changes.proofs.Waiting.{waiting_renamed, still_waits, synced_waits, publish_waits, remove_waits, collect_waits, nothing_waits}

append_nothing : {A : Type 0} (xs : List A) → xs ++ [] ≡ xs
append_nothing [] = refl
append_nothing (x ∷ xs) = ap (λ rest. x ∷ rest) (append_nothing xs)

two_more : (moves : List Move) (m n : Move) → (moves ++ m ∷ []) ++ n ∷ [] ≡ moves ++ m ∷ n ∷ []
two_more moves m n = append_assoc moves (m ∷ []) (n ∷ [])

-- ---- where the moves are told

told_syncs : (records units : Bool) (moves : List Move) → with_syncs records units (Some moves) ≡ Some (moves ++ syncs records units)
told_syncs false false moves = ap Some (sym (append_nothing moves))
told_syncs true false moves = refl
told_syncs false true moves = refl
told_syncs true true moves = ap Some (two_more moves (move.Synced Records) (move.Synced Units))

told_settled : (settled : Settled) (moves : List Move) → settled_by settled (Some moves) ≡ Some (settled_moves settled moves)
told_settled Synced moves = refl
told_settled Unsynced moves = refl

-- what a publication makes of told moves
record IsPublished (settled : Settled) (name bytes : List ℕ) (mid : List Move) (now : Option (List Move)) : Type 0 where
  stamp : ℕ
  is : now ≡ Some (settled_moves settled (mid ++ move.Renamed Units name bytes stamp ∷ []))

published : (settled : Settled) (name bytes : List ℕ) (mid : List Move) (now : Option (List Move)) → Publishes settled name bytes (Some mid) now → IsPublished settled name bytes mid now
published settled name bytes mid now p = record {
  stamp = p.renamed.stamp;
  is = p.synced ∙ ap (settled_by settled) p.renamed.move ∙ told_settled settled (mid ++ move.Renamed Units name bytes p.renamed.stamp ∷ []);
}

module _ (laws : Laws) where
  -- ---- what is settled

  still_settled : (settled : Settled) (moves : List Move) → IsSettledIn Records moves → IsSettledIn Records (settled_moves settled moves)
  still_settled Synced moves h = laws.settled_synced moves Units Records refl h
  still_settled Unsynced moves h = h

  module _ (name_of : List ℕ → List ℕ) (s : State) (shelf : OnShelf) (before : Option (List Move)) (holds : Holds name_of s shelf before) where
    abbrev told : List Move
    told = holds.told

    -- ---- a state that the directory holds now

    leads : (next : State) (shelf_now : OnShelf) (now : Option (List Move)) (moves : List Move) → now ≡ Some moves → StandsOnDisk name_of next moves × LeavesPrefixes name_of s.publications next.publications told moves
        → Knows shelf_now (Some moves) → (Waits s told → Waits next moves) → Leads name_of s next before now shelf_now
    leads next shelf_now now moves is made knows waits = record {
      holds = record { told = moves; is = is; stands = made.0; knows = subst (Knows shelf_now) (sym is) knows };
      leaves = subst (λ b. IfTold b now (LeavesPrefixes name_of s.publications next.publications)) (sym holds.is)
          (subst (λ n. IfTold (Some told) n (LeavesPrefixes name_of s.publications next.publications)) (sym is) made.1);
      waits = subst (λ b. IfSome b (Waits s) → IfSome now (Waits next)) (sym holds.is) (subst (λ n. Waits s told → IfSome n (Waits next)) (sym is) waits);
    }

    knows_told : shelf.unsynced ≡ false → IsSettledIn Records told
    knows_told = subst (Knows shelf) holds.is holds.knows

    syncs_are : (records units : Bool) → with_syncs records units before ≡ Some (told ++ syncs records units)
    syncs_are records units = ap (with_syncs records units) holds.is ∙ told_syncs records units told

    -- ---- no change

    pub synced_leads : (next : State) (shelf_now : OnShelf) (now : Option (List Move)) (records units : Bool) → IsAlikeOnDisk s next → now ≡ with_syncs records units before
        → (shelf_now.unsynced ≡ false → (records ≡ false → shelf.unsynced ≡ false)) → Leads name_of s next before now shelf_now
    synced_leads next shelf_now now records units alike is known =
        leads next shelf_now now (told ++ syncs records units) (is ∙ syncs_are records units)
        (laws.others name_of s next told records units holds.stands alike.publications alike.pending alike.records)
        (λ none. laws.records_settled told records units (λ not_made. knows_told (known none not_made)))
        (λ waits. synced_waits s told waits next records units alike)

    pub unmoved_leads : (next : State) → IsAlikeOnDisk s next → Leads name_of s next before before shelf
    unmoved_leads next alike = synced_leads next shelf before false false alike refl (λ none _. none)

    -- ---- put

    module _ (lane : ℕ) (body : Body) where
      abbrev PutSteps : Result Put PutError → Option Stepped → Type 0
      PutSteps (Ok answers.Written) r = r ≡ Some (ended outcome.Written (noted (record s { records = insert_entry text_cmp s.records body.name body.bytes }) lane body.name))
      PutSteps (Ok answers.Shared) r = r ≡ Some (ended outcome.Shared (noted s lane body.name))
      PutSteps (Err (failure.Clash name)) r = r ≡ Some (ended outcome.Clash (dropped s lane))
      PutSteps (Err failure.Fault) r = Unit {0}
      PutSteps (Err failure.Memory) r = Unit {0}

      by_bytes : (same guarded : Bool) → PutSteps (cond same (Ok answers.Shared) (cond guarded (Err (failure.Clash body.name)) (Ok answers.Written)))
          (flagged (cond same (may_fault outcome.Shared (noted s lane body.name) (dropped s lane)) (cond guarded (may_fault outcome.Clash (dropped s lane) (dropped s lane)) (write s lane body))) outcome.Done)
      by_bytes true guarded = refl
      by_bytes false true = refl
      by_bytes false false = refl

      by_file : (there : Value) → PutSteps (put_answer (is_guarded s lane body.name) body there) (flagged (put_over s lane body there) outcome.Done)
      by_file None = refl
      by_file (Some bytes) = by_bytes (bytes_eq bytes body.bytes) (is_guarded s lane body.name)

      -- what the shelf answers is what the machine does
      put_step : (protected : Bool) (result : Result Put PutError) → protected ≡ is_guarded s lane body.name → result ≡ put_answer protected body (record_at told body.name) → PutSteps result (step name_of s lane (given.Put body) outcome.Done)
      put_step protected result guarded is =
          subst (λ r. PutSteps r (step name_of s lane (given.Put body) outcome.Done))
          (sym (is ∙ ap (λ b. put_answer b body (record_at told body.name)) guarded ∙ ap (put_answer (is_guarded s lane body.name) body) (sym (holds.stands.records body.name))))
          (by_file (lookup (is_at (text_cmp body.name)) s.records))

      abbrev Ends : Outcome → Option (List Move) → OnShelf → Type 0
      Ends how now shelf_now = (next : State) × (step name_of s lane (given.Put body) outcome.Done ≡ Some (ended how next)) × Leads name_of s next before now shelf_now

      told_answer : (protected : Bool) (result : Result Put PutError) → IfSome before (λ m. Answers result (put_answer protected body (record_at m body.name))) → Answers result (put_answer protected body (record_at told body.name))
      told_answer protected result answer = subst (λ b. IfSome b (λ m. Answers result (put_answer protected body (record_at m body.name)))) holds.is answer

      pub written_leads : (protected : Bool) (result : Result Put PutError) (shelf_now : OnShelf) (now : Option (List Move)) → IsSound name_of s → protected ≡ is_guarded s lane body.name → result ≡ Ok answers.Written
          → IfSome before (λ m. Answers result (put_answer protected body (record_at m body.name))) → Renames before now Records body.name body.bytes → shelf_now.unsynced ≡ true → Ends outcome.Written now shelf_now
      written_leads protected result shelf_now now sound guarded ended_so answer renames unsynced =
          let next = noted (record s { records = insert_entry text_cmp s.records body.name body.bytes }) lane body.name in
          let taken = put_step protected (Ok answers.Written) guarded (subst (λ r. Answers r (put_answer protected body (record_at told body.name))) ended_so (told_answer protected result answer)) in
          let moves = told ++ move.Renamed Records body.name body.bytes renames.stamp ∷ [] in
          let is : now ≡ Some moves = renames.move ∙ ap (λ b. with_move b (move.Renamed Records body.name body.bytes renames.stamp)) holds.is in (
            next,
            taken,
            leads next shelf_now now moves is (laws.put name_of s told lane body (ended outcome.Written next) renames.stamp holds.stands sound taken refl)
                (λ none. let no : true ≡ false = sym unsynced ∙ none in absurd (cc))
                (λ waits. still_waits s told waits next moves refl refl (let same = waiting_renamed told body.name body.bytes renames.stamp in omega (arith, same))),
          )

      pub shared_leads : (protected : Bool) (result : Result Put PutError) (shelf_now : OnShelf) (now : Option (List Move)) → protected ≡ is_guarded s lane body.name → result ≡ Ok answers.Shared
          → IfSome before (λ m. Answers result (put_answer protected body (record_at m body.name))) → now ≡ before → shelf_now ≡ shelf → Ends outcome.Shared now shelf_now
      shared_leads protected result shelf_now now guarded ended_so answer same kept =
          let next = noted s lane body.name in (
            next,
            put_step protected (Ok answers.Shared) guarded (subst (λ r. Answers r (put_answer protected body (record_at told body.name))) ended_so (told_answer protected result answer)),
            subst (Leads name_of s next before now) (sym kept) (subst (λ n. Leads name_of s next before n shelf) (sym same) (unmoved_leads next (record { publications = refl; pending = refl; records = refl }))),
          )

      pub clashed_leads : (protected : Bool) (result : Result Put PutError) (name : List ℕ) (shelf_now : OnShelf) (now : Option (List Move)) → protected ≡ is_guarded s lane body.name → result ≡ Err (failure.Clash name)
          → IfSome before (λ m. Answers result (put_answer protected body (record_at m body.name))) → now ≡ before → shelf_now ≡ shelf → Ends outcome.Clash now shelf_now
      clashed_leads protected result name shelf_now now guarded ended_so answer same kept =
          let next = dropped s lane in (
            next,
            put_step protected (Err (failure.Clash name)) guarded (subst (λ r. Answers r (put_answer protected body (record_at told body.name))) ended_so (told_answer protected result answer)),
            subst (Leads name_of s next before now) (sym kept) (subst (λ n. Leads name_of s next before n shelf) (sym same) (unmoved_leads next (record { publications = refl; pending = refl; records = refl }))),
          )

    -- ---- publish

    pub publish_leads : (lane : ℕ) (lease : Lease) (unit : UnitValue) (settled : Settled) (stepped : Stepped) (name bytes : List ℕ) (pending : Bool) (shelf_now : OnShelf) (now : Option (List Move))
        → IsSound name_of s → lease_of s lane ≡ Some lease → lease.staged ≡ Some unit → name ≡ name_of unit.output → UnitSpelling bytes unit → pending ≡ is_some s.pending
        → step name_of s lane given.Publish (flag_of settled) ≡ Some stepped → stepped.outcome ≡ outcome_of settled
        → Publishes settled name bytes (with_syncs shelf.unsynced pending before) now → Leads name_of s stepped.state before now shelf_now
    publish_leads lane lease unit settled stepped name bytes pending shelf_now now sound leased staged named spelled waits taken ends publishes =
        let mid = told ++ syncs shelf.unsynced pending in
        let p = published settled name bytes mid now (subst (λ b. Publishes settled name bytes b now) (syncs_are shelf.unsynced pending) publishes) in
        let changed = mid ++ move.Renamed Units name bytes p.stamp ∷ [] in
        let as_law : settled_moves settled changed ≡ settled_moves settled ((told ++ syncs shelf.unsynced (is_some s.pending)) ++ move.Renamed Units (name_of unit.output) bytes p.stamp ∷ []) =
        ap (λ b. settled_moves settled ((told ++ syncs shelf.unsynced b) ++ move.Renamed Units name bytes p.stamp ∷ [])) waits
        ∙ ap (λ n. settled_moves settled ((told ++ syncs shelf.unsynced (is_some s.pending)) ++ move.Renamed Units n bytes p.stamp ∷ [])) named in
        leads stepped.state shelf_now now (settled_moves settled changed) p.is
        (laws.publish name_of s told lane lease unit settled stepped shelf.unsynced bytes p.stamp (settled_moves settled changed) holds.stands sound leased staged taken ends knows_told spelled as_law)
        (λ _. still_settled settled changed (laws.settled_renamed mid Units name bytes p.stamp Records refl (laws.records_settled told shelf.unsynced pending knows_told)))
        (λ one. publish_waits s told one name_of lane lease unit settled stepped shelf.unsynced pending name bytes p.stamp leased staged taken ends waits)

    -- ---- removal

    told_removed : (pending : Bool) (area : Area) (name : List ℕ) → removed (with_sync pending Units before) area name ≡ Some (moves_removed area name (told ++ syncs false pending))
    told_removed pending area name = ap (λ b. removed b area name) (syncs_are false pending)

    pub remove_leads : (lane : ℕ) (output name : List ℕ) (settled : Settled) (stepped : Stepped) (pending : Bool) (now : Option (List Move)) → name_with_output output (visible s) ≡ Some name → pending ≡ is_some s.pending
        → step name_of s lane (given.Remove output) (flag_of settled) ≡ Some stepped → now ≡ settled_by settled (removed (with_sync pending Units before) Units name) → Leads name_of s stepped.state before now shelf
    remove_leads lane output name settled stepped pending now named waits taken made =
        let mid = told ++ syncs false pending in
        let changed = moves_removed Units name mid in
        let is : now ≡ Some (settled_moves settled changed) = made ∙ ap (settled_by settled) (told_removed pending Units name) ∙ told_settled settled changed in
        leads stepped.state shelf now (settled_moves settled changed) is
        (laws.remove name_of s told lane output name settled stepped (settled_moves settled changed) holds.stands taken named (ap (λ b. settled_moves settled (moves_removed Units name (told ++ syncs false b))) waits))
        (λ none. still_settled settled changed (laws.settled_removed mid Units name Records refl (laws.records_settled told false pending (λ _. knows_told none))))
        (λ one. remove_waits s told one name_of lane output name settled stepped pending named taken waits)

    -- ---- collect

    pub collect_leads : (lane : ℕ) (name : List ℕ) (stepped : Stepped) (pending : Bool) (shelf_now : OnShelf) (now : Option (List Move)) → IsSound name_of s → pending ≡ is_some s.pending
        → step name_of s lane given.Collect outcome.Done ≡ Some stepped → stepped.outcome ≡ outcome.Removed name → now ≡ removed (with_sync pending Units before) Records name → shelf_now.unsynced ≡ true → Leads name_of s stepped.state before now shelf_now
    collect_leads lane name stepped pending shelf_now now sound waits taken ends made unsynced =
        let mid = told ++ syncs false pending in
        let is : now ≡ Some (moves_removed Records name mid) = made ∙ told_removed pending Records name in
        leads stepped.state shelf_now now (moves_removed Records name mid) is
        (subst (λ b. StandsOnDisk name_of stepped.state (moves_removed Records name (told ++ syncs false b)) × LeavesPrefixes name_of s.publications stepped.state.publications told (moves_removed Records name (told ++ syncs false b))) (sym waits)
        (laws.collect name_of s told lane stepped name holds.stands sound taken ends))
        (λ none. let no : true ≡ false = sym unsynced ∙ none in absurd (cc))
        (λ one. collect_waits s told one name_of lane name stepped pending taken waits)

    pub none_leads : (lane : ℕ) (stepped : Stepped) (pending : Bool) (now : Option (List Move)) → IsSound name_of s → pending ≡ is_some s.pending
        → step name_of s lane given.Collect outcome.Done ≡ Some stepped → stepped.outcome ≡ outcome.Nothing → now ≡ with_sync pending Units before → Leads name_of s stepped.state before now shelf
    none_leads lane stepped pending now sound waits taken ends made =
        let mid = told ++ syncs false pending in
        leads stepped.state shelf now mid (made ∙ syncs_are false pending)
        (subst (λ b. StandsOnDisk name_of stepped.state (told ++ syncs false b) × LeavesPrefixes name_of s.publications stepped.state.publications told (told ++ syncs false b)) (sym waits)
        (laws.collect_none name_of s told lane stepped holds.stands sound taken ends))
        (λ none. laws.records_settled told false pending (λ _. knows_told none))
        (λ one. nothing_waits s told one name_of lane stepped pending taken waits)

    -- ---- failures

    pub publish_stopped : (next : State) (shelf_now : OnShelf) (now : Option (List Move)) (pending : Bool) → IsAlikeOnDisk s next → IsStoppedIn pending shelf shelf_now before now → Leads name_of s next before now shelf_now
    publish_stopped next shelf_now now pending alike (inl same) = subst (Leads name_of s next before now) (sym same.1) (subst (λ n. Leads name_of s next before n shelf) (sym same.0) (unmoved_leads next alike))
    publish_stopped next shelf_now now pending alike (inr (inl is)) = synced_leads next shelf_now now shelf.unsynced false alike is (λ _ none. none)
    publish_stopped next shelf_now now pending alike (inr (inr is)) = synced_leads next shelf_now now shelf.unsynced pending alike is (λ _ none. none)

    pub change_stopped : (next : State) (now : Option (List Move)) (pending : Bool) → IsAlikeOnDisk s next → (now ≡ before) ⊎ (now ≡ with_sync pending Units before) → Leads name_of s next before now shelf
    change_stopped next now pending alike (inl same) = subst (λ n. Leads name_of s next before n shelf) (sym same) (unmoved_leads next alike)
    change_stopped next now pending alike (inr is) = synced_leads next shelf now false pending alike is (λ none _. none)

-- ---- what an answer says

pub at_ok : {T E : Type 0} (P : T → Type 0) (r : Result T E) (x : T) → r ≡ Ok x → IfOk r P → P x
at_ok P (Ok y) x is h = let same : y ≡ x = cc in subst P same h
at_ok P (Err e) x is h = absurd (cc)

pub at_err : {T E : Type 0} (P : Type 0) (r : Result T E) → is_err r ≡ true → OnErr r P → P
at_err P (Ok x) is h = absurd (cc)
at_err P (Err e) is h = h

pub at_done : {T E : Type 0} (P : Type 0) (r : Result T E) → is_err r ≡ false → OnOk r P → P
at_done P (Ok x) is h = h
at_done P (Err e) is h = absurd (cc)

pub at_some : {T : Type 0} (o : Option T) (x : T) → o ≡ Some x → IsSome o
at_some o x is = ap is_some is

-- what holds with each answer of a put
pub each_answer : (A : Type 0) (r : Result Put PutError) → (r ≡ Ok answers.Written → A) → (r ≡ Ok answers.Shared → A) → ((name : List ℕ) → r ≡ Err (failure.Clash name) → A) → (r ≡ Err failure.Fault → A) → (r ≡ Err failure.Memory → A) → A
each_answer A (Ok answers.Written) written shared clashed failed wanting = written refl
each_answer A (Ok answers.Shared) written shared clashed failed wanting = shared refl
each_answer A (Err (failure.Clash name)) written shared clashed failed wanting = clashed name refl
each_answer A (Err failure.Fault) written shared clashed failed wanting = failed refl
each_answer A (Err failure.Memory) written shared clashed failed wanting = wanting refl

-- of the other slots
abbrev pub Slots : Type 0
Slots = ℕ → Option (List ℕ)

pub other_slot : (before after : Slots) (slot other : ℕ) (bytes : Option (List ℕ)) → nat_eq slot other ≡ false → after ≡ with_slot before slot bytes → after other ≡ before other
other_slot before after slot other bytes apart is = ap (λ (f : Slots). f other) is ∙ ap (λ (b : Bool). cond b bytes (before other)) apart

pub same_slot : (before after : Slots) (other : ℕ) → after ≡ before → after other ≡ before other
same_slot before after other is = ap (λ (f : Slots). f other) is
