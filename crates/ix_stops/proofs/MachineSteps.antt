-- Steps of the machine and the moves that they make: what stands on disk after them.
use Rattle.std.proofs.Common.{◌≡◌, ◌≢◌, ℕ, Bool, true, false, cond, ◌||◌, List, [], ◌∷◌, ◌++◌, length, refl, sym, ap, subst, ◌∙◌, Option, Some, None, is_some, IfSome, option_map, option_and_then}
use Rattle.std.specs.List.{AllByRecursion, list_any, find}
use Rattle.std.specs.Map.{lookup}
use Rattle.std.specs.BTreeMap.{is_at}
use Rattle.std.specs.Str.{bytes_eq}
use Rattle.std.specs.Cmp.Lexicographic.{same_text}
use Rattle.std.specs.FinMap.{entries, get-entries}
use Rattle.std.proofs.lemmas.List.{append_cancel_left}
use Rattle.std.proofs.lemmas.Slice.Eq.{bytes_eq-Decides}
use Rattle.std.proofs.lemmas.Cmp.{nat_list_eq_equiv}
use Rattle.ix_types.specs.Row.{text_cmp}
use Rattle.ix_dir.specs.declared.area.Area.TheVariants.{Units, Records}
use Rattle.ix_dir.specs.declared.moves.Move.{Move}
use Rattle.ix_dir.specs.declared.moves.Move.TheVariants as move
use Rattle.ix_dir.specs.Calls.{moves_removed}
use Rattle.ix_dir.specs.Crash.{IsSettledIn, standing}
use Rattle.ix_dir.specs.Files.{bytes_at}
use Rattle.ix_dir.specs.Images.{Value}
use Rattle.ix_dir.specs.Moves.{area_after, same_name}
use Rattle.ix_dir.specs.WhatAChangeLeaves.{LeavesAt}
use Rattle.ix_record.specs.declared.body.Body.{Body}
use Rattle.ix_unit.specs.declared.value.RecordDep.{RecordDep}
use Rattle.ix_unit.specs.declared.value.UnitValue.{UnitValue}
use Rattle.ix_unit.specs.Spelling.{UnitSpelling}
use Rattle.ix_record.specs.declared.value.RecordValue.{RecordValue}
use Rattle.ix_cabinet.specs.declared.change.Settled.{Settled}
use Rattle.ix_cabinet.specs.declared.change.Settled.TheVariants as settlements
use Rattle.ix_model.specs.declared.publication.Publication.{Publication}
use Rattle.ix_model.specs.declared.publication.Publication.TheVariants as model
use Rattle.ix_model.specs.declared.publication.StoredUnit.{StoredUnit}
use Rattle.ix_model.specs.Units as units
use Rattle.ix_model.specs.Units.{units_at, units_after, unit_named}
use Rattle.ix_machine.specs.declared.event.Outcome.{Outcome}
use Rattle.ix_machine.specs.declared.event.Outcome.TheVariants.{Done, Written, Shared, Clash, Synced, Unsynced, Removed, Nothing}
use Rattle.ix_machine.specs.Given as given
use Rattle.ix_machine.specs.Laws.{RemovesLeast}
use Rattle.ix_machine.specs.Needs.{units_need, visible, is_needed, is_guarded, is_leased, other_leases, was_put, option_any, settled, seen_at}
use Rattle.ix_machine.specs.Sound.{IsSound, ValuesStand, RecordsStand}
use Rattle.ix_machine.specs.State.{Files, State, Lease, lease_of}
use Rattle.ix_machine.specs.Step.{Stepped, step, flagged, put_over, write, may_fault, sure, noted, change, publish_over, publish_unit, staged_by, dropped, publishing, stored_unit, name_with_output, remove_named, ended}
use Rattle.ix_stops.specs.Given.{Laws, StepLaws}
use Rattle.ix_stops.specs.OnDisk.{OnePends, IsOnDisk}
use Rattle.ix_stops.specs.Prefixes.{LeavesPrefixes}
use Rattle.ix_stops.specs.Shapes.{syncs, settled_moves, pending_after}
use Rattle.ix_stops.specs.Stands.{FilesStand, StandsOnDisk, flag_of, outcome_of}
use Rattle.ix_stops.proofs.ByName.{lookup_is_find, IsIn, all_in, rising_sorted}
use Rattle.ix_stops.proofs.Calls.{settled_disk}
use Rattle.ix_stops.proofs.FoundWhole.{Stays, values_on, has}
use Rattle.ix_stops.proofs.Shapes.{syncs_areas, settled_units, syncs_disk, syncs_leave, put_disk, put_leaves, collect_disk, collect_leaves, unit_put, unit_gone}

-- ---- what a needed record is

or_false : (a b : Bool) → (a || b) ≡ false → (a ≡ false) × (b ≡ false)
or_false true b h = absurd (cc)
or_false false b h = (refl, h)

module _ (name_of : List ℕ → List ℕ) (records : Files) (name : List ℕ) (none : lookup (is_at (text_cmp name)) records ≡ None) where
  no_value : (deps : List RecordDep) (values : List RecordValue) → ValuesStand name_of records deps values → list_any (has name) deps ≡ false
  no_value [] values h = refl
  no_value (dep ∷ deps) [] h = absurd h
  no_value (dep ∷ deps) (value ∷ values) h =
      (elim (has name dep) as (λ b. has name dep ≡ b → (b || list_any (has name) deps) ≡ false) [
        | true ↦ λ is.
            let same : dep.name ≡ name = (bytes_eq-Decides dep.name name).0 is in
            let no : None ≡ Some h.0.bytes = sym none ∙ ap (λ n. lookup (is_at (text_cmp n)) records) (sym same) ∙ h.0.stands in
            absurd (cc)
        | false ↦ λ is. no_value deps values h.1
      ]) refl

  -- what units need is there
  not_there : (us : units.Units) → RecordsStand name_of records us → units_need name us ≡ false
  not_there [] h = refl
  not_there (u ∷ us) h = ap (λ b. b || units_need name us) (no_value u.1.unit.records u.1.values h.0) ∙ not_there us h.1

module _ (s : State) (name : List ℕ) where
  abbrev by_pending : Bool
  by_pending = option_any (λ mark. units_need name (units_at s.publications mark)) s.pending

  abbrev by_import : Bool
  by_import = option_any (λ open_import. units_need name (seen_at s open_import.mark)) s.import

  abbrev by_current : Bool
  by_current = units_need name (seen_at s s.current)

  abbrev by_held : Bool
  by_held = list_any (option_any (λ mark. units_need name (seen_at s mark))) s.held

  -- what nothing needs, neither the visible units nor those before a pending change do
  free_parts : is_needed s name ≡ false → (units_need name (visible s) ≡ false) × (by_pending ≡ false)
  unfolding is_needed
  free_parts h =
      let first = or_false (units_need name (visible s) || by_pending || by_import || by_current) by_held h in
      let second = or_false (units_need name (visible s) || by_pending || by_import) by_current first.0 in
      let third = or_false (units_need name (visible s) || by_pending) by_import second.0 in
      or_false (units_need name (visible s)) by_pending third.0

  at_mark : (pending : Option ℕ) (mark : ℕ) → option_any (λ (m : ℕ). units_need name (units_at s.publications m)) pending ≡ false → pending ≡ Some mark → units_need name (units_at s.publications mark) ≡ false
  at_mark None mark free is = absurd (cc)
  at_mark (Some m) mark free is = let same : m ≡ mark = cc in subst (λ n. units_need name (units_at s.publications n) ≡ false) same free

-- ---- a state with the same publications

module _ (name_of : List ℕ → List ℕ) (s next : State) (publications : next.publications ≡ s.publications) (pending : next.pending ≡ s.pending) where
  carried : (moves : List Move) → IsOnDisk name_of s.pending s.publications moves → IsOnDisk name_of next.pending next.publications moves
  carried moves disk = subst (λ p. IsOnDisk name_of p next.publications moves) (sym pending) (subst (λ ps. IsOnDisk name_of s.pending ps moves) (sym publications) disk)

  carried_leaves : (before now : List Move) → LeavesPrefixes name_of s.publications s.publications before now → LeavesPrefixes name_of s.publications next.publications before now
  carried_leaves before now leaves = subst (λ ps. LeavesPrefixes name_of s.publications ps before now) (sym publications) leaves

-- a look-up of a name that has this value, and of another
by_name : (P : List ℕ → Type 0) (name q : List ℕ) → P name → (name ≢ q → (same_name name q ≡ false) → P q) → P q
by_name P name q here other =
    (elim (same_name name q) as (λ b. b ≡ same_name name q → P q) [
      | true ↦ λ is. subst P (same_text name q is) here
      | false ↦ λ is. other (λ same. let no : true ≡ false = sym (nat_list_eq_equiv.refl q) ∙ ap (λ x. same_name x q) (sym same) ∙ sym is in absurd (cc)) (sym is)
    ]) refl

module _ (laws : Laws) (steps : StepLaws) (name_of : List ℕ → List ℕ) (s : State) (moves : List Move) (stands : StandsOnDisk name_of s moves) where
  abbrev Made : State → List Move → Type 0
  Made next now = StandsOnDisk name_of next now × LeavesPrefixes name_of s.publications next.publications moves now

  -- nothing waits where no change pends
  settled_where : (pending : Option ℕ) → OnePends name_of pending s.publications moves → is_some pending ≡ false → IsSettledIn Units moves
  settled_where None pends none = pends
  settled_where (Some mark) pends none = absurd (cc)

  units_settled : is_some s.pending ≡ false → IsSettledIn Units moves
  units_settled = settled_where s.pending stands.disk.one_pending

  -- ---- syncs alone

  pub nothing_changed : (next : State) (r u : Bool) → next.publications ≡ s.publications → next.pending ≡ s.pending → next.records ≡ s.records → Made next (moves ++ syncs r u)
  nothing_changed next r u publications pending records = (
    record {
      records = λ name. ap (λ (files : Files). lookup (is_at (text_cmp name)) files) records ∙ stands.records name ∙ ap (λ files. bytes_at files name) (sym (syncs_areas laws moves r u Records));
      disk = carried name_of s next publications pending (moves ++ syncs r u) (syncs_disk laws moves name_of s.publications s.pending stands.disk r u);
    },
    carried_leaves name_of s next publications pending moves (moves ++ syncs r u) (syncs_leave laws moves name_of s.publications s.pending stands.disk r u),
  )

  -- ---- put

  module _ (sound : IsSound name_of s) (lane : ℕ) (body : Body) (stepped : Stepped) (taken : step name_of s lane (given.Put body) Done ≡ Some stepped) (written : stepped.outcome ≡ Written) where
    abbrev Free : Type 0
    Free = (units_need body.name (visible s) ≡ false) × ((mark : ℕ) → s.pending ≡ Some mark → units_need body.name (units_at s.publications mark) ≡ false)

    not_written : {X : Type 0} (outcome : Outcome) (next : State) → Some (ended outcome next) ≡ Some stepped → outcome ≢ Written → X
    not_written outcome next is other =
        let same : ended outcome next ≡ stepped = cc in
        absurd (other (ap (λ (x : Stepped). x.outcome) same ∙ written))

    if_none : lookup (is_at (text_cmp body.name)) s.records ≡ None → Free
    if_none none = (
      not_there name_of s.records body.name none (visible s) sound.needed.visible_ones,
      λ mark is. not_there name_of s.records body.name none (units_at s.publications mark) (subst (λ p. IfSome p (λ m. RecordsStand name_of s.records (units_at s.publications m))) is sound.needed.pending),
    )

    if_free : is_guarded s lane body.name ≡ false → Free
    if_free free =
        let first = or_false (is_needed s body.name || is_leased body.name (other_leases s lane)) (was_put s lane body.name) free in
        let second = or_false (is_needed s body.name) (is_leased body.name (other_leases s lane)) first.0 in
        let parts = free_parts s body.name second.0 in
        (parts.0, λ mark is. at_mark s body.name s.pending mark parts.1 is)

    by_guard : (b : Bool) → is_guarded s lane body.name ≡ b → flagged (cond b (may_fault Clash (dropped s lane) (dropped s lane)) (write s lane body)) Done ≡ Some stepped → Free
    by_guard true is e = not_written Clash (dropped s lane) e (λ same. absurd (cc))
    by_guard false is e = if_free is

    by_bytes : (bytes : List ℕ) (b : Bool) → flagged (cond b (may_fault Shared (noted s lane body.name) (dropped s lane)) (cond (is_guarded s lane body.name) (may_fault Clash (dropped s lane) (dropped s lane)) (write s lane body))) Done ≡ Some stepped → Free
    by_bytes bytes true e = not_written Shared (noted s lane body.name) e (λ same. absurd (cc))
    by_bytes bytes false e = by_guard (is_guarded s lane body.name) refl e

    by_file : (there : Option (List ℕ)) → lookup (is_at (text_cmp body.name)) s.records ≡ there → flagged (put_over s lane body there) Done ≡ Some stepped → Free
    by_file None is e = if_none is
    by_file (Some bytes) is e = by_bytes bytes (bytes_eq bytes body.bytes) e

    free : Free
    free = by_file (lookup (is_at (text_cmp body.name)) s.records) refl taken

    same_publications : stepped.state.publications ≡ s.publications
    same_publications = ap (λ (x : State). x.publications) (steps.put_changes name_of s lane body Done stepped taken)

    same_pending : stepped.state.pending ≡ s.pending
    same_pending = ap (λ (x : State). x.pending) (steps.put_changes name_of s lane body Done stepped taken)

    pub put_made : (stamp : ℕ) → Made stepped.state (moves ++ move.Renamed Records body.name body.bytes stamp ∷ [])
    put_made stamp =
        let now = moves ++ move.Renamed Records body.name body.bytes stamp ∷ [] in
        let left = laws.rename moves Records body.name body.bytes stamp in
        let not_clash : stepped.outcome ≢ Clash = λ clash. let no : Clash ≡ Written = sym clash ∙ written in absurd (cc) in (
          record {
            records = λ q. by_name (λ n. lookup (is_at (text_cmp n)) stepped.state.records ≡ bytes_at (area_after now Records) n) body.name q
                (steps.put_stands name_of s lane body stepped taken not_clash ∙ sym left.here)
                (λ apart other. steps.put_others name_of s lane body Done stepped q taken apart ∙ stands.records q ∙ sym (ap (option_map (λ f. f.bytes)) (left.others Records q other)));
            disk = carried name_of s stepped.state same_publications same_pending now (put_disk laws moves name_of s.publications s.pending stands.disk body.name body.bytes stamp free.0 free.1);
          },
          carried_leaves name_of s stepped.state same_publications same_pending moves now (put_leaves laws moves name_of s.publications s.pending stands.disk body.name body.bytes stamp free.0 free.1),
        )

  -- ---- collect

  abbrev waits : Bool
  waits = is_some s.pending

  module _ (sound : IsSound name_of s) (lane : ℕ) (stepped : Stepped) (taken : step name_of s lane given.Collect Done ≡ Some stepped) where
    pub removed_made : (name : List ℕ) → stepped.outcome ≡ Removed name → Made stepped.state (moves_removed Records name (moves ++ syncs false waits))
    removed_made name ended_so =
        let r : RemovesLeast s name stepped.state = steps.removed name_of s lane stepped name sound taken ended_so in
        let before = moves ++ syncs false waits in
        let now = moves_removed Records name before in
        let left = laws.removal before Records name in
        let needless = or_false (is_needed (settled s) name) (is_leased name s.leases) r.least.loose.free in
        let free = (free_parts (settled s) name needless.0).0 in
        let publications : stepped.state.publications ≡ s.publications = ap (λ (x : State). x.publications) r.rest in
        let pending : stepped.state.pending ≡ None = ap (λ (x : State). x.pending) r.rest in
        let disk = collect_disk laws moves name_of s.publications s.pending stands.disk waits units_settled name free in (
          record {
            records = λ q. by_name (λ n. lookup (is_at (text_cmp n)) stepped.state.records ≡ bytes_at (area_after now Records) n) name q
                (r.taken.gone ∙ sym left.here)
                (λ apart other. r.taken.others q apart ∙ stands.records q ∙ ap (λ files. bytes_at files q) (sym (syncs_areas laws moves false waits Records)) ∙ sym (ap (option_map (λ f. f.bytes)) (left.others Records q other)));
            disk = subst (λ p. IsOnDisk name_of p stepped.state.publications now) (sym pending) (subst (λ ps. IsOnDisk name_of None ps now) (sym publications) disk);
          },
          subst (λ ps. LeavesPrefixes name_of s.publications ps moves now) (sym publications) (collect_leaves laws moves name_of s.publications s.pending stands.disk waits units_settled name free),
        )

    pub nothing_made : stepped.outcome ≡ Nothing → Made stepped.state (moves ++ syncs false waits)
    nothing_made ended_so =
        let is : stepped.state ≡ settled s = (steps.nothing name_of s lane stepped [] taken ended_so).0 in
        let now = moves ++ syncs false waits in
        let disk : IsOnDisk name_of None s.publications now =
        settled_disk laws name_of s.publications now s.pending None (settled_units laws moves name_of false waits units_settled) (syncs_disk laws moves name_of s.publications s.pending stands.disk false waits) in
        subst (λ x. Made x now) (sym is) (
          record {
            records = λ q. stands.records q ∙ ap (λ files. bytes_at files q) (sym (syncs_areas laws moves false waits Records));
            disk = disk;
          },
          syncs_leave laws moves name_of s.publications s.pending stands.disk false waits,
        )

  -- ---- changes of a unit

  state_is : (x stepped : Stepped) → Some x ≡ Some stepped → stepped.state ≡ x.state
  state_is x stepped e = let same : x ≡ stepped = cc in ap (λ (y : Stepped). y.state) (sym same)

  -- the files of the records stay where a unit changed
  synced_records : (how : Settled) (ms : List Move) (q : List ℕ) → bytes_at (area_after (settled_moves how ms) Records) q ≡ bytes_at (area_after ms Records) q
  synced_records settlements.Synced ms q = ap (λ files. bytes_at files q) (laws.sync_areas ms Units Records)
  synced_records settlements.Unsynced ms q = refl

  beside_unit : (how : Settled) (r : Bool) (ms : List Move) (name : List ℕ) (value : Value) → LeavesAt Units name value (moves ++ syncs r waits) ms → FilesStand s.records (settled_moves how ms)
  beside_unit how r ms name value left q =
      stands.records q ∙ ap (λ files. bytes_at files q) (sym (syncs_areas laws moves r waits Records)) ∙ sym (ap (option_map (λ f. f.bytes)) (left.others Records q refl)) ∙ sym (synced_records how ms q)

  changed_state : (from : State) (p : Publication) (how : Settled) (stepped : Stepped) → flagged (change from from p) (flag_of how) ≡ Some stepped → stepped.state ≡ publishing from p (pending_after how (length from.publications))
  changed_state from p settlements.Synced stepped e = state_is (ended Synced (publishing from p None)) stepped e
  changed_state from p settlements.Unsynced stepped e = state_is (ended Unsynced (publishing from p (Some (length from.publications)))) stepped e

  module _ (lane : ℕ) (unit : UnitValue) where
    abbrev own_name : List ℕ
    own_name = name_of unit.output

    abbrev published : Publication
    published = model.Put own_name (stored_unit s unit)

    clashed : (how : Settled) (stepped : Stepped) → flagged (sure Clash (dropped s lane)) (flag_of how) ≡ Some stepped → stepped.outcome ≡ outcome_of how → stepped.state ≡ publishing (dropped s lane) published (pending_after how (length s.publications))
    clashed settlements.Synced stepped e ends =
        let same : ended Clash (dropped s lane) ≡ stepped = cc in
        let no : Clash ≡ Synced = ap (λ (y : Stepped). y.outcome) same ∙ ends in
        absurd (cc)
    clashed settlements.Unsynced stepped e ends = absurd (cc)

    by_path : (b : Bool) (how : Settled) (stepped : Stepped) → flagged (cond b (change (dropped s lane) (dropped s lane) published) (sure Clash (dropped s lane))) (flag_of how) ≡ Some stepped → stepped.outcome ≡ outcome_of how
        → stepped.state ≡ publishing (dropped s lane) published (pending_after how (length s.publications))
    by_path true how stepped e ends = changed_state (dropped s lane) published how stepped e
    by_path false how stepped e ends = clashed how stepped e ends

    by_other : (o : Option StoredUnit) (how : Settled) (stepped : Stepped) → flagged (publish_over s lane own_name unit o) (flag_of how) ≡ Some stepped → stepped.outcome ≡ outcome_of how
        → stepped.state ≡ publishing (dropped s lane) published (pending_after how (length s.publications))
    by_other None how stepped e ends = changed_state (dropped s lane) published how stepped e
    by_other (Some other) how stepped e ends = by_path (bytes_eq other.unit.output unit.output) how stepped e ends

    published_state : (how : Settled) (stepped : Stepped) → staged_by s lane ≡ Some unit → step name_of s lane given.Publish (flag_of how) ≡ Some stepped → stepped.outcome ≡ outcome_of how
        → stepped.state ≡ publishing (dropped s lane) published (pending_after how (length s.publications))
    published_state how stepped staged taken ends =
        by_other (unit_named own_name (visible s)) how stepped
        (sym (ap (λ o. option_and_then (λ r. flagged r (flag_of how)) (option_map (λ u. publish_unit s lane (name_of u.output) u) o)) staged) ∙ taken) ends

    module _ (sound : IsSound name_of s) (lease : Lease) (has_lease : lease_of s lane ≡ Some lease) (staged : lease.staged ≡ Some unit) where
      staged_is : staged_by s lane ≡ Some unit
      staged_is = ap (option_and_then (λ l. l.staged)) has_lease ∙ staged

      of_synced : (synced : Stepped) → step name_of s lane given.Publish Done ≡ Some synced → synced.outcome ≡ Synced → ValuesStand name_of s.records unit.records (stored_unit s unit).values
      of_synced synced taken ends =
          let not_clash : synced.outcome ≢ Clash = λ clash. let no : Clash ≡ Synced = sym clash ∙ ends in absurd (cc) in
          let added = steps.added name_of s lane lease unit synced sound has_lease staged taken not_clash in
          let is = ap (λ (x : State). x.publications) (published_state settlements.Synced synced staged_is taken ends) in
          let one = append_cancel_left s.publications (published ∷ []) _ (sym is ∙ added.1) in
          let stored : stored_unit s unit ≡ record { unit = unit; values = added.0 } = cc in
          subst (ValuesStand name_of s.records unit.records) (sym (ap (λ (x : StoredUnit). x.values) stored)) added.2

      own_values : (how : Settled) (stepped : Stepped) → step name_of s lane given.Publish (flag_of how) ≡ Some stepped → stepped.outcome ≡ outcome_of how → ValuesStand name_of s.records unit.records (stored_unit s unit).values
      own_values settlements.Synced stepped taken ends = of_synced stepped taken ends
      own_values settlements.Unsynced stepped taken ends =
          let synced = steps.unsynced name_of s lane given.Publish stepped taken in
          of_synced synced.0 synced.1 synced.2.outcome

      pub publish_made : (how : Settled) (stepped : Stepped) (r : Bool) (bytes : List ℕ) (stamp : ℕ) → step name_of s lane given.Publish (flag_of how) ≡ Some stepped → stepped.outcome ≡ outcome_of how
          → (r ≡ false → IsSettledIn Records moves) → UnitSpelling bytes unit → (now : List Move) → now ≡ settled_moves how ((moves ++ syncs r waits) ++ move.Renamed Units own_name bytes stamp ∷ [])
          → Made stepped.state now
      publish_made how stepped r bytes stamp taken ends records spelled now made =
          let mid = moves ++ syncs r waits in
          let on_files : (name : List ℕ) → Stays s.records (entries (standing moves Records)) name = λ name.
          lookup_is_find name (entries (standing moves Records)) ∙ sym (get-entries (standing moves Records) name) ∙ laws.contents (area_after moves Records) name ∙ sym (stands.records name) in
          let values = values_on name_of s.records (entries (standing moves Records)) unit.records (stored_unit s unit).values (λ name _. on_files name) (own_values how stepped taken ends) in
          let made_so = unit_put laws moves name_of s.publications s.pending stands.disk r waits records units_settled own_name bytes stamp (stored_unit s unit) spelled refl values how now made in
          let files = beside_unit how r (mid ++ move.Renamed Units own_name bytes stamp ∷ []) own_name (Some bytes) (laws.rename mid Units own_name bytes stamp) in
          subst (λ x. Made x now) (sym (published_state how stepped staged_is taken ends)) (
            record { records = subst (FilesStand s.records) (sym made) files; disk = made_so.0 },
            made_so.1,
          )

  -- ---- removal

  found_entry : (P : List ℕ × StoredUnit → Type 0) (test : List ℕ × StoredUnit → Bool) (us : units.Units) (name : List ℕ) → option_map (λ (e : List ℕ × StoredUnit). e.0) (find test us) ≡ Some name → AllByRecursion P us
      → (stored : StoredUnit) × P (name, stored)
  found_entry P test [] name is all = absurd (cc)
  found_entry P test (u ∷ us) name is all =
      (elim (test u) as (λ b. option_map (λ (e : List ℕ × StoredUnit). e.0) (cond b (Some u) (find test us)) ≡ Some name → (stored : StoredUnit) × P (name, stored)) [
        | true ↦ λ is. let same : u.0 ≡ name = cc in (u.1, subst (λ n. P (n, u.1)) same all.0)
        | false ↦ λ is. found_entry P test us name is all.1
      ]) is

  pub remove_made : (lane : ℕ) (output name : List ℕ) (how : Settled) (stepped : Stepped) → step name_of s lane (given.Remove output) (flag_of how) ≡ Some stepped → name_with_output output (visible s) ≡ Some name
      → (now : List Move) → now ≡ settled_moves how (moves_removed Units name (moves ++ syncs false waits)) → Made stepped.state now
  remove_made lane output name how stepped taken named now made =
      let mid = moves ++ syncs false waits in
      let entry = found_entry (IsIn (visible s)) (λ e. bytes_eq e.1.unit.output output) (visible s) name named (all_in (visible s) (rising_sorted (visible s) (laws.rises s.publications (length s.publications)))) in
      let there : unit_named name (visible s) ≡ Some entry.0 = lookup_is_find name (visible s) ∙ entry.1 in
      let is = changed_state s (model.Gone name) how stepped (sym (ap (λ o. flagged (remove_named s o) (flag_of how)) named) ∙ taken) in
      let made_so = unit_gone laws moves name_of s.publications s.pending stands.disk waits units_settled name entry.0 there how now made in
      let files = beside_unit how false (moves_removed Units name mid) name None (laws.removal mid Units name) in
      subst (λ x. Made x now) (sym is) (
        record { records = subst (FilesStand s.records) (sym made) files; disk = made_so.0 },
        made_so.1,
      )
