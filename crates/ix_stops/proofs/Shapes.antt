-- The moves of a step, in their order: what they leave on disk, and each moment of them.
use Rattle.std.proofs.Common.{◌≡◌, ℕ, suc, ◌+◌, Bool, true, false, cond, List, [], ◌∷◌, ◌++◌, length, refl, sym, ap, subst, ◌∙◌, Option, Some, None, is_some, arith, append_assoc}
use Rattle.std.specs.FinMap.{entries, get}
use Rattle.std.proofs.lemmas.List.{length-append}
use Rattle.std.proofs.lemmas.List.Elements.{filter_map-append}
use Rattle.std.proofs.lemmas.List.Sums.{fold-append}
use Rattle.ix_dir.specs.declared.area.Area.{Area}
use Rattle.ix_dir.specs.declared.area.Area.TheVariants.{Units, Records}
use Rattle.ix_dir.specs.declared.moves.Move.{Move}
use Rattle.ix_dir.specs.declared.moves.Move.TheVariants.{Renamed, Removed, Synced}
use Rattle.ix_dir.specs.Calls.{moves_removed}
use Rattle.ix_dir.specs.Crash.{IsSettledIn, standing}
use Rattle.ix_dir.specs.Files.{contents_of}
use Rattle.ix_dir.specs.Moves.{area_after}
use Rattle.ix_cabinet.specs.declared.change.Settled.{Settled}
use Rattle.ix_cabinet.specs.declared.change.Settled.TheVariants as settlements
use Rattle.ix_unit.specs.Spelling.{UnitSpelling}
use Rattle.ix_model.specs.declared.publication.Publication.{Publication}
use Rattle.ix_model.specs.declared.publication.Publication.TheVariants.{Put, Gone}
use Rattle.ix_model.specs.declared.publication.StoredUnit.{StoredUnit}
use Rattle.ix_model.specs.Units.{units_at, units_after, unit_named}
use Rattle.ix_machine.specs.Counts.{UnitsMove, Changes, counted, changes_after}
use Rattle.ix_machine.specs.Counts as counts
use Rattle.ix_machine.specs.Needs.{units_need}
use Rattle.ix_machine.specs.Sound.{ValuesStand}
use Rattle.ix_stops.specs.Changes.{units_move, units_moves}
use Rattle.ix_stops.specs.OnDisk.{IsOnDisk}
use Rattle.ix_stops.specs.Prefixes.{LeavesPrefixes}
use Rattle.ix_stops.specs.Shapes.{syncs, pending_after, settled_moves}
use Rattle.ix_stops.proofs.Calls.{records_synced, units_synced, settled_beside, settled_disk, record_renamed, record_removed, unit_renamed, unit_removed, stands_there}
use Rattle.ix_stops.specs.Given.{Laws}
use Rattle.ix_stops.proofs.Moments.{Reached, AllReached, at_start, and_then, leaves}

pub append_nothing : {A : Type 0} (xs : List A) → xs ++ [] ≡ xs
append_nothing [] = refl
append_nothing (x ∷ xs) = ap (λ rest. x ∷ rest) (append_nothing xs)

-- a sync is no publication
made_behind : (base : ℕ) (ms : List Move) → (changes_after base (units_moves (ms ++ Synced Units ∷ []))).made ≡ (changes_after base (units_moves ms)).made
made_behind base ms =
    ap (λ (us : List UnitsMove). (changes_after base us).made) (filter_map-append units_move ms (Synced Units ∷ []))
    ∙ ap (λ (c : Changes). c.made) (fold-append counted (record { made = base; acknowledged = base }) (units_moves ms) (counts.Synced ∷ []))

two_more : (moves : List Move) (m n : Move) → (moves ++ m ∷ []) ++ n ∷ [] ≡ moves ++ m ∷ n ∷ []
two_more moves m n = append_assoc moves (m ∷ []) (n ∷ [])

module _ (laws : Laws) (before : List Move) where
  pub syncs_areas : (r u : Bool) (a : Area) → area_after (before ++ syncs r u) a ≡ area_after before a
  syncs_areas false false a = ap (λ (ms : List Move). area_after ms a) (append_nothing before)
  syncs_areas true false a = laws.sync_areas before Records a
  syncs_areas false true a = laws.sync_areas before Units a
  syncs_areas true true a =
      ap (λ (ms : List Move). area_after ms a) (sym (two_more before (Synced Records) (Synced Units)))
      ∙ laws.sync_areas (before ++ Synced Records ∷ []) Units a ∙ laws.sync_areas before Records a

  abbrev SettledBy : Area → Bool → Type 0
  SettledBy area b = b ≡ false → IsSettledIn area before

  pub settled_units : (name_of : List ℕ → List ℕ) (r u : Bool) → SettledBy Units u → IsSettledIn Units (before ++ syncs r u)
  settled_units name_of false false h = subst (IsSettledIn Units) (sym (append_nothing before)) (h refl)
  settled_units name_of true false h = settled_beside laws name_of before Records Units refl (h refl)
  settled_units name_of false true h = laws.sync_settled before Units
  settled_units name_of true true h = subst (IsSettledIn Units) (two_more before (Synced Records) (Synced Units)) (laws.sync_settled (before ++ Synced Records ∷ []) Units)

  pub settled_records : (name_of : List ℕ → List ℕ) (r u : Bool) → SettledBy Records r → IsSettledIn Records (before ++ syncs r u)
  settled_records name_of false false h = subst (IsSettledIn Records) (sym (append_nothing before)) (h refl)
  settled_records name_of true false h = laws.sync_settled before Records
  settled_records name_of false true h = settled_beside laws name_of before Units Records refl (h refl)
  settled_records name_of true true h =
      subst (IsSettledIn Records) (two_more before (Synced Records) (Synced Units)) (settled_beside laws name_of (before ++ Synced Records ∷ []) Units Records refl (laws.sync_settled before Records))

  -- syncs are no publications
  pub syncs_count : (base : ℕ) (r u : Bool) (more : List Move) → changes_after base (units_moves (syncs r u ++ more)) ≡ changes_after base (units_moves more)
  syncs_count base false false more = refl
  syncs_count base true false more = refl
  syncs_count base false true more = refl
  syncs_count base true true more = refl

  module _ (name_of : List ℕ → List ℕ) (publications : List Publication) (pending : Option ℕ) (disk : IsOnDisk name_of pending publications before) where
    abbrev OnDisk : List Move → Type 0
    OnDisk moves = IsOnDisk name_of pending publications moves

    pub syncs_disk : (r u : Bool) → OnDisk (before ++ syncs r u)
    syncs_disk false false = subst OnDisk (sym (append_nothing before)) disk
    syncs_disk true false = records_synced laws name_of publications before pending disk
    syncs_disk false true = units_synced laws name_of publications before pending pending disk
    syncs_disk true true =
        subst OnDisk (two_more before (Synced Records) (Synced Units))
        (units_synced laws name_of publications (before ++ Synced Records ∷ []) pending pending (records_synced laws name_of publications before pending disk))

    module _ (later : List Publication) where
      abbrev final : List Publication
      final = publications ++ later

      abbrev At : List Move → Type 0
      At more = Reached laws name_of publications final before more

      abbrev All : List Move → Type 0
      All more = AllReached laws name_of publications final before more

      still : (more : List Move) → OnDisk (before ++ more) → (changes_after (length publications) (units_moves more)).made ≡ length publications → At more
      still more on count = record { pending = pending; so_far = publications; later = later; parts = refl; disk = on; count = count }

      quiet_none : All []
      quiet_none = at_start laws name_of publications final before (still [] (syncs_disk false false) refl)

      quiet_records : All (Synced Records ∷ [])
      quiet_records = and_then laws name_of publications final before [] (Synced Records) quiet_none (still (Synced Records ∷ []) (syncs_disk true false) refl)

      pub quiet : (r u : Bool) → All (syncs r u)
      quiet false false = quiet_none
      quiet true false = quiet_records
      quiet false true = and_then laws name_of publications final before [] (Synced Units) quiet_none (still (Synced Units ∷ []) (syncs_disk false true) refl)
      quiet true true = and_then laws name_of publications final before (Synced Records ∷ []) (Synced Units) quiet_records (still (Synced Records ∷ Synced Units ∷ []) (syncs_disk true true) refl)

    -- ---- syncs alone

    syncs_made : (r u : Bool) → (changes_after (length publications) (units_moves (syncs r u))).made ≡ length publications
    syncs_made false false = refl
    syncs_made true false = refl
    syncs_made false true = refl
    syncs_made true true = refl

    no_later : length publications ≡ length (publications ++ [])
    no_later = ap length (sym (append_nothing publications))

    pub syncs_leave : (r u : Bool) → LeavesPrefixes name_of publications publications before (before ++ syncs r u)
    syncs_leave r u = subst (λ ps. LeavesPrefixes name_of publications ps before (before ++ syncs r u)) (append_nothing publications) (leaves laws name_of publications (publications ++ []) before (syncs r u) (quiet [] r u) (syncs_made r u ∙ no_later))

    -- ---- and then a change of a record

    beside : (r u : Bool) (m : Move) → ((base : ℕ) → (changes_after base (units_moves (m ∷ []))).made ≡ base) → OnDisk ((before ++ syncs r u) ++ m ∷ []) → LeavesPrefixes name_of publications publications before ((before ++ syncs r u) ++ m ∷ [])
    beside r u m none on =
        let same : (before ++ syncs r u) ++ m ∷ [] ≡ before ++ (syncs r u ++ m ∷ []) = append_assoc before (syncs r u) (m ∷ []) in
        let count : (changes_after (length publications) (units_moves (syncs r u ++ m ∷ []))).made ≡ length publications = ap (λ c. c.made) (syncs_count (length publications) r u (m ∷ [])) ∙ none (length publications) in
        let all = and_then laws name_of publications (publications ++ []) before (syncs r u) m (quiet [] r u) (still [] (syncs r u ++ m ∷ []) (subst OnDisk same on) count) in
        subst (λ ms. LeavesPrefixes name_of publications publications before ms) (sym same)
        (subst (λ ps. LeavesPrefixes name_of publications ps before (before ++ (syncs r u ++ m ∷ []))) (append_nothing publications) (leaves laws name_of publications (publications ++ []) before (syncs r u ++ m ∷ []) all (count ∙ no_later)))

    pub put_disk : (name bytes : List ℕ) (stamp : ℕ) → units_need name (units_after publications) ≡ false → ((mark : ℕ) → pending ≡ Some mark → units_need name (units_at publications mark) ≡ false)
        → OnDisk (before ++ Renamed Records name bytes stamp ∷ [])
    put_disk name bytes stamp free free_before = record_renamed laws name_of publications before pending name bytes stamp free free_before disk

    pub put_leaves : (name bytes : List ℕ) (stamp : ℕ) → units_need name (units_after publications) ≡ false → ((mark : ℕ) → pending ≡ Some mark → units_need name (units_at publications mark) ≡ false)
        → LeavesPrefixes name_of publications publications before (before ++ Renamed Records name bytes stamp ∷ [])
    put_leaves name bytes stamp free free_before =
        let same : (before ++ []) ++ Renamed Records name bytes stamp ∷ [] ≡ before ++ Renamed Records name bytes stamp ∷ [] = ap (λ (ms : List Move). ms ++ Renamed Records name bytes stamp ∷ []) (append_nothing before) in
        subst (λ ms. LeavesPrefixes name_of publications publications before ms) same
        (beside false false (Renamed Records name bytes stamp) (λ base. refl) (subst OnDisk (sym same) (put_disk name bytes stamp free free_before)))

    module _ (u : Bool) (units : SettledBy Units u) (name : List ℕ) (free : units_need name (units_after publications) ≡ false) where
      abbrev settled : List Move
      settled = before ++ syncs false u

      no_mark : {X : Type 0} (mark : ℕ) → None ≡ Some mark → X
      no_mark mark e = absurd (cc)

      pub collect_disk : IsOnDisk name_of None publications (moves_removed Records name settled)
      collect_disk =
          record_removed laws name_of publications settled None name free (λ mark e. no_mark mark e) (settled_disk laws name_of publications settled pending None (settled_units name_of false u units) (syncs_disk false u))

      by_presence : (b : Bool) → IsOnDisk name_of None publications (cond b (settled ++ Removed Records name ∷ []) settled) → LeavesPrefixes name_of publications publications before (cond b (settled ++ Removed Records name ∷ []) settled)
      by_presence true on = beside false u (Removed Records name) (λ base. refl) (settled_pending on)
        where
          settled_pending : IsOnDisk name_of None publications (settled ++ Removed Records name ∷ []) → OnDisk (settled ++ Removed Records name ∷ [])
          settled_pending on = settled_disk laws name_of publications (settled ++ Removed Records name ∷ []) None pending on.one_pending on
      by_presence false on = syncs_leave false u

      pub collect_leaves : LeavesPrefixes name_of publications publications before (moves_removed Records name settled)
      collect_leaves = by_presence (is_some (get (area_after settled Records) name)) collect_disk

    -- ---- and then a change of a unit, and a sync where that succeeds

    module _ (r u : Bool) (p : Publication) (m : Move)
        (one : (base : ℕ) → (changes_after base (units_moves (m ∷ []))).made ≡ suc base)
        (on : IsOnDisk name_of (Some (length publications)) (publications ++ p ∷ []) ((before ++ syncs r u) ++ m ∷ [])) where
      abbrev changed : List Move
      changed = syncs r u ++ m ∷ []

      abbrev more : List Publication
      more = publications ++ p ∷ []

      grouped : (before ++ syncs r u) ++ m ∷ [] ≡ before ++ changed
      grouped = append_assoc before (syncs r u) (m ∷ [])

      change_count : (changes_after (length publications) (units_moves changed)).made ≡ length more
      change_count =
          let n : length more ≡ length publications + 1 = length-append publications (p ∷ []) in
          let e : suc (length publications) ≡ length more = omega (arith, n) in
          ap (λ (c : Changes). c.made) (syncs_count (length publications) r u (m ∷ [])) ∙ one (length publications) ∙ e

      at_change : Reached laws name_of publications more before changed
      at_change = record {
        pending = Some (length publications);
        so_far = more;
        later = [];
        parts = append_nothing more;
        disk = subst (IsOnDisk name_of (Some (length publications)) more) grouped on;
        count = change_count;
      }

      to_change : AllReached laws name_of publications more before changed
      to_change = and_then laws name_of publications more before (syncs r u) m (quiet (p ∷ []) r u) at_change

      pub unsynced_leaves : LeavesPrefixes name_of publications more before ((before ++ syncs r u) ++ m ∷ [])
      unsynced_leaves = subst (λ ms. LeavesPrefixes name_of publications more before ms) (sym grouped) (leaves laws name_of publications more before changed to_change change_count)

      pub synced_disk : IsOnDisk name_of None more (((before ++ syncs r u) ++ m ∷ []) ++ Synced Units ∷ [])
      synced_disk = units_synced laws name_of more ((before ++ syncs r u) ++ m ∷ []) (Some (length publications)) None on

      at_sync : Reached laws name_of publications more before (changed ++ Synced Units ∷ [])
      at_sync = record {
        pending = None;
        so_far = more;
        later = [];
        parts = append_nothing more;
        disk = subst (IsOnDisk name_of None more) (ap (λ (ms : List Move). ms ++ Synced Units ∷ []) grouped ∙ append_assoc before changed (Synced Units ∷ [])) synced_disk;
        count = made_behind (length publications) changed ∙ change_count;
      }

      pub synced_leaves : LeavesPrefixes name_of publications more before (((before ++ syncs r u) ++ m ∷ []) ++ Synced Units ∷ [])
      synced_leaves =
          subst (λ ms. LeavesPrefixes name_of publications more before ms) (sym (ap (λ (ms : List Move). ms ++ Synced Units ∷ []) grouped ∙ append_assoc before changed (Synced Units ∷ [])))
          (leaves laws name_of publications more before (changed ++ Synced Units ∷ []) (and_then laws name_of publications more before changed (Synced Units) to_change at_sync) (made_behind (length publications) changed ∙ change_count))

      by_settled : (settled : Settled) → IsOnDisk name_of (pending_after settled (length publications)) more (settled_moves settled ((before ++ syncs r u) ++ m ∷ []))
          × LeavesPrefixes name_of publications more before (settled_moves settled ((before ++ syncs r u) ++ m ∷ []))
      by_settled settlements.Synced = (synced_disk, synced_leaves)
      by_settled settlements.Unsynced = (on, unsynced_leaves)

    abbrev Leaves : Settled → Publication → List Move → Type 0
    Leaves settled p now = IsOnDisk name_of (pending_after settled (length publications)) (publications ++ p ∷ []) now × LeavesPrefixes name_of publications (publications ++ p ∷ []) before now

    module _ (r u : Bool) (records : SettledBy Records r) (units : SettledBy Units u) where
      abbrev mid : List Move
      mid = before ++ syncs r u

      pub unit_put : (name bytes : List ℕ) (stamp : ℕ) (stored : StoredUnit) → UnitSpelling bytes stored.unit → name ≡ name_of stored.unit.output → ValuesStand name_of (entries (standing before Records)) stored.unit.records stored.values
          → (settled : Settled) (now : List Move) → now ≡ settled_moves settled (mid ++ Renamed Units name bytes stamp ∷ []) → Leaves settled (Put name stored) now
      unit_put name bytes stamp stored spelled named values settled now made =
          let same : standing before Records ≡ standing mid Records = ap contents_of (sym (syncs_areas r u Records)) in
          let stand : ValuesStand name_of (entries (standing mid Records)) stored.unit.records stored.values = subst (λ c. ValuesStand name_of (entries c) stored.unit.records stored.values) same values in
          let on = unit_renamed laws name_of publications mid pending name bytes stamp stored (settled_units name_of r u units) (settled_records name_of r u records) spelled named stand (syncs_disk r u) in
          subst (Leaves settled (Put name stored)) (sym made) (by_settled r u (Put name stored) (Renamed Units name bytes stamp) (λ base. refl) on settled)

    module _ (u : Bool) (units : SettledBy Units u) where
      abbrev behind : List Move
      behind = before ++ syncs false u

      pub unit_gone : (name : List ℕ) (stored : StoredUnit) → unit_named name (units_after publications) ≡ Some stored → (settled : Settled) (now : List Move) → now ≡ settled_moves settled (moves_removed Units name behind) → Leaves settled (Gone name) now
      unit_gone name stored is settled now made =
          let there = stands_there laws name_of publications behind pending name stored is (syncs_disk false u) in
          let on = unit_removed laws name_of publications behind pending name stored (settled_units name_of false u units) is (syncs_disk false u) in
          subst (Leaves settled (Gone name)) (sym (made ∙ ap (settled_moves settled) there)) (by_settled false u (Gone name) (Removed Units name) (λ base. refl) on settled)
