-- Each call leaves a sound state, whatever its flag.
use Rattle.std.proofs.Common.{◌≡◌, ℕ, suc, ◌≤◌, ◌==◌, Bool, true, false, not, cond, ◌||◌, ◌⊎◌, inl, inr, List, [], ◌∷◌, ◌++◌, length, take, drop, filter, get_or, Option, Some, None, IfSome, option_map, refl, sym, ap, subst, ◌∙◌, arith, add-one}
use Rattle.std.specs.List.{AllByRecursion, list_any, cons_option}
use Rattle.std.specs.Option.{option_and_then}
use Rattle.std.specs.Map.{lookup, keys_of, remove_entry}
use Rattle.std.specs.BTreeMap.{insert_entry, is_at}
use Rattle.std.specs.Str.{bytes_eq}
use Rattle.ix_types.specs.Row.{text_cmp}
use Rattle.ix_record.specs.declared.body.Body.{Body}
use Rattle.ix_record.specs.declared.value.RecordValue.{RecordValue}
use Rattle.ix_record.specs.Spelling.{RecordSpelling}
use Rattle.ix_record.specs.Whole.{IsWhole}
use Rattle.ix_record.proofs.Door.{spelled_is_read}
use Rattle.ix_unit.specs.declared.value.RecordDep.{RecordDep}
use Rattle.ix_unit.specs.declared.value.UnitValue.{UnitValue}
use Rattle.ix_unit.specs.Value.{IsValidUnit}
use Rattle.ix_model.specs.declared.publication.StoredUnit.{StoredUnit}
use Rattle.ix_model.specs.declared.publication.Publication.{Publication}
use Rattle.ix_model.specs.declared.publication.Publication.TheVariants.{Put, Gone}
use Rattle.ix_model.specs.Units.{changed, unit_named}
use Rattle.ix_machine.specs.declared.event.Outcome.TheVariants.{Shared, Clash}
use Rattle.ix_machine.specs.declared.event.Purpose.{Purpose}
use Rattle.ix_machine.specs.declared.event.Purpose.TheVariants as purposes
use Rattle.ix_machine.specs.Needs.{option_any, has_name, visible, seen_at, is_needed, is_leased, other_leases, was_put, is_guarded, is_protected, settled, loose}
use Rattle.ix_machine.specs.Run.{Leases}
use Rattle.ix_machine.specs.Sound.{StandsAs, StandsWhole, ValuesStand, RecordsStand, IsLeaseSound, IsSound}
use Rattle.ix_machine.specs.State.{Files, Lease, Import, State, lease_of, with_put, with_staged}
use Rattle.ix_machine.specs.Step as step
use Rattle.ix_machine.specs.Step.{Row, with_lease, dropped, holding, publishing, noted, write, put_over, read_value, value_of, values_of, stored_unit, change, publish_over, staged_by, remove_named, unopened, load_failed, install_mark, install_import, collect_first}
use Rattle.ix_machine.proofs.Lists.{or_left, or_right, any-at, same_or_apart, lookup-inserted, lookup-inserted_apart, lookup-removed_apart, inserted-rises, removed-rises, other_or_own, name-among, same_bytes, All-pushed, All-mapped}
use Rattle.ix_machine.proofs.Publishing.{put-stands, gone-stands}
use Rattle.ix_machine.proofs.Records.{Stays, with_records}
use Rattle.ix_machine.proofs.Rows.{Each}
use Rattle.ix_machine.proofs.Changes.{with_lease-sound, dropped-sound, holding-sound, with_import-sound, with_current-sound, settled-sound, publishing-sound, records-sound}

-- ---- the values that bytes spell

spelled_value : (bytes : List ℕ) (value : RecordValue) → RecordSpelling bytes value → value_of bytes ≡ Some value
spelled_value bytes value spelled = let read = spelled_is_read bytes value spelled in ap read_value read.1

value_of_dep : Files → RecordDep → Option RecordValue
value_of_dep records dep = option_and_then value_of (lookup (is_at (text_cmp dep.name)) records)

pub values_stand : (name_of : List ℕ → List ℕ) (records : Files) (deps : List RecordDep) → AllByRecursion (λ dep. StandsWhole name_of records dep.name) deps → ValuesStand name_of records deps (values_of records deps)
values_stand name_of records [] all = tt
values_stand name_of records (dep ∷ deps) all =
    let value = all.0.0 in
    let stands : StandsAs name_of records dep.name value = all.0.1 in
    let found : option_and_then value_of (lookup (is_at (text_cmp dep.name)) records) ≡ Some value = ap (option_and_then value_of) stands.stands ∙ spelled_value stands.bytes value stands.spelled in
    subst (λ (o : Option RecordValue). ValuesStand name_of records (dep ∷ deps) (cons_option o (values_of records deps))) (sym found) (stands, values_stand name_of records deps all.1)

-- ---- what is guarded

module _ (s : State) (lane : ℕ) (name : List ℕ) where
  needed_guarded : is_needed s name ≡ true → is_guarded s lane name ≡ true
  needed_guarded e = or_left (was_put s lane name) (or_left (is_leased name (other_leases s lane)) e)

  lease_guarded : (j : ℕ) (lease : Lease) → lease_of s j ≡ Some lease → has_name name lease.names ≡ true → has_name name lease.put ≡ true → is_guarded s lane name ≡ true
  lease_guarded j lease is leased put = by_lane (other_or_own (λ (l : Lease). has_name name l.names) s.leases lane j lease is leased)
    where
      by_lane : (list_any (option_any (λ (l : Lease). has_name name l.names)) (take lane s.leases ++ drop (suc lane) s.leases) ≡ true) ⊎ (get_or s.leases lane None ≡ Some lease) → is_guarded s lane name ≡ true
      by_lane (inl e) =
          let others : is_leased name (other_leases s lane) ≡ true = ap (λ (n : ℕ). is_leased name (take lane s.leases ++ drop n s.leases)) (add-one lane) ∙ e in
          or_left (was_put s lane name) (or_right (is_needed s name) others)
      by_lane (inr own) = or_right (is_needed s name || is_leased name (other_leases s lane)) (ap (option_any (λ (l : Lease). has_name name l.put)) own ∙ put)

-- ---- put

module _ (name_of : List ℕ → List ℕ) (s : State) (h : IsSound name_of s) (lane : ℕ) where
  Sound : State → Type 0
  Sound = IsSound name_of

  -- nothing stands under the name, or it isn't guarded
  abbrev IsFree : Body → Type 0
  IsFree body = (lookup (is_at (text_cmp body.name)) s.records ≡ None) ⊎ (is_guarded s lane body.name ≡ false)

  put_stays : (body : Body) → IsFree body → (q : List ℕ) → is_guarded s lane q ≡ true → Stays s.records (insert_entry text_cmp s.records body.name body.bytes) q
  put_stays body free q guarded bytes stands = by_name (same_or_apart body.name q)
    where
      taken : body.name ≡ q → IsFree body → ⊥
      taken e (inl none) = let there : lookup (is_at (text_cmp body.name)) s.records ≡ Some bytes = ap (λ (z : List ℕ). lookup (is_at (text_cmp z)) s.records) e ∙ stands in cc
      taken e (inr open_to) = let yes : is_guarded s lane body.name ≡ true = ap (is_guarded s lane) e ∙ guarded in cc

      by_name : (body.name ≡ q) ⊎ (is_at (text_cmp q) body.name ≡ false) → lookup (is_at (text_cmp q)) (insert_entry text_cmp s.records body.name body.bytes) ≡ Some bytes
      by_name (inl e) = absurd (taken e free)
      by_name (inr ne) = lookup-inserted_apart body.name body.bytes q ne s.records ∙ stands

  has-pushed : (name : List ℕ) (names : List (List ℕ)) (more : List ℕ) → has_name name names ≡ true → has_name name (names ++ more ∷ []) ≡ true
  has-pushed name [] more e = absurd (cc)
  has-pushed name (other ∷ names) more e =
      (elim (bytes_eq other name) as (λ b. (b || has_name name names) ≡ true → (b || has_name name (names ++ more ∷ [])) ≡ true) [
        | true ↦ λ e. refl
        | false ↦ λ e. has-pushed name names more e
      ]) e

  -- a lease with one more record put
  put-lease : (records : Files) (lease : Lease) (name : List ℕ) → IsLeaseSound name_of records lease → has_name name lease.names ≡ true → StandsWhole name_of records name → IsLeaseSound name_of records (with_put name lease)
  put-lease records lease name own has whole = record {
    leased = All-pushed (λ q. has_name q lease.names ≡ true) lease.put name own.leased has;
    whole = All-pushed (StandsWhole name_of records) lease.put name own.whole whole;
    staged = staged lease.staged own.staged;
  }
    where
      staged : (o : Option UnitValue) → IfSome o (λ unit. IsValidUnit unit × AllByRecursion (λ dep. has_name dep.name lease.put ≡ true) unit.records)
          → IfSome o (λ unit. IsValidUnit unit × AllByRecursion (λ dep. has_name dep.name (lease.put ++ name ∷ []) ≡ true) unit.records)
      staged None t = tt
      staged (Some unit) t = (t.0, All-mapped _ _ (λ dep e. has-pushed dep.name lease.put name e) unit.records t.1)

  -- the name may be noted in a sound state with the same leases
  noted-sound : (t : State) → IsSound name_of t → t.leases ≡ s.leases → (lease : Lease) (name : List ℕ) → lease_of s lane ≡ Some lease → has_name name lease.names ≡ true → StandsWhole name_of t.records name → IsSound name_of (noted t lane name)
  noted-sound t sound same lease name is has whole =
      let there : lease_of t lane ≡ Some lease = ap (λ (ls : List (Option Lease)). get_or ls lane None) same ∙ is in
      let own : IsLeaseSound name_of t.records lease = subst (λ (o : Option Lease). IfSome o (IsLeaseSound name_of t.records)) there (sound.leases lane) in
      with_lease-sound name_of t sound lane (option_map (with_put name) (lease_of t lane))
      (subst (λ (o : Option Lease). IfSome (option_map (with_put name) o) (IsLeaseSound name_of t.records)) (sym there) (put-lease t.records lease name own has whole))

  stands_inserted : (body : Body) → IsWhole name_of body → StandsWhole name_of (insert_entry text_cmp s.records body.name body.bytes) body.name
  stands_inserted body whole = (whole.spelled.0, record { bytes = body.bytes; stands = lookup-inserted body.name body.bytes s.records; named = whole.named; spelled = whole.spelled.1 })

  module _ (body : Body) (may : Leases s lane (λ lease. (has_name body.name lease.names ≡ true) × IsWhole name_of body)) where
    write-each : IsFree body → Each (IsSound name_of) (write s lane body)
    write-each free =
        let after = insert_entry text_cmp s.records body.name body.bytes in
        let t = with_records s after in
        let sound : IsSound name_of t = records-sound name_of s h after (λ q e. put_stays body free q (needed_guarded s lane q e))
        (λ j lease q is leased put. put_stays body free q (lease_guarded s lane q j lease is leased put)) (inserted-rises body.name body.bytes s.records h.rising) in
        record {
          plain = noted-sound t sound refl may.0 body.name may.1 may.3.0 (stands_inserted body may.3.1);
          faulted = dropped-sound name_of s h lane;
          unsynced = tt;
        }

    share-each : (bytes : List ℕ) → lookup (is_at (text_cmp body.name)) s.records ≡ Some bytes → bytes ≡ body.bytes → IsSound name_of (noted s lane body.name)
    share-each bytes is same =
        let whole = may.3.1 in
        noted-sound s h refl may.0 body.name may.1 may.3.0
        (whole.spelled.0, record { bytes = body.bytes; stands = is ∙ ap Some same; named = whole.named; spelled = whole.spelled.1 })

    -- by what stands under the name
    over-each : (o : Option (List ℕ)) → lookup (is_at (text_cmp body.name)) s.records ≡ o → Each (IsSound name_of) (put_over s lane body o)
    over-each None is = write-each (inl is)
    over-each (Some bytes) is = by_bytes (bytes_eq bytes body.bytes) refl
      where
        by_guard : (b : Bool) → is_guarded s lane body.name ≡ b
            → Each (IsSound name_of) (cond b (step.may_fault Clash (dropped s lane) (dropped s lane)) (write s lane body))
        by_guard true e = record { plain = dropped-sound name_of s h lane; faulted = dropped-sound name_of s h lane; unsynced = tt }
        by_guard false e = write-each (inr e)

        by_bytes : (b : Bool) → bytes_eq bytes body.bytes ≡ b
            → Each (IsSound name_of) (cond b (step.may_fault Shared (noted s lane body.name) (dropped s lane)) (cond (is_guarded s lane body.name) (step.may_fault Clash (dropped s lane) (dropped s lane)) (write s lane body)))
        by_bytes true e = record { plain = share-each bytes is (same_bytes bytes body.bytes e); faulted = dropped-sound name_of s h lane; unsynced = tt }
        by_bytes false e = by_guard (is_guarded s lane body.name) refl

    pub put-each : Each (IsSound name_of) (step.put s lane body)
    put-each = over-each (lookup (is_at (text_cmp body.name)) s.records) refl

  -- ---- lease and stage

  pub lease-each : (names : List (List ℕ)) → Each (IsSound name_of) (step.lease s lane names)
  lease-each names = record {
    plain = with_lease-sound name_of s h lane (Some (record { names = names; put = []; staged = None })) (record { leased = tt; whole = tt; staged = tt });
    faulted = tt;
    unsynced = tt;
  }

  pub stage-each : (unit : UnitValue) → Leases s lane (λ lease. IsValidUnit unit × AllByRecursion (λ dep. has_name dep.name lease.put ≡ true) unit.records) → Each (IsSound name_of) (step.stage s lane unit)
  stage-each unit may =
      let own : IsLeaseSound name_of s.records may.0 = subst (λ (o : Option Lease). IfSome o (IsLeaseSound name_of s.records)) may.1 (h.leases lane) in
      record {
        plain = with_lease-sound name_of s h lane (option_map (with_staged unit) (lease_of s lane))
            (subst (λ (o : Option Lease). IfSome (option_map (with_staged unit) o) (IsLeaseSound name_of s.records)) (sym may.1)
            (record { leased = own.leased; whole = own.whole; staged = may.3 }));
        faulted = dropped-sound name_of s h lane;
        unsynced = tt;
      }

  -- ---- changes of the units

  pub change-each : (t faulted : State) → IsSound name_of t → IsSound name_of faulted → (p : Publication) → RecordsStand name_of t.records (changed (visible t) p) → Each (IsSound name_of) (change t faulted p)
  change-each t faulted sound left p stand = record {
    plain = publishing-sound name_of t sound p None tt stand;
    faulted = left;
    unsynced = publishing-sound name_of t sound p (Some (length t.publications)) refl stand;
  }

  pub staged_stand : (unit : UnitValue) (lease : Lease) → lease_of s lane ≡ Some lease → lease.staged ≡ Some unit → AllByRecursion (λ dep. StandsWhole name_of s.records dep.name) unit.records
  staged_stand unit lease is staged =
      let own : IsLeaseSound name_of s.records lease = subst (λ (o : Option Lease). IfSome o (IsLeaseSound name_of s.records)) is (h.leases lane) in
      let has = subst (λ (o : Option UnitValue). IfSome o (λ unit. IsValidUnit unit × AllByRecursion (λ dep. has_name dep.name lease.put ≡ true) unit.records)) staged own.staged in
      All-mapped (λ dep. has_name dep.name lease.put ≡ true) (λ dep. StandsWhole name_of s.records dep.name) (λ dep e. name-among (StandsWhole name_of s.records) lease.put dep.name own.whole e) unit.records has.1

  module _ (unit : UnitValue) (stand : AllByRecursion (λ dep. StandsWhole name_of s.records dep.name) unit.records) where
    publish_change : (name : List ℕ) → Each (IsSound name_of) (change (dropped s lane) (dropped s lane) (Put name (stored_unit s unit)))
    publish_change name =
        change-each (dropped s lane) (dropped s lane) (dropped-sound name_of s h lane) (dropped-sound name_of s h lane) (Put name (stored_unit s unit))
        (put-stands name_of s.records (visible s) name (stored_unit s unit) h.needed.visible_ones (values_stand name_of s.records unit.records stand))

    publish_over-each : (name : List ℕ) (o : Option StoredUnit) → Each (IsSound name_of) (publish_over s lane name unit o)
    publish_over-each name None = publish_change name
    publish_over-each name (Some other) =
        elim (bytes_eq other.unit.output unit.output) as (λ b. Each (IsSound name_of) (cond b (change (dropped s lane) (dropped s lane) (Put name (stored_unit s unit))) (step.sure Clash (dropped s lane)))) [
          | true ↦ publish_change name
          | false ↦ record { plain = dropped-sound name_of s h lane; faulted = tt; unsynced = tt }
        ]

  pub publish-each : (r : Row) → step.publish name_of s lane ≡ Some r → Each (IsSound name_of) r
  publish-each r e = by_lease (lease_of s lane) refl e
    where
      by_staged : (lease : Lease) → lease_of s lane ≡ Some lease → (o : Option UnitValue) → lease.staged ≡ o → option_map (λ unit. step.publish_unit s lane (name_of unit.output) unit) o ≡ Some r → Each (IsSound name_of) r
      by_staged lease is None staged e = absurd (cc)
      by_staged lease is (Some unit) staged e =
          let same : step.publish_unit s lane (name_of unit.output) unit ≡ r = cc in
          subst (Each (IsSound name_of)) same (publish_over-each unit (staged_stand unit lease is staged) (name_of unit.output) (unit_named (name_of unit.output) (visible s)))

      by_lease : (o : Option Lease) → lease_of s lane ≡ o → option_map (λ unit. step.publish_unit s lane (name_of unit.output) unit) (option_and_then (λ l. l.staged) o) ≡ Some r → Each (IsSound name_of) r
      by_lease None is e = absurd (cc)
      by_lease (Some lease) is e = by_staged lease is lease.staged refl e

  remove_named-each : (o : Option (List ℕ)) → Each (IsSound name_of) (remove_named s o)
  remove_named-each None = record { plain = h; faulted = tt; unsynced = tt }
  remove_named-each (Some name) = change-each s s h h (Gone name) (gone-stands name_of s.records (visible s) name h.needed.visible_ones)

  pub remove-each : (output : List ℕ) → Each (IsSound name_of) (step.remove s output)
  remove-each output = remove_named-each (step.name_with_output output (visible s))

  -- ---- imports, versions and holds

  unopened-sound : IsSound name_of (unopened s)
  unopened-sound = with_import-sound name_of s h None tt

  pub scan-each : Each (IsSound name_of) (step.scan s lane)
  scan-each = record {
    plain = with_import-sound name_of s h (Some (record { lane = lane; mark = length s.publications })) ((h.marks.current, omega arith), h.needed.visible_ones);
    faulted = unopened-sound;
    unsynced = tt;
  }

  load_failed-sound : (purpose : Purpose) → IsSound name_of (load_failed s purpose)
  load_failed-sound purposes.Import = unopened-sound
  load_failed-sound purposes.Ask = h

  pub load-each : (name : List ℕ) (purpose : Purpose) → Each (IsSound name_of) (step.load s name purpose)
  load-each name purpose = record { plain = h; faulted = load_failed-sound purpose; unsynced = tt }

  install_mark-each : (mark : ℕ) → s.current ≤ mark → mark ≤ length s.publications → RecordsStand name_of s.records (seen_at s mark) → Each (IsSound name_of) (install_mark s lane mark)
  install_mark-each mark later below stand = record {
    plain = holding-sound name_of (record s { import = None; current = mark }) (with_current-sound name_of s h mark later below stand) lane (Some mark) (omega arith, stand);
    faulted = tt;
    unsynced = tt;
  }

  pub install-each : (r : Row) → step.install s lane ≡ Some r → Each (IsSound name_of) r
  install-each r e = by_import s.import refl e
    where
      by_lane : (i : Import) → s.import ≡ Some i → (b : Bool) → cond b (Some (install_mark s lane i.mark)) None ≡ Some r → Each (IsSound name_of) r
      by_lane i is false e = absurd (cc)
      by_lane i is true e =
          let same : install_mark s lane i.mark ≡ r = cc in
          let marks = subst (λ (o : Option Import). IfSome o (λ i. (s.current ≤ i.mark) × (i.mark ≤ length s.publications))) is h.marks.imported in
          let stand = subst (λ (o : Option Import). IfSome o (λ i. RecordsStand name_of s.records (seen_at s i.mark))) is h.needed.imported in
          subst (Each (IsSound name_of)) same (install_mark-each i.mark marks.0 marks.1 stand)

      by_import : (o : Option Import) → s.import ≡ o → install_import s lane o ≡ Some r → Each (IsSound name_of) r
      by_import None is e = absurd (cc)
      by_import (Some i) is e = by_lane i is (i.lane == lane) e

  pub adopt-each : Each (IsSound name_of) (step.adopt s lane)
  adopt-each = record { plain = holding-sound name_of s h lane (Some s.current) (omega arith, h.needed.current); faulted = tt; unsynced = tt }

  pub release-each : Each (IsSound name_of) (step.release s lane)
  release-each = record { plain = holding-sound name_of s h lane None tt; faulted = tt; unsynced = tt }

  -- ---- collect

  removed_stays : (name : List ℕ) → is_protected (settled s) name ≡ false → (q : List ℕ) → is_protected (settled s) q ≡ true → Stays s.records (remove_entry (is_at (text_cmp name)) s.records) q
  removed_stays name free q spared bytes stands = by_name (same_or_apart name q)
    where
      by_name : (name ≡ q) ⊎ (is_at (text_cmp q) name ≡ false) → lookup (is_at (text_cmp q)) (remove_entry (is_at (text_cmp name)) s.records) ≡ Some bytes
      by_name (inl e) = let both : is_protected (settled s) name ≡ true = ap (is_protected (settled s)) e ∙ spared in absurd (cc)
      by_name (inr ne) = lookup-removed_apart name q ne s.records ∙ stands

  lease_protected : (j : ℕ) (lease : Lease) (q : List ℕ) → lease_of s j ≡ Some lease → has_name q lease.names ≡ true → is_protected (settled s) q ≡ true
  lease_protected j lease q is leased = or_right (is_needed (settled s) q) (any-at (λ (l : Lease). has_name q l.names) s.leases j lease is leased)

  first_is_free : (names keys : List (List ℕ)) (name : List ℕ) → filter (λ q. not (is_protected (settled s) q)) keys ≡ name ∷ names → is_protected (settled s) name ≡ false
  first_is_free names [] name e = absurd (cc)
  first_is_free names (key ∷ keys) name e =
      (elim (is_protected (settled s) key) as (λ b. is_protected (settled s) key ≡ b → cond (not b) (key ∷ filter (λ q. not (is_protected (settled s) q)) keys) (filter (λ q. not (is_protected (settled s) q)) keys) ≡ name ∷ names → is_protected (settled s) name ≡ false) [
        | true ↦ λ is e. first_is_free names keys name e
        | false ↦ λ is e. let same : key ≡ name = cc in subst (λ (q : List ℕ). is_protected (settled s) q ≡ false) same is
      ]) refl e

  collected-sound : (names : List (List ℕ)) → loose s ≡ names → IsSound name_of (collect_first s names).state
  collected-sound [] is = settled-sound name_of s h
  collected-sound (name ∷ names) is =
      let free = first_is_free names (keys_of s.records) name is in
      records-sound name_of (settled s) (settled-sound name_of s h) (remove_entry (is_at (text_cmp name)) s.records)
      (λ q e. removed_stays name free q (or_left (is_leased q s.leases) e))
      (λ j lease q there leased put. removed_stays name free q (lease_protected j lease q there leased))
      (removed-rises (is_at (text_cmp name)) s.records h.rising)

  pub collect-each : Each (IsSound name_of) (step.collect s)
  collect-each = record { plain = collected-sound (loose s) refl; faulted = h; unsynced = tt }
