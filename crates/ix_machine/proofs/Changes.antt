-- Each change of a sound state that a call makes leaves a sound one.
use Rattle.std.proofs.Common.{◌≡◌, ℕ, ◌≤◌, true, List, [], ◌∷◌, ◌++◌, length, Option, Some, None, IfSome, sym, subst, arith}
use Rattle.std.specs.List.Sorted.{IsStrictlySortedBy}
use Rattle.std.specs.Map.{keys_of}
use Rattle.ix_types.specs.Row.{text_cmp}
use Rattle.ix_model.specs.declared.publication.Publication.{Publication}
use Rattle.ix_model.specs.Units.{changed, units_at}
use Rattle.ix_machine.specs.Needs.{has_name, visible, seen_at, is_needed, settled}
use Rattle.ix_machine.specs.Sound.{StandsWhole, RecordsStand, IsLeaseSound, IsSound}
use Rattle.ix_machine.specs.State.{Files, Lease, Import, State, lease_of, held_by}
use Rattle.ix_machine.specs.Step.{with_lease, dropped, holding, publishing}
use Rattle.ix_machine.proofs.Lists.{set_cases, names-kept, name-among}
use Rattle.ix_machine.proofs.Publishing.{earlier_stay, last_changes, length-pushed}
use Rattle.ix_machine.proofs.Records.{Stays, stands-stays, with_records, needed-stay, if_some}

-- two things that hold of the value
if_both : {X : Type 0} (P Q R : X → Type 0) (o : Option X) → ((x : X) → P x → Q x → R x) → IfSome o P → IfSome o Q → IfSome o R
if_both P Q R None f p q = tt
if_both P Q R (Some x) f p q = f x p q

module _ (name_of : List ℕ → List ℕ) (s : State) (h : IsSound name_of s) where
  abbrev pub LeaseHolds : Option Lease → Type 0
  LeaseHolds lease = IfSome lease (IsLeaseSound name_of s.records)

  pub with_lease-sound : (lane : ℕ) (lease : Option Lease) → LeaseHolds lease → IsSound name_of (with_lease s lane lease)
  with_lease-sound lane lease holds = record {
    marks = record { pending = h.marks.pending; imported = h.marks.imported; current = h.marks.current; held = h.marks.held };
    needed = record {
      visible_ones = h.needed.visible_ones;
      pending = h.needed.pending;
      imported = h.needed.imported;
      current = h.needed.current;
      held = h.needed.held;
    };
    leases = λ j. set_cases LeaseHolds s.leases lane j lease None holds (h.leases j);
    rising = h.rising;
  }

  pub dropped-sound : (lane : ℕ) → IsSound name_of (dropped s lane)
  dropped-sound lane = with_lease-sound lane None tt

  abbrev pub HoldIsSound : Option ℕ → Type 0
  HoldIsSound mark = IfSome mark (λ m. (m ≤ s.current) × RecordsStand name_of s.records (seen_at s m))

  pub holding-sound : (lane : ℕ) (mark : Option ℕ) → HoldIsSound mark → IsSound name_of (holding s lane mark)
  holding-sound lane mark holds = record {
    marks = record {
      pending = h.marks.pending;
      imported = h.marks.imported;
      current = h.marks.current;
      held = λ j. set_cases (λ o. IfSome o (λ m. m ≤ s.current)) s.held lane j mark None (if_some _ (λ m. m ≤ s.current) mark (λ m is p. p.0) holds) (h.marks.held j);
    };
    needed = record {
      visible_ones = h.needed.visible_ones;
      pending = h.needed.pending;
      imported = h.needed.imported;
      current = h.needed.current;
      held = λ j. set_cases (λ o. IfSome o (λ m. RecordsStand name_of s.records (seen_at s m))) s.held lane j mark None
          (if_some _ (λ m. RecordsStand name_of s.records (seen_at s m)) mark (λ m is p. p.1) holds) (h.needed.held j);
    };
    leases = h.leases;
    rising = h.rising;
  }

  -- the open import is this one, or none
  abbrev pub with_import : Option Import → State
  with_import open_import = record s { import = open_import }

  abbrev pub ImportIsSound : Option Import → Type 0
  ImportIsSound open_import = IfSome open_import (λ i. ((s.current ≤ i.mark) × (i.mark ≤ length s.publications)) × RecordsStand name_of s.records (seen_at s i.mark))

  pub with_import-sound : (open_import : Option Import) → ImportIsSound open_import → IsSound name_of (with_import open_import)
  with_import-sound open_import holds = record {
    marks = record {
      pending = h.marks.pending;
      imported = if_some _ (λ i. (s.current ≤ i.mark) × (i.mark ≤ length s.publications)) open_import (λ i is p. p.0) holds;
      current = h.marks.current;
      held = h.marks.held;
    };
    needed = record {
      visible_ones = h.needed.visible_ones;
      pending = h.needed.pending;
      imported = if_some _ (λ i. RecordsStand name_of s.records (seen_at s i.mark)) open_import (λ i is p. p.1) holds;
      current = h.needed.current;
      held = h.needed.held;
    };
    leases = h.leases;
    rising = h.rising;
  }

  -- a later mark becomes the current one
  abbrev pub with_current : ℕ → State
  with_current mark = record s { import = None; current = mark }

  pub with_current-sound : (mark : ℕ) → s.current ≤ mark → mark ≤ length s.publications → RecordsStand name_of s.records (seen_at s mark) → IsSound name_of (with_current mark)
  with_current-sound mark later below stand = record {
    marks = record {
      pending = h.marks.pending;
      imported = tt;
      current = below;
      held = λ j. if_some (λ m. m ≤ s.current) (λ m. m ≤ mark) (held_by s j) (λ m is p. omega arith) (h.marks.held j);
    };
    needed = record {
      visible_ones = h.needed.visible_ones;
      pending = h.needed.pending;
      imported = tt;
      current = stand;
      held = h.needed.held;
    };
    leases = h.leases;
    rising = h.rising;
  }

  pub settled-sound : IsSound name_of (settled s)
  settled-sound = record {
    marks = record { pending = tt; imported = h.marks.imported; current = h.marks.current; held = h.marks.held };
    needed = record {
      visible_ones = h.needed.visible_ones;
      pending = tt;
      imported = h.needed.imported;
      current = h.needed.current;
      held = h.needed.held;
    };
    leases = h.leases;
    rising = h.rising;
  }

  -- ---- one publication more

  module _ (p : Publication) where
    abbrev now : List Publication
    now = s.publications ++ p ∷ []

    longer : (n : ℕ) → n ≤ length s.publications → n ≤ length now
    longer n below = let e = length-pushed s.publications p in omega (arith, e)

    stand_now : (n : ℕ) → n ≤ length s.publications → RecordsStand name_of s.records (units_at s.publications n) → RecordsStand name_of s.records (units_at now n)
    stand_now n below stand = subst (RecordsStand name_of s.records) (sym (earlier_stay s.publications p n below)) stand

    abbrev pub PendsBefore : Option ℕ → Type 0
    PendsBefore pending = IfSome pending (λ mark. mark ≡ length s.publications)

    pub publishing-sound : (pending : Option ℕ) → PendsBefore pending → RecordsStand name_of s.records (changed (visible s) p) → IsSound name_of (publishing s p pending)
    publishing-sound pending before stand = record {
      marks = record {
        pending = if_some (λ mark. mark ≡ length s.publications) (λ mark. mark ≤ length now) pending (λ mark is e. longer mark (omega (arith, e))) before;
        imported = if_some (λ i. (s.current ≤ i.mark) × (i.mark ≤ length s.publications)) (λ i. (s.current ≤ i.mark) × (i.mark ≤ length now)) s.import (λ i is q. (q.0, longer i.mark q.1)) h.marks.imported;
        current = longer s.current h.marks.current;
        held = h.marks.held;
      };
      needed = record {
        visible_ones = subst (RecordsStand name_of s.records) (sym (last_changes s.publications p)) stand;
        pending = if_some (λ mark. mark ≡ length s.publications) (λ mark. RecordsStand name_of s.records (units_at now mark)) pending
            (λ mark is e. stand_now mark (omega (arith, e)) (subst (λ n. RecordsStand name_of s.records (units_at s.publications n)) (sym e) h.needed.visible_ones)) before;
        imported = if_both (λ i. (s.current ≤ i.mark) × (i.mark ≤ length s.publications)) (λ i. RecordsStand name_of s.records (units_at s.publications i.mark)) (λ i. RecordsStand name_of s.records (units_at now i.mark))
            s.import (λ i q r. stand_now i.mark q.1 r) h.marks.imported h.needed.imported;
        current = stand_now s.current h.marks.current h.needed.current;
        held = λ j. if_both (λ m. m ≤ s.current) (λ m. RecordsStand name_of s.records (units_at s.publications m)) (λ m. RecordsStand name_of s.records (units_at now m))
            (held_by s j) (λ m q r. stand_now m (let top = h.marks.current in omega arith) r) (h.marks.held j) (h.needed.held j);
      };
      leases = h.leases;
      rising = h.rising;
    }

  -- ---- other record files

  pub records-sound : (after : Files)
      → ((name : List ℕ) → is_needed s name ≡ true → Stays s.records after name)
      → ((lane : ℕ) (lease : Lease) (name : List ℕ) → lease_of s lane ≡ Some lease → has_name name lease.names ≡ true → has_name name lease.put ≡ true → Stays s.records after name)
      → IsStrictlySortedBy text_cmp (keys_of after) → IsSound name_of (with_records s after)
  records-sound after needs leased rising = record {
    marks = record { pending = h.marks.pending; imported = h.marks.imported; current = h.marks.current; held = h.marks.held };
    needed = needed-stay name_of s after needs h.needed;
    leases = λ j. if_some (IsLeaseSound name_of s.records) (IsLeaseSound name_of after) (lease_of s j) (λ lease is own. record {
      leased = own.leased;
      whole = names-kept (StandsWhole name_of s.records) (StandsWhole name_of after) lease.put
          (λ name put whole. (whole.0, stands-stays name_of s.records after name whole.0 (leased j lease name is (name-among (λ q. has_name q lease.names ≡ true) lease.put name own.leased put) put) whole.1)) own.whole;
      staged = own.staged;
    }) (h.leases j);
    rising = rising;
  }
