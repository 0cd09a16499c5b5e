-- Which events are counted, and one event more.
use Rattle.std.proofs.Common.{◌≡◌, inl, inr, ℕ, Bool, true, false, List, [], ◌∷◌, ◌++◌, length, if◌then◌else◌, refl, sym, arith}
use Rattle.std.proofs.lemmas.List.{append-nil}
use Rattle.ix_dir.specs.State.{counted_where}
use Rattle.ix_machine.specs.declared.event.Call.{Call}
use Rattle.ix_machine.specs.declared.event.Call.TheVariants.{Lease, Put, Stage, Publish, Remove, Scan, Load, Install, Adopt, Release, Collect}
use Rattle.ix_machine.specs.declared.event.Event.{Event}
use Rattle.ix_machine.specs.declared.event.Outcome.{Outcome}
use Rattle.ix_machine.specs.declared.event.Outcome.TheVariants.{Done, Written, Shared, Clash, Synced, Unsynced, NoUnit, At, Removed, Nothing, Fault, Lost, Damaged}
use Rattle.ix_counts.specs.Counting.{AreCounted, Counts, RoseBy, RoseWhere, has_mark, is_failure, is_loaded, is_scanned}
use Rattle.ix_machine.specs.Outcomes.{is_done}

-- ---- which outcomes

never : {P : Type 0} → ◌≡◌ {A = Bool} false true → P
never is = absurd (cc)

done_is : (outcome : Outcome) → is_done outcome ≡ true → outcome ≡ Done
done_is Done is = refl
done_is Written is = never is
done_is Shared is = never is
done_is Clash is = never is
done_is Synced is = never is
done_is Unsynced is = never is
done_is NoUnit is = never is
done_is (At mark) is = never is
done_is (Removed name) is = never is
done_is Nothing is = never is
done_is Fault is = never is
done_is (Lost name) is = never is
done_is (Damaged name) is = never is

mark_is : (outcome : Outcome) → has_mark outcome ≡ true → (mark : ℕ) × (outcome ≡ At mark)
mark_is Done is = never is
mark_is Written is = never is
mark_is Shared is = never is
mark_is Clash is = never is
mark_is Synced is = never is
mark_is Unsynced is = never is
mark_is NoUnit is = never is
mark_is (At mark) is = (mark, refl)
mark_is (Removed name) is = never is
mark_is Nothing is = never is
mark_is Fault is = never is
mark_is (Lost name) is = never is
mark_is (Damaged name) is = never is

-- ---- which events

pub loaded_is : (call : Call) (outcome : Outcome) → is_loaded call outcome ≡ true → ((name : List ℕ) × (call ≡ Load name)) × (outcome ≡ Done)
loaded_is (Lease names) outcome is = never is
loaded_is (Put name) outcome is = never is
loaded_is (Stage unit) outcome is = never is
loaded_is (Publish unit) outcome is = never is
loaded_is (Remove unit) outcome is = never is
loaded_is Scan outcome is = never is
loaded_is (Load name) outcome is = ((name, refl), done_is outcome is)
loaded_is Install outcome is = never is
loaded_is Adopt outcome is = never is
loaded_is Release outcome is = never is
loaded_is Collect outcome is = never is

pub scanned_is : (call : Call) (outcome : Outcome) → is_scanned call outcome ≡ true → (call ≡ Scan) × ((mark : ℕ) × (outcome ≡ At mark))
scanned_is (Lease names) outcome is = never is
scanned_is (Put name) outcome is = never is
scanned_is (Stage unit) outcome is = never is
scanned_is (Publish unit) outcome is = never is
scanned_is (Remove unit) outcome is = never is
scanned_is Scan outcome is = (refl, mark_is outcome is)
scanned_is (Load name) outcome is = never is
scanned_is Install outcome is = never is
scanned_is Adopt outcome is = never is
scanned_is Release outcome is = never is
scanned_is Collect outcome is = never is

pub is_load : (call : Call) (outcome : Outcome) → ((name : List ℕ) × (call ≡ Load name)) × (outcome ≡ Done) → is_loaded call outcome ≡ true
is_load call outcome both = cc (both.0.1, both.1)

pub is_scan : (call : Call) (outcome : Outcome) → (call ≡ Scan) × ((mark : ℕ) × (outcome ≡ At mark)) → is_scanned call outcome ≡ true
is_scan call outcome both = cc (both.0, both.1.1)

-- ---- one event more

counts_failure : (b : Bool) (event : Event) (before after : ℕ) → after ≡ counted_where b before → RoseBy (length (if b then event ∷ [] else [])) before after
counts_failure true event before after is = omega (arith, is)
counts_failure false event before after is = omega (arith, is)

counts_asked : (b : Bool) (event : Event) (before after : ℕ) → RoseWhere b before after → RoseBy (length (if b then event ∷ [] else [])) before after
counts_asked true event before after is = omega (arith, is)
counts_asked false event before after (inl is) = omega (arith, is)
counts_asked false event before after (inr is) = omega (arith, is)

pub one : (earlier : List Event) (event : Event) (before after : Counts) → after.faults ≡ counted_where (is_failure event.outcome) before.faults
    → RoseWhere (is_loaded event.call event.outcome) before.finds after.finds → RoseWhere (is_scanned event.call event.outcome) before.listings after.listings
    → AreCounted earlier before (earlier ++ event ∷ []) after
one earlier event before after faults finds listings = record {
  more = event ∷ [];
  added = refl;
  rose = counts_failure (is_failure event.outcome) event before.faults after.faults faults;
  found = counts_asked (is_loaded event.call event.outcome) event before.finds after.finds finds;
  listed = counts_asked (is_scanned event.call event.outcome) event before.listings after.listings listings;
}

stays : (before after : ℕ) → RoseWhere false before after → RoseBy 0 before after
stays before after (inl is) = omega (arith, is)
stays before after (inr is) = omega (arith, is)

pub unchanged : (events : List Event) (before after : Counts) → after.faults ≡ before.faults → RoseWhere false before.finds after.finds → RoseWhere false before.listings after.listings
    → AreCounted events before events after
unchanged events before after faults finds listings = record {
  more = [];
  added = sym (append-nil events);
  rose = omega (arith, faults);
  found = stays before.finds after.finds finds;
  listed = stays before.listings after.listings listings;
}
