-- The guard that a state of the machine has.
use Rattle.std.specs.Prelude.{map, option_map}
use Rattle.ix_types.specs.Row.{text_cmp}
use Rattle.ix_model.specs.SortedSet.{sorted_set}
use Rattle.ix_model.specs.Units.{units_at}
use Rattle.ix_machine.specs.Needs.{has_name, visible, seen_at}
use Rattle.ix_machine.specs.State.{State}
use Rattle.ix_machine.specs.State as state
use Rattle.ix_guard.specs.Guarding.{Guarding, Lease}
use Rattle.ix_guard.specs.Listing.{need_list_of}

-- the leased names, rising, each with whether it was put
abbrev pub lease_for : state.Lease → Lease
lease_for lease = map (λ name. (name, has_name name lease.put)) (sorted_set text_cmp lease.names)

-- the leases, and the need lists of the units that are visible, that were before a pending change, and that are seen by the open
-- import, at the current version and at each version that a lane holds
abbrev pub guarding_of : State → Guarding
guarding_of s = record {
  leases = map (option_map lease_for) s.leases;
  visible = need_list_of (visible s);
  unsynced = option_map (λ mark. need_list_of (units_at s.publications mark)) s.pending;
  import = option_map (λ open_import. need_list_of (seen_at s open_import.mark)) s.import;
  current = need_list_of (seen_at s s.current);
  held = map (option_map (λ mark. need_list_of (seen_at s mark))) s.held;
}
