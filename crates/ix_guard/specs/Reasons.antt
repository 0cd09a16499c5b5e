-- Why a record must stay, in other words: each way is one that can be shown.
use Rattle.std.specs.Prelude.{◌≡◌, ◌≢◌, ℕ, true, List, Some, Contains, slice_get}
use Rattle.std.specs.Map.{lookup, keys_of}
use Rattle.std.specs.BTreeMap.{is_at}
use Rattle.ix_types.specs.Row.{text_cmp}
use Rattle.ix_guard.specs.Counts.{Counts, names_of}
use Rattle.ix_guard.specs.Guarding.{Guarding, Lease}

-- a need list of the guard has the name
pub data IsNeededBy (g : Guarding) (name : List ℕ) : Type 0 where
  the_visible_units : Contains (names_of g.visible) name → IsNeededBy g name
  the_units_before : (list : Counts) → g.unsynced ≡ Some list → Contains (names_of list) name → IsNeededBy g name
  the_open_import : (list : Counts) → g.import ≡ Some list → Contains (names_of list) name → IsNeededBy g name
  the_current_version : Contains (names_of g.current) name → IsNeededBy g name
  a_hold : (lane : ℕ) (list : Counts) → slice_get g.held lane ≡ Some (Some list) → Contains (names_of list) name → IsNeededBy g name

-- the lane's lease has the name
pub record IsLeasedBy (g : Guarding) (lane : ℕ) (name : List ℕ) : Type 0 where
  pub lease : Lease
  pub is : slice_get g.leases lane ≡ Some (Some lease)
  pub has : Contains (keys_of lease) name

-- some lane's lease has the name
pub record IsLeasedBySome (g : Guarding) (name : List ℕ) : Type 0 where
  pub lane : ℕ
  pub leased : IsLeasedBy g lane name

-- the lease of a lane other than this one has the name
pub record IsLeasedByAnother (g : Guarding) (lane : ℕ) (name : List ℕ) : Type 0 where
  pub other : ℕ
  pub apart : other ≢ lane
  pub leased : IsLeasedBy g other name

-- the lane has noted the name as put under its lease
pub record IsPutBy (g : Guarding) (lane : ℕ) (name : List ℕ) : Type 0 where
  pub lease : Lease
  pub is : slice_get g.leases lane ≡ Some (Some lease)
  pub has : lookup (is_at (text_cmp name)) lease ≡ Some true
