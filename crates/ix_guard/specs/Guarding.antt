-- What a guard knows.
use Rattle.std.specs.Prelude.{ℕ, List, [], Option, None, Bool, true, false, replicate, map, slice_index_or}
use Rattle.std.specs.BTreeMap.{insert_entry}
use Rattle.ix_types.specs.Row.{text_cmp}
use Rattle.ix_model.specs.SortedSet.{sorted_set}
use Rattle.ix_guard.specs.Counts.{Counts}

-- the leased names, rising, each with whether it was put
abbrev pub Lease : Type 0
Lease = List (List ℕ × Bool)

pub record Guarding : Type 0 where
  -- for each lane its lease
  pub leases : List (Option Lease)
  -- what the visible units need
  pub visible : Counts
  -- where the last change of the units is unsynced: what the units before it need
  pub unsynced : Option Counts
  -- what the units of the open import need
  pub import : Option Counts
  -- what the units of the current version need
  pub current : Counts
  -- for each lane what the units of the version that it holds need
  pub held : List (Option Counts)

-- a guard of so many lanes that guards nothing
abbrev pub guarding_nothing : ℕ → Guarding
guarding_nothing lanes = record {
  leases = replicate lanes None;
  visible = [];
  unsynced = None;
  import = None;
  current = [];
  held = replicate lanes None;
}

-- a lease of some names, none of them put
abbrev pub lease_of_names : List (List ℕ) → Lease
lease_of_names names = map (λ name. (name, false)) (sorted_set text_cmp names)

-- the lease with the name noted as put
abbrev pub with_put : List ℕ → Lease → Lease
with_put name lease = insert_entry text_cmp lease name true

-- the lease of a lane
abbrev pub lease_of : Guarding → ℕ → Option Lease
lease_of g lane = slice_index_or g.leases lane None
