-- A directory over a real folder, as contracts see it. It tells nothing of what stands in the folder.
use Rattle.std.specs.Prelude.{ℕ, List, [], Option, None, Bool, true, false, nat_eq}
use Rattle.std.specs.Map.{lookup}
use Rattle.std.specs.Option.{option_map}
use Rattle.ix_dir.specs.State.{DirState}
use Rattle.ix_dir.specs.declared.dir.DirError.{DirError}
use Rattle.ix_dir.specs.declared.dir.DirError.TheVariants.{Failed, Memory}

pub record OnHost : Type 0 where
  -- the staged slots
  pub staged : List (ℕ × Unit {0})
  -- how many renames, removals and syncs may follow
  pub spare : ℕ
  pub faults : ℕ
  pub listings : ℕ
  pub finds : ℕ

-- a slot: it has no bytes that are told, and is None where it isn't staged
abbrev pub slot_on : OnHost → ℕ → Option (List ℕ)
slot_on d slot = option_map (λ _. []) (lookup (nat_eq slot) d.staged)

-- what contracts see of it as of any directory
abbrev pub state_on : OnHost → DirState
state_on d = record { moves = None; slots = slot_on d; spare = d.spare; faults = d.faults; listings = d.listings; finds = d.finds }

-- whether it is the outside that failed
abbrev pub is_fault : DirError → Bool
is_fault Failed = true
is_fault Memory = false
