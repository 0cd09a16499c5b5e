-- What contracts see of a directory. Its counts are of 64 bits: they rise by one and never fall, and stand still at the greatest value.
use Rattle.std.specs.Prelude.{ℕ, ◌-◌, if◌then◌else◌, Bool, List, [], Option, is_some, unwrap_or, nat_eq}
use Rattle.ix_types.specs.Count.{counted}
use Rattle.ix_dir.specs.declared.moves.Move.{Move}

pub record DirState : Type 0 where
  -- the moves so far, where the directory tells them
  pub moves : Option (List Move)
  -- of each slot the bytes that it was given, whole, where it is staged; what they are is said where the moves are told
  pub slots : ℕ → Option (List ℕ)
  -- how many renames, removals and syncs may follow
  pub spare : ℕ
  -- how often the outside has failed
  pub faults : ℕ
  -- how often a list was answered
  pub listings : ℕ
  -- how often a read found a record file
  pub finds : ℕ

abbrev pub is_staged : DirState → ℕ → Bool
is_staged d slot = is_some (d.slots slot)

abbrev pub staged_bytes : DirState → ℕ → List ℕ
staged_bytes d slot = unwrap_or (d.slots slot) []

-- the slots with this one so
abbrev pub with_slot : (ℕ → Option (List ℕ)) → ℕ → Option (List ℕ) → ℕ → Option (List ℕ)
with_slot slots slot bytes other = if nat_eq slot other then bytes else slots other

-- the count after a call, which it counts or not
abbrev pub counted_where : Bool → ℕ → ℕ
counted_where is_counted count = if is_counted then counted count else count

-- one rename, removal or sync fewer may follow
abbrev pub spent : DirState → DirState
spent d = record d { spare = d.spare - 1 }

-- the outside failed once more
abbrev pub failed : DirState → DirState
failed d = record d { faults = counted d.faults }
