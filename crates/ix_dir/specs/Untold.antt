-- A directory in memory that doesn't tell its moves, as contracts see it.
use Rattle.std.specs.Prelude.{ℕ, ◌-◌, List, length, take, fold, nat_le, if◌then◌else◌, Option, None, Some}
use Rattle.ix_types.specs.Count.{counted}
use Rattle.ix_dir.specs.declared.untold.Reads.{Reads}
use Rattle.ix_dir.specs.declared.untold.Reads.TheVariants.{Whole, Nothing, ByteLess}
use Rattle.ix_dir.specs.declared.untold.ReadsFrom.{ReadsFrom}
use Rattle.ix_dir.specs.InMemory.{InMemory, state_of}
use Rattle.ix_dir.specs.State.{DirState}

pub record Untold : Type 0 where
  -- the directory within, which keeps the moves
  pub inner : InMemory
  -- what a read of a file that is there answers, before the first change
  pub reads : Reads
  -- the changes of that, each from a read on
  pub changes : List ReadsFrom
  -- how many reads were made
  pub made : ℕ
  -- how many reads found a record file
  pub finds : ℕ

-- what contracts see of it as of any directory
abbrev pub state_untold : Untold → DirState
state_untold d = record (state_of d.inner) { moves = None; finds = d.finds }

-- how the read of a number is answered: as the last of the changes says that are made from it or an earlier one
abbrev pub reads_at : Reads → List ReadsFrom → ℕ → Reads
reads_at reads changes number = fold (λ so_far change. if nat_le change.read number then change.reads else so_far) reads changes

-- how the next read is answered
abbrev pub next_reads : Untold → Reads
next_reads d = reads_at d.reads d.changes (counted d.made)

-- what is answered of the bytes of a file that is there
abbrev pub answer_of : Reads → List ℕ → Option (List ℕ)
answer_of Whole bytes = Some bytes
answer_of Nothing bytes = None
answer_of ByteLess bytes = Some (take (length bytes - 1) bytes)
