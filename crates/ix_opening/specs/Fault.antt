-- How an opening failed, and what it does to the counts of the directory.
use Rattle.std.specs.Prelude.{ℕ, ◌-◌, ◌^◌, ◌≤◌, Bool, true, false, Result, Ok, Err}
use Rattle.ix_dir.specs.declared.dir.DirError.{DirError}
use Rattle.ix_dir.specs.declared.dir.DirError.TheVariants as dir
use Rattle.ix_opening.specs.declared.fault.OpenError.{OpenError}
use Rattle.ix_opening.specs.declared.fault.OpenError.TheVariants as failure

-- the error that a fault of the directory is
abbrev pub open_error : DirError → OpenError
open_error dir.Failed = failure.Fault
open_error dir.Memory = failure.Memory

-- an opening that failed
abbrev pub open_failed : {X : Type 0} → Result X OpenError → Bool
open_failed (Ok x) = false
open_failed (Err failure.Fault) = true
open_failed (Err failure.Memory) = false

-- a count, which stands still at the greatest u64, is as high as it was
abbrev pub HasNotFallen : ℕ → ℕ → Type 0
HasNotFallen before now = (n : ℕ) → n ≤ 2 ^ 64 - 1 → n ≤ before → n ≤ now
