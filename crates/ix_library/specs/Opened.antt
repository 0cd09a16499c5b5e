-- What an opening finds, which directory comes back, and how it failed.
use Rattle.std.specs.Prelude.{◌≡◌, ℕ, Bool, true, false, List, Option, IfSome, Result, Ok, Err}
use Rattle.std.specs.FinMap.{entries}
use Rattle.std.specs.List.Sorted.{IsStrictlySortedBy}
use Rattle.std.specs.Map.{keys_of}
use Rattle.ix_types.specs.Row.{text_cmp}
use Rattle.ix_dir.specs.declared.area.Area.TheVariants.{Units, Records}
use Rattle.ix_dir.specs.declared.moves.Move.{Move}
use Rattle.ix_dir.specs.Crash.{standing}
use Rattle.ix_dir.specs.State.{DirState}
use Rattle.ix_machine.specs.declared.opened.Refused.{Refused}
use Rattle.ix_machine.specs.Opening.{opening}
use Rattle.ix_machine.specs.Run.{IsSoundOpening, begun}
use Rattle.ix_machine.specs.State.{Files}
use Rattle.ix_ledger.specs.Kept.{Kept}
use Rattle.ix_ledger.specs.OfState.{Keeps}
use Rattle.ix_opening.specs.declared.fault.OpenError.{OpenError}
use Rattle.ix_opening.specs.declared.fault.OpenError.TheVariants.{Fault, Memory}

-- the directory that comes back, with the library or with the error
abbrev pub came_back : {A B : Type 0} → Result A B → (A → DirState) → (B → DirState) → DirState
came_back (Ok started) of_started of_error = of_started started
came_back (Err e) of_started of_error = of_error e

-- files that were read, the units rising by name: the library begins with what opening finds of these, and where the moves are told they are those
-- that stand
pub record BeginsWith (name_of : List ℕ → List ℕ) (moves : Option (List Move)) (lanes : ℕ) (refused : List Refused) (kept : Kept) : Type 0 where
  pub units : Files
  pub records : Files
  pub sound : IsSoundOpening name_of (opening name_of units records)
  pub rising : IsStrictlySortedBy text_cmp (keys_of units)
  pub refuses : refused ≡ (opening name_of units records).refused
  pub keeps : Keeps name_of kept (begun (opening name_of units records) lanes)
  pub stand : IfSome moves (λ m. (units ≡ entries (standing m Units)) × (records ≡ entries (standing m Records)))

-- whether the directory failed
abbrev pub open_faulted : OpenError → Bool
open_faulted Fault = true
open_faulted Memory = false
