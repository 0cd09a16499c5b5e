-- What a ledger keeps of a state of the machine.
use Rattle.std.specs.Prelude.{◌≡◌, ℕ, List, length, map, Some, Option, option_map, option_and_then}
use Rattle.ix_unit.specs.declared.value.UnitValue.{UnitValue}
use Rattle.ix_model.specs.Units.{Units}
use Rattle.ix_machine.specs.declared.event.Outcome.{Outcome}
use Rattle.ix_machine.specs.Given.{Given}
use Rattle.ix_machine.specs.Laws.{AreNamed}
use Rattle.ix_machine.specs.Needs.{visible}
use Rattle.ix_machine.specs.Sound.{IsSound}
use Rattle.ix_machine.specs.State.{State, Lease}
use Rattle.ix_machine.specs.Step.{ended, step}
use Rattle.ix_guard.specs.OfMachine.{guarding_of}
use Rattle.ix_ledger.specs.Kept.{Kept, Named}

-- units by name, without the values of their records
abbrev pub named_of : Units → Named
named_of units = map (λ entry. (entry.0, entry.1.unit)) units

-- the unit that is staged under a lease
abbrev pub staged_under : Option Lease → Option UnitValue
staged_under lease = option_and_then (λ l. l.staged) lease

abbrev pub kept_of : State → Kept
kept_of s = record {
  guard = guarding_of s;
  units = named_of (visible s);
  published = length s.publications;
  pending = s.pending;
  import = s.import;
  current = s.current;
  held = s.held;
  staged = map staged_under s.leases;
}

-- the ledger stands for the state: it keeps what it must, the state is sound, and each visible unit has the name of its output path
pub record Keeps (name_of : List ℕ → List ℕ) (kept : Kept) (s : State) : Type 0 where
  pub is : kept ≡ kept_of s
  pub sound : IsSound name_of s
  pub named : AreNamed name_of (visible s)

-- the machine takes the call with this flag, ends it so, and comes to a state for which the ledger stands
pub record Makes (name_of : List ℕ → List ℕ) (s : State) (lane : ℕ) (given : Given) (flag outcome : Outcome) (kept : Kept) (next : State) : Type 0 where
  pub taken : step name_of s lane given flag ≡ Some (ended outcome next)
  pub keeps : Keeps name_of kept next
