-- The plain machine's state, as the definitions see it.
use Rattle.std.specs.Prelude.{ℕ, List, [], ◌∷◌, map, Option, Some, None, option_map}
use Rattle.ix_machine.specs.declared.parts.Lease as code_lease
use Rattle.ix_machine.specs.declared.parts.Import as code_import
use Rattle.ix_machine.specs.declared.parts.Parts.{Parts}
use Rattle.ix_machine.specs.Plain.{publication_of}
use Rattle.ix_machine.specs.State.{Lease, Import, State}
use Rattle.ix_machine.specs.declared.event.Outcome.{Outcome}
use Rattle.ix_machine.specs.Step.{Stepped}

abbrev pub lease_seen : code_lease.Lease → Lease
lease_seen l = record { names = l.names; put = l.put; staged = option_map (λ unit. unit.value) l.staged }

abbrev pub leases_seen : List (Option code_lease.Lease) → List (Option Lease)
leases_seen leases = map (option_map lease_seen) leases

abbrev pub import_seen : code_import.Import → Import
import_seen i = record { lane = i.lane; mark = i.mark }

abbrev pub state_of : Parts → State
state_of p = record {
  publications = map publication_of p.changes.items;
  pending = p.pending;
  records = p.records.entries;
  leases = leases_seen p.leases.items;
  import = option_map import_seen p.import;
  current = p.current;
  held = p.held.items;
}

-- with this change pending, or none
abbrev pub with_pending : Option ℕ → State → State
with_pending pending s = record s { pending = pending }

-- the first one, if there is one
abbrev pub first_of : List (List ℕ) → Option (List ℕ)
first_of [] = None
first_of (name ∷ names) = Some name

-- what a step answers, and the state that it leaves: none, and the state from before, where there is no step
abbrev pub answered : State → Option Stepped → Option Outcome × State
answered s None = (None, s)
answered s (Some stepped) = (Some stepped.outcome, stepped.state)
