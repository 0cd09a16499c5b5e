use Rattle.std.proofs.Common.{ap, List, Option, option_map}
use Rattle.std.proofs.lemmas.List.{map-set}
use Rattle.ix_machine.specs.State.{Lease}
use Rattle.ix_machine.specs.PlainState.{state_of, lease_seen}
use Rattle.ix_machine.proofs.parts.Parts.set_lease.Goals as goal

pub returns-then-lane-len : goal.returns-then-lane-len
returns-then-lane-len c =
    ap (λ (ls : List (Option Lease)). record (state_of c.args.self.now) { leases = ls }) (map-set (option_map lease_seen) c.args.self.now.leases.items c.args.lane c.args.lease)
