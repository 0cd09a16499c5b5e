use Rattle.std.proofs.Common.{◌≡◌, ap, sym, option_map, ◌∙◌, List, Option}
use Rattle.std.specs.List.{list_any}
use Rattle.ix_machine.specs.declared.parts.Lease as code_lease
use Rattle.ix_machine.specs.Needs.{option_any, has_name, is_leased}
use Rattle.ix_machine.specs.PlainState.{lease_seen, leases_seen}
use Rattle.ix_machine.specs.State.{Lease}
use Rattle.ix_machine.proofs.Seen.{any-map}
use Rattle.ix_machine.proofs.parts.Parts.is_spared.Goals as goal

pub returns : goal.returns
returns c =
    let name = c.args.name.now in
    let leases = c.args.self.now.leases.items in
    let leased : c.any_leases.result ≡ is_leased name (leases_seen leases) =
    c.any_leases.ensures
    ∙ (ap (λ (ls : List (Option code_lease.Lease)). list_any (λ lease. option_any (λ l. has_name name l.names) (option_map lease_seen lease)) ls) c.deref.ensures.value
    ∙ sym (any-map (option_any (λ (l : Lease). has_name name l.names)) (option_map lease_seen) leases)) in
    let needed = c.in_ok-needed.ensures in
    cc
