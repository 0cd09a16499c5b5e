use Rattle.std.proofs.Common.{ap, ◌∙◌, ◌||◌, Bool, List, Option, option_map, take}
use Rattle.std.specs.List.{list_any}
use Rattle.ix_machine.specs.declared.parts.Lease as code_lease
use Rattle.ix_machine.specs.Needs.{option_any, has_name}
use Rattle.ix_machine.specs.PlainState.{lease_seen}
use Rattle.ix_machine.proofs.Plainly.{others-leased}
use Rattle.ix_machine.proofs.may_do.others_lease.Goals as goal

pub returns : goal.returns
returns c =
    let test : List (Option code_lease.Lease) → Bool = list_any (λ lease. option_any (λ l. has_name c.args.name.now l.names) (option_map lease_seen lease)) in
    c.either.ensures
    ∙ (ap (λ (b : Bool). b || c.any_leases-2.result) (c.any_leases.ensures ∙ ap test c.leases_before.ensures)
    ∙ (ap (λ (b : Bool). test (take c.args.lane c.args.leases.now) || b) (c.any_leases-2.ensures ∙ ap test c.leases_behind.ensures)
    ∙ others-leased c.args.name.now c.args.leases.now c.args.lane))
