use Rattle.std.proofs.Common.{◌∙◌, ap, map, List, None}
use Rattle.ix_model.specs.declared.publication.Publication.TheVariants as model
use Rattle.ix_machine.specs.declared.opened.StoredUnit.{StoredUnit}
use Rattle.ix_machine.specs.PlainOpened.{found_unit, files_of}
use Rattle.ix_machine.specs.PlainState.{leases_seen}
use Rattle.ix_machine.proofs.Plainly.{found_publications, no-leases}
use Rattle.ix_machine.proofs.machine.Machine.new.Goals as goal

pub returns : goal.returns
returns c =
    let publications = c.in_ok-changes_of.ensures ∙ (ap (λ (units : List StoredUnit). map (λ u. model.Put u.name (found_unit u)) units) c.as_slice.ensures ∙ found_publications c.args.opened.now.units) in
    let records = c.in_ok-files_of.ensures ∙ ap files_of c.as_slice-2.ensures in
    let leases = ap leases_seen c.in_ok-no_leases.ensures ∙ no-leases c.args.lanes in
    let held = c.in_ok-no_holds.ensures in
    record { begun = λ i. record { publications = publications i; pending = None; records = records i; leases = leases i; import = None; current = 0; held = held i } }
