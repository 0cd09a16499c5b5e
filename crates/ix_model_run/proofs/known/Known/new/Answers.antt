use Rattle.std.proofs.Common.{◌∙◌, ap, map, List}
use Rattle.ix_model.specs.declared.publication.Publication.TheVariants as model
use Rattle.ix_machine.specs.declared.opened.StoredUnit.{StoredUnit}
use Rattle.ix_machine.specs.PlainOpened.{found_unit, files_of}
use Rattle.ix_machine.proofs.Plainly.{found_publications}
use Rattle.ix_model_run.proofs.known.Known.new.Goals as goal

pub returns : goal.returns
returns c =
    let publications = c.in_ok-publications_of.ensures ∙ (ap (λ (units : List StoredUnit). map (λ u. model.Put u.name (found_unit u)) units) c.as_slice.ensures ∙ found_publications c.args.opened.now.units) in
    let records = c.in_ok-files_of.ensures ∙ ap files_of c.as_slice-2.ensures in
    let staged = c.in_ok-none_staged.ensures in
    λ i. record { publications = publications i; records = records i; current = 0; staged = staged i }
