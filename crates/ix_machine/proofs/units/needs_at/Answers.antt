use Rattle.std.proofs.Common.{ap, map, ◌∙◌}
use Rattle.std.specs.List.{list_any}
use Rattle.std.specs.Str.{bytes_eq}
use Rattle.ix_model.specs.Units.{units_at}
use Rattle.ix_machine.specs.Plain.{publication_of}
use Rattle.ix_machine.proofs.Seen.{needs-shown}
use Rattle.ix_machine.proofs.units.needs_at.Goals as goal

pub returns : goal.returns
returns c =
    c.any_lists.ensures
    ∙ (ap (list_any (λ unit. list_any (λ dep. bytes_eq dep.name c.args.name.now) unit.now.value.records)) (c.deref.ensures.value ∙ c.in_ok-all.ensures)
    ∙ needs-shown c.args.name.now c.in_ok-units.units.entries (units_at (map publication_of c.args.changes.now) c.args.mark) c.in_ok-units.ensures)
