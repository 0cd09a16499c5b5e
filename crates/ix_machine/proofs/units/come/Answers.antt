use Rattle.std.proofs.Common.{ap, ◌∙◌}
use Rattle.ix_machine.specs.PlainMap.{shown}
use Rattle.ix_machine.proofs.Seen.{seen_by-insert_entry}
use Rattle.ix_machine.proofs.units.come.Goals as goal

pub returns-in-Ok : goal.returns-in-Ok
returns-in-Ok c = ap shown c.in-Ok.ensures.entries ∙ seen_by-insert_entry (λ b. b.now.value) c.args.units.now.entries c.args.name c.args.unit
