use Rattle.std.proofs.Common.{ap, sym, ◌∙◌}
use Rattle.std.specs.BTreeMap.{is_at}
use Rattle.ix_types.specs.Row.{text_cmp}
use Rattle.ix_machine.specs.Plain.{changed_map, publication_of}
use Rattle.ix_machine.specs.PlainMap.{shown}
use Rattle.ix_machine.proofs.Seen.{seen_by-remove_entry}
use Rattle.ix_machine.proofs.units.apply.Goals as goal

pub returns-in-Gone : goal.returns-in-Gone
returns-in-Gone c =
    ap shown c.remove.ensures.entries
    ∙ (seen_by-remove_entry (λ b. b.now.value) (is_at (text_cmp c.in-Gone.name)) c.args.units.now.entries
    ∙ ap (λ p. changed_map (shown c.args.units.now.entries) (publication_of p)) (sym c.in-Gone.is))
