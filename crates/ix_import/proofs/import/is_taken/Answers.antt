use Rattle.std.proofs.Common.{Global, Bor, ◌∙◌}
use Rattle.std.specs.Option.{option_copied}
use Rattle.std.specs.declared.sync.Arc.{Arc}
use Rattle.ix_types.specs.Row.{text_cmp}
use Rattle.ix_pages.specs.Pairs.{look_up}
use Rattle.ix_outline.specs.declared.outline.Outline.{Outline}
use Rattle.ix_tables.specs.Sharing.{shared_value}
use Rattle.ix_import.proofs.Taken.{viewed_some, copied_some}
use Rattle.ix_import.proofs.import.is_taken.Goals as goal

pub returns : goal.returns
returns c =
    c.is_some.ensures
    ∙ (copied_some c.get.result
    ∙ viewed_some (λ (outline : Arc Outline Global). shared_value outline) (option_copied c.get.result) (look_up text_cmp c.args.taken.now c.args.name.now) c.get.ensures)
