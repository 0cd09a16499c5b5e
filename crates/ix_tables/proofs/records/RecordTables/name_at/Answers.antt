use Rattle.std.proofs.Common.{ap, ◌∙◌}
use Rattle.std.specs.List.{flat_map, slice_get}
use Rattle.ix_outline.specs.Facts.{naming}
use Rattle.ix_outline.specs.Finding.{keys_given}
use Rattle.ix_tables.proofs.records.RecordTables.name_at.Goals as goal

pub returns : goal.returns
returns c =
    c.key_at.ensures
    ∙ (ap (λ ks. slice_get ks c.args.place) (c.an_index_finds_what_facts_give.ensures.keys c.self.inside.named (flat_map naming c.self.inside.map) c.self.invariant.names)
    ∙ ap (λ es. slice_get (keys_given (flat_map naming es)) c.args.place) c.self.view_is)
