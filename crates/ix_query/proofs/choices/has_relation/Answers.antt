use Rattle.std.proofs.Common.{◌&&◌, sym, ◌∙◌}
use Rattle.std.specs.Str.{bytes_eq}
use Rattle.ix_types.specs.Codes.{has_any}
use Rattle.ix_types.specs.declared.row.RelRow.{RelRow}
use Rattle.ix_model.specs.Rows.{relation_row}
use Rattle.ix_query.proofs.Grown.{any-filter_map}
use Rattle.ix_query.proofs.choices.has_relation.Goals as goal

pub returns : goal.returns
returns c =
    c.any_leads_to.ensures
    ∙ sym (any-filter_map (relation_row c.args.symbols.now) (λ (row : RelRow). bytes_eq row.usr c.args.usr.now && has_any row.roles c.args.mask) c.args.relations.now)
