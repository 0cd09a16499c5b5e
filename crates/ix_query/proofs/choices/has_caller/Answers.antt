use Rattle.std.proofs.Common.{sym, ◌∙◌}
use Rattle.ix_types.specs.Codes.{has_any}
use Rattle.ix_types.specs.declared.code.TheConstants.Roles.{CALLED_BY}
use Rattle.ix_types.specs.declared.row.RelRow.{RelRow}
use Rattle.ix_model.specs.Rows.{relation_row}
use Rattle.ix_query.proofs.Grown.{any-filter_map}
use Rattle.ix_query.proofs.choices.has_caller.Goals as goal

pub returns : goal.returns
returns c = c.any_caller.ensures ∙ sym (any-filter_map (relation_row c.args.symbols.now) (λ (row : RelRow). has_any row.roles CALLED_BY) c.args.relations.now)
