use Rattle.std.proofs.Common.{ap, ◌∙◌}
use Rattle.std.specs.List.{find}
use Rattle.std.specs.Str.{bytes_eq}
use Rattle.ix_types.proofs.TableRows.{has_name_found}
use Rattle.ix_types.proofs.code_table.CodeTable.has_name.Goals as goal

pub returns : goal.returns
returns g c =
    c.is_some.ensures ∙ has_name_found c.as_slice.result.now c.self.inside.rows.items c.args.self.now c.args.name.now c.row_of_name.result c.as_slice.ensures.value c.self.view_is
    (c.row_of_name.ensures ∙ ap (λ n. find (λ row. bytes_eq row.name.now n) c.as_slice.result.now) c.as_bytes.ensures.value)
