use Rattle.std.proofs.Common.{map, ap, ◌∙◌, List}
use Rattle.ix_types.specs.declared.row.Row.TheVariants.{Edge}
use Rattle.ix_types.specs.declared.row.EdgeRow.{EdgeRow}
use Rattle.ix_types.specs.Row.{edge_cmp}
use Rattle.ix_model.specs.SortedSet.{sorted_set}
use Rattle.ix_levels.specs.Trail.{Trail}
use Rattle.ix_hierarchy.proofs.open_walk.OpenWalk.into_answer.Goals as goal

pub returns : goal.returns
returns c query units bodies o done =
    c.of.ensures ∙ (c.in_ok-as_rows.ensures ∙ (ap (λ (es : List EdgeRow). map Edge es) c.set_of_edges-edges.ensures ∙ (ap (λ (t : Trail). map Edge (sorted_set edge_cmp t.edges)) c.self.view_is ∙ c.walks_end_with_the_answer.ensures query units bodies c.args.self o done)))
