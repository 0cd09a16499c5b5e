-- The order of rows: field by field, as the fields stand.
use Rattle.std.specs.Prelude.{ℕ, List}
use Rattle.std.specs.declared.cmp.Ordering.{Ordering}
use Rattle.std.specs.Ordering.{nat_cmp, ordering_then}
use Rattle.std.specs.Cmp.Lexicographic.{slice_cmp}
use Rattle.ix_types.specs.declared.row.RelRow.{RelRow}
use Rattle.ix_types.specs.declared.row.OccRow.{OccRow}
use Rattle.ix_types.specs.declared.row.EdgeRow.{EdgeRow}

-- texts and names are ordered by their bytes, a proper prefix being the smaller
abbrev pub text_cmp : List ℕ → List ℕ → Ordering
text_cmp = slice_cmp nat_cmp

abbrev pub relation_cmp : RelRow → RelRow → Ordering
relation_cmp a b = ordering_then (text_cmp a.usr b.usr) (nat_cmp a.roles b.roles)

abbrev pub occurrence_cmp : OccRow → OccRow → Ordering
occurrence_cmp a b =
    ordering_then (text_cmp a.path b.path)
    (ordering_then (nat_cmp a.line b.line)
    (ordering_then (nat_cmp a.column b.column)
    (ordering_then (text_cmp a.usr b.usr)
    (ordering_then (text_cmp a.name b.name)
    (ordering_then (nat_cmp a.kind b.kind)
    (ordering_then (nat_cmp a.lang b.lang)
    (ordering_then (nat_cmp a.props b.props)
    (ordering_then (nat_cmp a.roles b.roles)
    (slice_cmp relation_cmp a.relations b.relations)))))))))

abbrev pub edge_cmp : EdgeRow → EdgeRow → Ordering
edge_cmp a b =
    ordering_then (nat_cmp a.depth b.depth)
    (ordering_then (text_cmp a.from b.from)
    (ordering_then (text_cmp a.to b.to)
    (ordering_then (text_cmp a.path b.path)
    (ordering_then (nat_cmp a.line b.line)
    (nat_cmp a.column b.column)))))
