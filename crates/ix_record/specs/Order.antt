-- The order of symbols, relations and occurrences.
use Rattle.std.specs.declared.cmp.Ordering.{Ordering}
use Rattle.std.specs.Ordering.{nat_cmp, on, then_cmp}
use Rattle.std.specs.Cmp.Lexicographic.{slice_cmp}
use Rattle.ix_record.specs.declared.value.Symbol.{Symbol}
use Rattle.ix_record.specs.declared.value.Relation.{Relation}
use Rattle.ix_record.specs.declared.value.Occurrence.{Occurrence}

-- by USR, whose bytes are compared one after the other, a proper prefix being the smaller
abbrev pub symbol_cmp : Symbol → Symbol → Ordering
symbol_cmp = on (λ s. s.usr) (slice_cmp nat_cmp)

-- by symbol and roles
abbrev pub relation_cmp : Relation → Relation → Ordering
relation_cmp = then_cmp (on (λ r. r.symbol) nat_cmp) (on (λ r. r.roles) nat_cmp)

-- by line, column, symbol, roles and the lists of relations, pair by pair, a proper prefix being the smaller
abbrev pub occurrence_cmp : Occurrence → Occurrence → Ordering
occurrence_cmp =
    then_cmp (on (λ o. o.line) nat_cmp)
    (then_cmp (on (λ o. o.column) nat_cmp)
    (then_cmp (on (λ o. o.symbol) nat_cmp)
    (then_cmp (on (λ o. o.roles) nat_cmp)
    (on (λ o. o.relations) (slice_cmp relation_cmp)))))
